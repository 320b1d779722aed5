use Rattle.std.proofs.Common.{ap, arith, length}
use Rattle.std.specs.Char.{is_ascii_digit}
use Rattle.std.proofs.lemmas.List.Sums.{prefix_len-le-length}
use Rattle.lexemes.specs.PieceViews.{piece_view}
use Rattle.lexemes.proofs.NumberLemmas.{minus_int}
use Rattle.lexemes.proofs.lexer.pieces.minus_piece.Goals as goal

pub overflow_add-digits_len : goal.overflow_add-digits_len
overflow_add-digits_len c = omega (arith, prefix_len-le-length is_ascii_digit c.args.behind.now, ap length c.requires)

pub returns-in-48-to-57 : goal.returns-in-48-to-57
returns-in-48-to-57 c =
    minus_int c.args.text.now c.args.behind.now c.digits_len.result (piece_view c.int_piece.result) c.requires c.digits_len.ensures (omega arith) (omega arith) (omega arith) c.int_piece.ensures.minus
