use Rattle.std.proofs.Common.{arith}
use Rattle.lexemes.specs.PieceViews.{piece_view}
use Rattle.lexemes.proofs.NumberLemmas.{first_int}
use Rattle.lexemes.proofs.lexer.pieces.first_piece.Goals as goal

pub returns-in-48-to-57 : goal.returns-in-48-to-57
returns-in-48-to-57 c =
    first_int c.args.format c.args.text.now c.args.first c.args.behind.now c.digits_len.result (piece_view c.int_piece.result) c.requires c.digits_len.ensures (omega arith) (omega arith) c.int_piece.ensures.plain
