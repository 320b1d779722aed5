use Rattle.std.proofs.Common.{refl}
use Rattle.std.proofs.lemmas.Result.{on_ok_weaker}
use Rattle.lexemes.specs.declared.token.Mark.TheVariants.{Comma}
use Rattle.auth_syntax.specs.Grammar.{type_tokens, types_tokens}
use Rattle.auth_syntax.specs.Trees.{type_of}
use Rattle.auth_syntax.proofs.Types.{type_tokens-some}
use Rattle.printed_syntax.specs.LineViews.{line_of}
use Rattle.printed_syntax.proofs.LineLemmas.{row_in_parentheses}
use Rattle.printed_syntax.proofs.printer.Printer.field_types.Goals as goal

-- with the parentheses
pub returns : goal.returns
returns c =
    on_ok_weaker c.mark-2.result
    (row_in_parentheses Comma type_tokens types_tokens type_tokens-some (λ t. refl) (λ t next rest. refl) type_of (line_of c.args.self.now) c.args.types.now
    (line_of c.mark.new.self) (line_of c.types.new.self) (line_of c.mark-2.new.self) c.if-is_empty.ensures c.in_ok-mark.ensures c.in_ok-types.ensures)
    c.mark-2.ensures
