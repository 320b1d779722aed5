use Rattle.std.proofs.Common.{refl, ◌∷◌, [], arith}
use Rattle.std.proofs.lemmas.Result.{on_ok_weaker}
use Rattle.lexemes.specs.declared.token.Mark.TheVariants.{Comma}
use Rattle.auth_syntax.specs.Syntax.{NameSyntax}
use Rattle.auth_syntax.specs.Grammar.{lower, names_tokens}
use Rattle.auth_syntax.specs.Trees.{name_of}
use Rattle.printed_syntax.specs.LineViews.{line_of}
use Rattle.printed_syntax.proofs.LineLemmas.{row_in_parentheses}
use Rattle.printed_syntax.proofs.printer.Printer.field_names.Goals as goal

-- with the parentheses
pub returns : goal.returns
returns c =
    on_ok_weaker c.mark-2.result
    (row_in_parentheses Comma (λ (name : NameSyntax). lower name ∷ []) names_tokens (λ name. omega arith) (λ t. refl) (λ t next rest. refl) name_of (line_of c.args.self.now) c.args.names.now
    (line_of c.mark.new.self) (line_of c.names.new.self) (line_of c.mark-2.new.self) c.if-is_empty.ensures c.in_ok-mark.ensures c.in_ok-names.ensures)
    c.mark-2.ensures
