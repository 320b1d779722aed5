use Rattle.std.proofs.Common.{refl, ◌∷◌, []}
use Rattle.lexemes.specs.declared.token.Mark.TheVariants.{Comma}
use Rattle.auth_syntax.specs.Syntax.{NameSyntax}
use Rattle.auth_syntax.specs.Grammar.{lower, names_tokens}
use Rattle.printed_syntax.specs.LineViews.{line_of}
use Rattle.auth_syntax.specs.Trees.{name_of}
use Rattle.printed_syntax.proofs.LineLemmas.{row_more}
use Rattle.printed_syntax.proofs.printer.Printer.names.Goals as goal

-- with a name more
pub loop-index-preserved : goal.loop-index-preserved
loop-index-preserved c =
    row_more Comma (λ (name : NameSyntax). lower name ∷ []) names_tokens refl (λ t. refl) (λ t next rest. refl) name_of (line_of c.args.self.now) c.args.names.now c.loop-index.index
    c.index-names-index.result (line_of c.loop-index.self) (line_of c.separator.new.self) (line_of c.lower.new.self) c.loop-index.invariant
    c.in_ok-separator.ensures c.in_ok-lower.ensures c.index-names-index.is c.loop-index-test.true
