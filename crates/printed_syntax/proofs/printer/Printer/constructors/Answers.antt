use Rattle.std.proofs.Common.{refl}
use Rattle.lexemes.specs.declared.token.Mark.TheVariants.{Bar}
use Rattle.auth_syntax.specs.Grammar.{constructor_tokens, constructors_tokens}
use Rattle.printed_syntax.specs.LineViews.{line_of}
use Rattle.auth_syntax.specs.Trees.{constructor_of}
use Rattle.printed_syntax.proofs.LineLemmas.{row_more}
use Rattle.printed_syntax.proofs.printer.Printer.constructors.Goals as goal

-- with a constructor more
pub loop-index-preserved : goal.loop-index-preserved
loop-index-preserved c =
    row_more Bar constructor_tokens constructors_tokens refl (λ t. refl) (λ t next rest. refl) constructor_of (line_of c.args.self.now) c.args.constructors.now c.loop-index.index
    c.index-constructors-index.result (line_of c.loop-index.self) (line_of c.separator.new.self) (line_of c.constructor.new.self) c.loop-index.invariant
    c.in_ok-separator.ensures c.in_ok-constructor.ensures c.index-constructors-index.is c.loop-index-test.true
