use Rattle.std.proofs.Common.{refl}
use Rattle.lexemes.specs.declared.token.Mark.TheVariants.{Comma}
use Rattle.auth_syntax.specs.Grammar.{parameter_tokens, parameters_tokens}
use Rattle.printed_syntax.specs.LineViews.{line_of}
use Rattle.auth_syntax.specs.Trees.{parameter_of}
use Rattle.printed_syntax.proofs.LineLemmas.{row_more}
use Rattle.printed_syntax.proofs.printer.Printer.parameters.Goals as goal

-- with a parameter more
pub loop-index-preserved : goal.loop-index-preserved
loop-index-preserved c =
    row_more Comma parameter_tokens parameters_tokens refl (λ t. refl) (λ t next rest. refl) parameter_of (line_of c.args.self.now) c.args.parameters.now c.loop-index.index
    c.index-parameters-index.result (line_of c.loop-index.self) (line_of c.separator.new.self) (line_of c.parameter.new.self) c.loop-index.invariant
    c.in_ok-separator.ensures c.in_ok-parameter.ensures c.index-parameters-index.is c.loop-index-test.true
