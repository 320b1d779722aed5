use Rattle.std.proofs.Common.{◌∙◌}
use Rattle.auth_syntax.specs.Syntax.{ParameterSyntax}
use Rattle.auth_syntax.specs.Trees.{parameter_of}
use Rattle.declared_types.specs.ScopeNames.{names_in}
use Rattle.declared_types.specs.WrittenTypes.{type_meant}
use Rattle.declared_types.proofs.NumberedParts.{numbers_taken}
use Rattle.declared_types.proofs.TypeNumbers.{grows_on}
use Rattle.declared_types.proofs.numbering.parameter_numbers.Goals as goal

pub loop-parameter-preserved : goal.loop-parameter-preserved
loop-parameter-preserved c = record {
  grows = grows_on _ _ _ c.loop-parameter.invariant.grows c.number.ensures.grows;
  format = c.number.ensures.format ∙ c.loop-parameter.invariant.format;
  found = rw c.in_ok-push.ensures.items
      (numbers_taken _ _ (λ (p : ParameterSyntax). type_meant c.args.types.now.format (names_in c.args.names.now.keys) p.of_type) parameter_of c.args.parameters.now
      c.loop-parameter.parameter-index _ c.in_ok-number.field-0 c.parameter-item.result c.number.ensures.grows
      c.loop-parameter-test.true c.parameter-item.is c.loop-parameter.invariant.found (rw c.loop-parameter.invariant.format at c.in_ok-number.ensures.found));
}
