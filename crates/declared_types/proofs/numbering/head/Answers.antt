use Rattle.std.proofs.Common.{map, refl}
use Rattle.auth_syntax.specs.Syntax.{ParameterSyntax}
use Rattle.auth_syntax.specs.Trees.{parameter_of}
use Rattle.declared_types.specs.ScopeNames.{names_in}
use Rattle.declared_types.specs.WrittenTypes.{type_meant}
use Rattle.declared_types.proofs.TypeNumbers.{numbers_grow}
use Rattle.declared_types.proofs.numbering.head.Goals as goal

pub returns-clause-found : goal.returns-clause-found
returns-clause-found c = record {
  function = refl;
  parameters = numbers_grow _ _ c.in_ok-parameters.parameters.items
      (map (λ (p : ParameterSyntax). type_meant c.args.types.now.format (names_in c.args.names.now.keys) p.of_type) (map parameter_of c.args.function.now.parameters.items))
      c.number.ensures.grows
      (rw c.deref.ensures.value at c.in_ok-parameters.ensures.found);
  result = rw c.parameter_numbers.ensures.format at c.in_ok-result.ensures.found;
}
