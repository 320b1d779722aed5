use Rattle.std.proofs.Common.{◌≡◌, map, take}
use Rattle.core_terms.specs.Programs.{types_in}
use Rattle.auth_syntax.specs.Syntax.{ParameterSyntax}
use Rattle.auth_syntax.specs.Trees.{parameter_of}
use Rattle.declared_types.specs.OverTypes.{AreNumbers, Grows}
use Rattle.declared_types.specs.ScopeNames.{names_in}
use Rattle.declared_types.specs.WrittenTypes.{type_meant}
use Rattle.declared_types.proofs.numbering.parameter_numbers.Given as goal

abbrev pub invariant-loop-parameter : goal.invariant-loop-parameter
invariant-loop-parameter l = record {
  grows : Grows (types_in l.initial.types) (types_in l.types);
  format : l.types.format ≡ l.initial.types.format;
  found : AreNumbers (types_in l.types) l.ids.items (map (λ (p : ParameterSyntax). type_meant l.initial.types.format (names_in l.names.keys) p.of_type)
      (map parameter_of (take l.parameter-index l.parameters)));
}
