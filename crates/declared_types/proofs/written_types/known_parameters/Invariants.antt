use Rattle.std.proofs.Common.{◌≡◌, map, drop}
use Rattle.auth_syntax.specs.Syntax.{ParameterSyntax}
use Rattle.auth_syntax.specs.Trees.{parameter_of}
use Rattle.declared_types.specs.ScopeNames.{names_in}
use Rattle.declared_types.specs.WrittenTypes.{known_types}
use Rattle.declared_types.proofs.written_types.known_parameters.Given as goal

abbrev pub invariant-loop-parameter : goal.invariant-loop-parameter
invariant-loop-parameter l = known_types l.format (names_in l.names.keys)
    (map (λ (p : ParameterSyntax). p.of_type) (map parameter_of l.parameters)) ≡ known_types l.format (names_in l.names.keys)
    (map (λ (p : ParameterSyntax). p.of_type) (map parameter_of (drop l.parameter-index l.parameters)))
