use Rattle.std.proofs.Common.{◌≡◌, [], map, drop}
use Rattle.auth_syntax.specs.Trees.{parameter_of}
use Rattle.declared_types.specs.Declarations.{checked_parameters}
use Rattle.declared_types.proofs.ParameterNames.{first_names}
use Rattle.declared_types.proofs.declarations.check_parameters.Given as goal

abbrev pub invariant-loop-place : goal.invariant-loop-place
invariant-loop-place l = checked_parameters [] (map parameter_of l.parameters) ≡ checked_parameters (first_names l.place l.parameters)
    (map parameter_of (drop l.place l.parameters))
