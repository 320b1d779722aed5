use Rattle.std.proofs.Common.{◌≡◌, ◌++◌, drop}
use Rattle.core_terms.specs.ProgramTrees.{types_at}
use Rattle.auth_types.specs.Elaborators.{locals_of, scope_of, types_of}
use Rattle.auth_types.proofs.FunctionSteps.{entered}
use Rattle.auth_types.proofs.bodies.elaborator.Elaborator.enter.Given as goal

-- the parameters so far are locals
abbrev pub invariant-loop-index : goal.invariant-loop-index
invariant-loop-index l = record {
  types : types_of l.self ≡ types_of l.fn.self;
  scope : scope_of l.self ≡ scope_of l.fn.self;
  locals : locals_of l.self ++ entered (drop l.index l.parameters) (drop l.index (types_at (types_of l.fn.self) l.types)) ≡ locals_of
      l.fn.self ++ entered l.parameters (types_at (types_of l.fn.self) l.types);
}
