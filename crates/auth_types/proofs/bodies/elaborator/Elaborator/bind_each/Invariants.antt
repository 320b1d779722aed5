use Rattle.std.proofs.Common.{◌≡◌, List, [], ◌++◌, drop, length, map}
use Rattle.core_terms.specs.ProgramTrees.{types_at}
use Rattle.auth_syntax.specs.Trees.{name_of}
use Rattle.auth_types.specs.Bodies.{Local, bound_names}
use Rattle.auth_types.specs.Elaborators.{locals_of, scope_of, types_of}
use Rattle.auth_types.proofs.BoundNames.{bound_behind}
use Rattle.auth_types.proofs.bodies.elaborator.Elaborator.bind_each.Given as goal

-- the names so far are bound, behind the locals that stood there
abbrev pub invariant-loop-index : goal.invariant-loop-index
invariant-loop-index l = record {
  types : types_of l.self ≡ types_of l.fn.self;
  scope : scope_of l.self ≡ scope_of l.fn.self;
  bound : bound_names [] (locals_of l.fn.self) (map name_of l.names) (types_at (types_of l.fn.self) l.types)
      ≡ bound_names (bound_behind (length (locals_of l.fn.self)) (locals_of l.self)) (locals_of l.self) (drop l.index (map name_of l.names))
      (drop l.index (types_at (types_of l.fn.self) l.types));
  behind : (more : List Local) × (locals_of l.self ≡ locals_of l.fn.self ++ more);
}
