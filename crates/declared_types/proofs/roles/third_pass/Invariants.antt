use Rattle.core_terms.specs.Programs.{types_in}
use Rattle.core_terms.specs.ProgramTrees.{table_of}
use Rattle.core_terms.specs.TypeTables.{type_at}
use Rattle.declared_types.proofs.RolesOfHeads.{StandsAt}
use Rattle.declared_types.proofs.roles.third_pass.Given as goal

abbrev pub invariant-loop-head : goal.invariant-loop-head
invariant-loop-head l = StandsAt (types_in l.types) (table_of (types_in l.types) l.scope.named.items) (type_at (types_in l.types) l.state) l.scope
    l.head-index
