-- Rows for states that are moved and for workloads. What each word takes.
use Rattle.std.specs.Prelude.{◌<◌, ◌≡◌, ◌≤◌, false}
use Rattle.core_terms.specs.RoleTypes.{IsRole}
use Rattle.core_terms.specs.Terms.{Program, Query, Update}
use Rattle.core_terms.specs.Types.{IntTy, PairTy}
use Rattle.workloads.specs.declared.workload.Workload.{Workload}
use Rattle.file_commands.specs.GeneratedCalls.{AreCalled}
use Rattle.file_commands.specs.MovedStates.{KeepsStates}

pub are_called : (P : Program) (w : Workload) (a : AreCalled P w) → IsRole P w.put.0 Update (PairTy IntTy IntTy) a.put_answer × IsRole P w.get.0 Query IntTy a.get_answer × (0 < w.keys)
are_called P w a = (a.put, a.get, a.keys)

-- two programs the states of one of which are states of the other
pub keeps_states : (from to : Program) (k : KeepsStates from to) → (to.types ≡ from.types) × (to.state ≡ from.state) × (from.format.limit ≤ to.format.limit) × (from.format.arrays ≡ false)
keeps_states from to k = (k.types, k.state, k.limit, k.arrays)
