-- Workloads on a program, as the code holds them.
use Rattle.std.specs.Prelude.{◌<◌}
use Rattle.core_terms.specs.RoleTypes.{IsRole}
use Rattle.core_terms.specs.Terms.{Program, Query, Update}
use Rattle.core_terms.specs.Types.{IntTy, PairTy, Ty}
use Rattle.workloads.specs.declared.workload.Workload.{Workload}
use Rattle.command_parts.specs.WorkloadAnswers.{WorkloadNumbers}
use Rattle.file_commands.specs.declared.gen_workload.Numbers.{Numbers}

-- the numbers of the definitions
abbrev pub numbers_of : Numbers → WorkloadNumbers
numbers_of numbers = record { seed = numbers.seed; rounds = numbers.rounds; kept = numbers.kept }

-- it puts by an update on a pair of ints, and gets by a query on an int, and there are keys
pub record AreCalled (P : Program) (w : Workload) : Type 0 where
  pub put_answer : Ty
  pub put : IsRole P w.put.0 Update (PairTy IntTy IntTy) put_answer
  pub get_answer : Ty
  pub get : IsRole P w.get.0 Query IntTy get_answer
  pub keys : 0 < w.keys
