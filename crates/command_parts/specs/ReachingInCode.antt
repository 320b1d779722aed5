-- Where a function ended in a read fault, it is of a file that the order of refusals had reached.
use Rattle.std.specs.Prelude.{◌≡◌, ℕ, List, Option, Result, Ok, Err, ⊤}
use Rattle.std.specs.Option.{ForSome}
use Rattle.lam_outside.specs.Told.{Contents, Names}
use Rattle.command_parts.specs.AnswerForms.{Answer}
use Rattle.command_parts.specs.declared.report.Halt.{Halt}
use Rattle.command_parts.specs.declared.report.Halt.TheVariants.{ReadFault}
use Rattle.command_parts.specs.declared.status.Status.{Status}
use Rattle.command_parts.specs.declared.status.Status.TheVariants as reading
use Rattle.command_parts.specs.Reaching.{IsLast, IsReached}

-- where a run ended in a read fault, it is of a file that was reached
abbrev pub ReachedAt : Status → (Contents → Option Answer) → Option Contents → Option Names → Type 0
ReachedAt status answer contents asked = status ≡ reading.ReadFault → IsReached answer contents asked

-- what halts the work, where that is a read fault of such a file
abbrev pub HaltsAtReached : (Contents → Option Answer) → Option Contents → Option Names → Halt → Type 0
HaltsAtReached answer contents asked ReadFault = IsReached answer contents asked
HaltsAtReached answer contents asked halt = ⊤

abbrev pub FaultsAtReached : {T : Type 0} → (Contents → Option Answer) → Option Contents → Option Names → Result T Halt → Type 0
FaultsAtReached answer contents asked (Ok found) = ⊤
FaultsAtReached answer contents asked (Err halt) = HaltsAtReached answer contents asked halt

-- where it is a read fault of the file of this name, which was asked for last
abbrev pub HaltsAt : List ℕ → Option Names → Halt → Type 0
HaltsAt name asked ReadFault = ForSome asked (λ names. IsLast name names)
HaltsAt name asked halt = ⊤

abbrev pub FaultsAt : {T : Type 0} → List ℕ → Option Names → Result T Halt → Type 0
FaultsAt name asked (Ok found) = ⊤
FaultsAt name asked (Err halt) = HaltsAt name asked halt
