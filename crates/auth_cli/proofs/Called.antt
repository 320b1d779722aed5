-- A run of words, from the command that they call.
use Rattle.std.proofs.Common.{◌≡◌, ◌⊎◌, inl, inr, ℕ, List, Option, Some, None, Err, refl, sym, ◌∙◌, subst}
use Rattle.command_words.specs.Invocations.{Invocation, invocation_of}
use Rattle.lam_outside.specs.Told.{Contents, Names}
use Rattle.command_parts.specs.Answer.{answer, called_answer, command_answer}
use Rattle.command_parts.specs.Codes.{code}
use Rattle.command_parts.specs.Ending.{EndsAs}
use Rattle.command_parts.specs.EndingInCode.{IsOfRefused}
use Rattle.command_parts.specs.Outsides.{Outside}
use Rattle.command_parts.specs.Reaching.{IsReached}
use Rattle.command_parts.specs.Statuses.{MayAnswer}
use Rattle.command_parts.specs.TellingInCode.{Tells}
use Rattle.command_parts.specs.declared.report.Halt.TheVariants.{Usage, NoMemory}
use Rattle.command_parts.specs.declared.status.Status.{Status}
use Rattle.command_parts.specs.declared.status.Status.TheVariants as status

-- words that call a command aren't refused
pub none_refused : (words : List (List ℕ)) (called : Invocation) (status : Status) → invocation_of words ≡ Some called → invocation_of words ≡ None → IsOfRefused status
none_refused words called status is none = by (invocation_of words) is none
  where
    by : (found : Option Invocation) → found ≡ Some called → found ≡ None → IsOfRefused status
    by found is none = absurd (cc)

-- what is told of refused words, and of the want of memory, has a status that they may have
pub usage_told : (status : Status) (old new : Option (List ℕ)) (before now : ℕ) → Tells (Err Usage) status old new before now → IsOfRefused status
usage_told status old new before now (inl (inl told)) = subst IsOfRefused (sym told.0) tt
usage_told status old new before now (inl (inr told)) = subst IsOfRefused (sym told.0) tt
usage_told status old new before now (inr (inl told)) = subst IsOfRefused (sym told.0) tt
usage_told status old new before now (inr (inr told)) = subst IsOfRefused (sym told.0) tt

pub memory_told : (status : Status) (old new : Option (List ℕ)) (before now : ℕ) → Tells (Err NoMemory) status old new before now → IsOfRefused status
memory_told status old new before now (inl (inl told)) = subst IsOfRefused (sym told.0) tt
memory_told status old new before now (inl (inr told)) = subst IsOfRefused (sym told.0) tt
memory_told status old new before now (inr (inl told)) = subst IsOfRefused (sym told.0) tt
memory_told status old new before now (inr (inr told)) = subst IsOfRefused (sym told.0) tt

-- the numbers of these statuses
pub refused_code : (status : Status) → IsOfRefused status → (code status ≡ 2) ⊎ ((code status ≡ 9) ⊎ (code status ≡ 10))
refused_code status.Usage is = inl refl
refused_code status.WriteFault is = inr (inl refl)
refused_code status.NoMemory is = inr (inr refl)
refused_code status.Done is = absurd is
refused_code status.Trap is = absurd is
refused_code status.OutOfFuel is = absurd is
refused_code status.Rejected is = absurd is
refused_code status.ProgramRefused is = absurd is
refused_code status.InputRefused is = absurd is
refused_code status.ReadFault is = absurd is
refused_code status.Collision is = absurd is

-- what words call is one thing alone
same_called : (words : List (List ℕ)) (read called : Invocation) → invocation_of words ≡ Some read → invocation_of words ≡ Some called → read ≡ called
same_called words read called is other = same read called (sym is ∙ other)
  where
    same : (a b : Invocation) → Some a ≡ Some b → a ≡ b
    same a b e = cc

pub possible_called : (words : List (List ℕ)) (read called : Invocation) → invocation_of words ≡ Some read → invocation_of words ≡ Some called → (status : Status)
    → MayAnswer read.command status → MayAnswer called.command status
possible_called words read called is other status may = subst (λ (i : Invocation). MayAnswer i.command status) (same_called words read called is other) may

pub none_called : {A : Type 0} (words : List (List ℕ)) (called : Invocation) → invocation_of words ≡ None → invocation_of words ≡ Some called → A
none_called words called none is = absurd (by (invocation_of words) none is)
  where
    by : (found : Option Invocation) → found ≡ None → found ≡ Some called → ⊥
    by found none is = absurd (cc)

-- what the command that is called says of a read fault
pub reached_called : (words : List (List ℕ)) (called : Invocation) (contents : Option Contents) (asked : Option Names) → invocation_of words ≡ Some called
    → IsReached (command_answer called) contents asked → IsReached (answer words) contents asked
unfolding answer
reached_called words called contents asked is reached = subst (λ found. IsReached (called_answer found) contents asked) (sym is) reached
