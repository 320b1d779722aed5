-- The fault that an error of clap is.
use Rattle.std.proofs.Common.{◌≡◌, inl, inr, List, Bool, true, false, Err, refl, ap, subst, if◌then◌else◌}
use Rattle.clap.specs.Words.{HasKind, IsAmong, Text, fault_of, kind_of}
use Rattle.clap.specs.declared.error.Error.{Error}
use Rattle.command_words.specs.CommandLine.{command_line}
use Rattle.command_words.specs.Faults.{is_out_of_memory, of_clap}
use Rattle.command_words.specs.Reading.{IsJudged}
use Rattle.command_words.specs.declared.fault.WordsFault.TheVariants as fault

not_both : {b : Bool} → b ≡ true → b ≡ false → ⊥
not_both on off = absurd (cc)

-- an error that has one of the definition's kinds, or memory ran out
pub fails_as : (A : Type 0) (words : List Text) (e : Error) → HasKind (fault_of command_line words) e → IsJudged {A = A} words (Err (of_clap e))
fails_as A words e has = by (is_out_of_memory (kind_of e)) refl has
  where
    by : (b : Bool) → is_out_of_memory (kind_of e) ≡ b → HasKind (fault_of command_line words) e → IsJudged {A = A} words (Err (if b then fault.NoMemory else fault.Refused))
    by true is_memory has = tt
    by false is_memory (inl memory) = absurd (not_both (ap is_out_of_memory memory) is_memory)
    by false is_memory (inr among) = λ none. subst (IsAmong (kind_of e)) none among
