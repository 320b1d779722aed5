-- How the last version is stored, where it can't be.
use Rattle.std.proofs.Common.{◌≡◌, ◌⊎◌, ◌<◌, inl, inr, ℕ, List, [], ◌∷◌, codes, length, Option, Err, Result, Vec, append-nil, refl, ap, sym, ◌∙◌, subst}
use Rattle.std.specs.List.{concat}
use Rattle.std.specs.declared.alloc.Global.{Global}
use Rattle.lam_outside.specs.Told.{Stores}
use Rattle.images.specs.Saves.{IsSaved}
use Rattle.images.specs.declared.fault.SaveFault.{SaveFault}
use Rattle.images.specs.declared.fault.SaveFault.TheVariants as save_fault
use Rattle.session_meaning.specs.Server.{Server}
use Rattle.command_parts.specs.Answer.{Serving}
use Rattle.command_parts.specs.Halting.{of_save_fault}
use Rattle.net_commands.specs.ServeSteps.{IsUnstoredTold, StoresLast}
use Rattle.net_commands.specs.Serving.{IsTooLong, LacksMemory, last_image}
use Rattle.command_parts.specs.Telling.{TellsText}
use Rattle.command_parts.specs.TellingInCode.{Tells}
use Rattle.command_parts.specs.declared.report.Halt.{Halt}
use Rattle.command_parts.specs.declared.status.Status.{Status}
use Rattle.command_parts.specs.declared.status.Status.TheVariants as status
use Rattle.command_parts.proofs.Ends.{adds_none}

-- a line alone
line_alone : (ended : Status) (old new : Option (List ℕ)) (before now : ℕ) (meant : Status) (line : List ℕ) → TellsText meant line ended old new before now
    → TellsText meant (concat (line ∷ [])) ended old new before now
line_alone ended old new before now meant line told = subst (λ text. TellsText meant text ended old new before now) (sym (append-nil line)) told

-- told where nothing else went wrong
pub told_unstored : (fault : SaveFault) (halt : Halt) (ended : Status) (old new : Option (List ℕ)) (before now : ℕ) → halt ≡ of_save_fault fault → Tells (Err halt) ended old new before now
    → IsUnstoredTold status.Done fault ended old new before now
told_unstored fault halt ended old new before now is told = by fault (subst (λ halt. Tells (Err halt) ended old new before now) is told)
  where
    by : (fault : SaveFault) → Tells (Err (of_save_fault fault)) ended old new before now → IsUnstoredTold status.Done fault ended old new before now
    by save_fault.TooLong (inl told) = inl (line_alone ended old new before now _ _ told)
    by save_fault.TooLong (inr told) = inr (line_alone ended old new before now _ _ told)
    by save_fault.NoMemory (inl told) = line_alone ended old new before now _ _ told
    by save_fault.NoMemory (inr told) = line_alone ended old new before now _ _ told

-- nothing was handed to `store`
pub stores_unstored : (s : Serving) (server : Server) (name : List ℕ) (told ended : Status) (stores : Option Stores) (faults : ℕ) (old new : Option (List ℕ)) (before now : ℕ)
    → (fault : SaveFault) → IsSaved (last_image s server) (Err fault) → IsUnstoredTold told fault ended old new before now
    → StoresLast s server name told ended stores stores faults faults old new before now
stores_unstored s server name told ended stores faults old new before now save_fault.TooLong long (inl is) =
    record { storage = IsTooLong; stored = (long, adds_none stores stores refl, refl); is_told = is }
stores_unstored s server name told ended stores faults old new before now save_fault.TooLong long (inr is) =
    record { storage = LacksMemory; stored = (adds_none stores stores refl, refl); is_told = is }
stores_unstored s server name told ended stores faults old new before now save_fault.NoMemory none is =
    record { storage = LacksMemory; stored = (adds_none stores stores refl, refl); is_told = is }
