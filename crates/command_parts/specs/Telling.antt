-- What is written, and which status is told, where the sink may fail.
use Rattle.std.specs.Prelude.{◌≡◌, ◌⊎◌, ℕ, List, take, Option}
use Rattle.std.specs.Io.KnownBytes.{append_known}
use Rattle.lam_outside.specs.Causes.{Rose}
use Rattle.command_parts.specs.declared.status.Status.{Status}
use Rattle.command_parts.specs.declared.status.Status.TheVariants.{WriteFault}

-- All of the text was written, no count rose, and the status is the one meant; or a front of it was written, and the sink failed.
abbrev pub TellsText : Status → List ℕ → Status → Option (List ℕ) → Option (List ℕ) → ℕ → ℕ → Type 0
TellsText meant text ended old new before now =
    ((ended ≡ meant) × (new ≡ append_known old text) × (now ≡ before))
    ⊎ ((ended ≡ WriteFault) × ((n : ℕ) × (new ≡ append_known old (take n text))) × Rose before now)
