-- A disk on which all that was written is kept.
use Rattle.std.specs.Prelude.{◌≡◌, [], ◌∷◌}
use Rattle.lam_outside.specs.Disks.{Moments, settled}

-- the file was synced, and nothing else was done to it
abbrev pub IsSynced : (old new : Moments) → Type 0
IsSynced [] new = ⊥
IsSynced (file ∷ past) new = new ≡ settled file.reads ∷ file ∷ past
