-- What a read, a write and a sync of a disk do.
use Rattle.std.specs.Prelude.{◌≡◌, ◌⊎◌, ℕ, ◌+◌, ◌-◌, ◌<◌, List, [], ◌∷◌, ◌++◌, length, take, drop, replicate, Option, Some, None, Result, Ok, Err, ⊤}
use Rattle.lam_outside.specs.Disks.{DiskFile, Moments, Range, Torn, settled}

abbrev pub range : ℕ → ℕ → Range
range at count = record { at = at; count = count }

-- the bytes with these laid over them from a place on; where the place is past the end, zeros stand between
abbrev pub laid : ℕ → List ℕ → List ℕ → List ℕ
laid at bytes old = take at old ++ replicate (at - length old) 0 ++ bytes ++ drop (at + length bytes) old

-- the file after a write to a range, when it reads so
abbrev pub with_write : DiskFile → Range → List ℕ → DiskFile
with_write file r reads = record { reads = reads; synced = file.synced; written = r ∷ file.written }

-- What a write leaves, where the disk tells it. One that fails counts as written, and a read may then give any bytes in its range; or it wrote
-- nothing.
abbrev pub Wrote : {T E : Type 0} → Option Moments → ℕ → List ℕ → Option Moments → Result T E → Type 0
Wrote None at bytes new result = new ≡ None
Wrote (Some []) at bytes new result = new ≡ Some []
Wrote (Some (file ∷ past)) at bytes new (Ok done) =
    new ≡ Some (with_write file (range at (length bytes)) (laid at bytes file.reads) ∷ file ∷ past)
Wrote (Some (file ∷ past)) at bytes new (Err failed) =
    (new ≡ Some (file ∷ past))
    ⊎ ((reads : List ℕ) × Torn file.reads (range at (length bytes) ∷ []) reads
    × (new ≡ Some (with_write file (range at (length bytes)) reads ∷ file ∷ past)))

-- What a sync leaves: where it succeeds, a crash leaves what a read gives.
abbrev pub Synced : {T E : Type 0} → Option Moments → Option Moments → Result T E → Type 0
Synced (Some (file ∷ past)) new (Ok done) = new ≡ Some (settled file.reads ∷ file ∷ past)
Synced old new result = new ≡ old

-- A read of n bytes gives those that stand at the place, one at least where the place is below the end and the buffer isn't empty.
pub record ReadsAt (file : List ℕ) (at : ℕ) (into : List ℕ) (n : ℕ) : Type 0 where
  pub bytes : take n into ≡ take n (drop at file)
  pub some : at < length file → 0 < length into → 0 < n

-- what is told of the bytes of the chosen file, where there is one
abbrev pub ForChosen : Option Moments → (List ℕ → Type 0) → Type 0
ForChosen (Some (file ∷ past)) P = P file.reads
ForChosen moments P = ⊤
