-- Bytes that are added behind those of an object which are written already.
use Rattle.std.specs.Prelude.{◌≡◌, ◌+◌, ◌<◌, ℕ, List, ◌++◌, length, Result, Ok, Err, ⊤}
use Rattle.object_meaning.specs.Objects.{most_object_bytes}
use Rattle.object_writer.specs.declared.bytes.ObjectBytes.{ObjectBytes}
use Rattle.object_writer.specs.declared.fault.WriteFault.{WriteFault}
use Rattle.object_writer.specs.declared.fault.WriteFault.TheVariants.{TooLong, NoMemory}

-- the bytes so far
abbrev pub written_so_far : ObjectBytes → List ℕ
written_so_far object = object.bytes.items

-- Why these bytes couldn't be added: with them they would be more than an object may have. Want of memory says nothing of them.
abbrev pub Hinders : List ℕ → List ℕ → WriteFault → Type 0
Hinders old added TooLong = most_object_bytes < length old + length added
Hinders old added NoMemory = ⊤

-- these bytes stand behind the old ones, or the fault is one that hinders them
abbrev pub Adds : {R : Type 0} → (old added new : List ℕ) → Result R WriteFault → Type 0
Adds old added new (Ok r) = new ≡ old ++ added
Adds old added new (Err fault) = Hinders old added fault
