-- What is written of an image.
use Rattle.std.specs.Prelude.{◌≡◌, ℕ, ◌<◌, ◌≤◌, List, length, Result, Ok, Err, Vec, ⊤}
use Rattle.std.specs.declared.alloc.Global.{Global}
use Rattle.core_terms.specs.Limits.{most_file_bytes}
use Rattle.images.specs.declared.fault.SaveFault.{SaveFault}
use Rattle.images.specs.declared.fault.SaveFault.TheVariants.{TooLong, NoMemory}

-- the result is this image, where it isn't too long
abbrev pub IsSaved : List ℕ → Result (Vec ℕ Global) SaveFault → Type 0
IsSaved image (Ok bytes) = (bytes.items ≡ image) × (length image ≤ most_file_bytes)
IsSaved image (Err TooLong) = most_file_bytes < length image
IsSaved image (Err NoMemory) = ⊤
