-- The formats of the code, as those of the definitions.
use Rattle.std.specs.Prelude.{ℕ, Bool, true, false, List, [], ◌∷◌, ◌++◌, Option, Some, None, unwrap_or}
use Rattle.core_terms.specs.Types.{Ty}
use Rattle.core_terms.specs.Formats.{Hash, fingerprint}
use Rattle.core_terms.specs.Formats as meant
use Rattle.core_terms.specs.declared.format.Format.{Format}
use Rattle.core_terms.specs.declared.format.Format.TheVariants.{First, Second}

-- The greatest number of pieces that a proof may ask its verifier to keep, in both formats.
abbrev pub most_kept_pieces : ℕ
most_kept_pieces = 1024

-- the fingerprint that a digest at a type tells, in a program whose type declarations are printed as this text
abbrev pub print : Format → Hash → List ℕ → Ty → Option (List ℕ)
print First hash text t = None
print Second hash text t = Some (fingerprint hash (hash text) t)

-- it stands before the spelling that is digested
abbrev pub front : Format → Hash → List ℕ → Ty → List ℕ
front format hash text t = unwrap_or (print format hash text t) []

abbrev pub limit_of : Format → ℕ
limit_of First = 65536
limit_of Second = 1048576

abbrev pub magic_of : Format → List ℕ
magic_of First = 0x4C ∷ 0x41 ∷ 0x50 ∷ 0x31 ∷ []
magic_of Second = 0x4C ∷ 0x41 ∷ 0x50 ∷ 0x32 ∷ []

abbrev pub image_magic_of : Format → List ℕ
image_magic_of First = 0x4C ∷ 0x41 ∷ 0x49 ∷ 0x31 ∷ []
image_magic_of Second = 0x4C ∷ 0x41 ∷ 0x49 ∷ 0x32 ∷ []

-- programs of the format may have arrays
abbrev pub arrays_of : Format → Bool
arrays_of First = false
arrays_of Second = true

-- The format of a program that has this one and whose type declarations are printed as this text. It is the first or the second format of
-- the definitions (`FormatsAreTheTwo`), and is written by its parts so that what both have in common computes.
abbrev pub format_with : Format → List ℕ → meant.Format
format_with format text = record {
  digest = λ hash t bytes. hash (front format hash text t ++ bytes);
  print = λ hash t. print format hash text t;
  limit = limit_of format;
  magic = magic_of format;
  image_magic = image_magic_of format;
  most_kept = most_kept_pieces;
  arrays = arrays_of format;
}
