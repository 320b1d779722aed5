-- What is no format, and what the two formats fix, also in the code (`Formats`, `ProgramFormats`). Each equation holds by computing both sides.
use Rattle.std.specs.Prelude.{◌≡◌, ◌^◌, ℕ, List, [], ◌∷◌, ◌++◌, codes, replicate, Some, None, true, false}
use Rattle.core_terms.specs.Types.{Ty, BoolTy}
use Rattle.core_terms.specs.Formats.{Format, Hash, IsFormat, fingerprint, first_format, second_format}
use Rattle.core_terms.specs.ProgramFormats.{arrays_of, format_with, front, image_magic_of, limit_of, magic_of, print}
use Rattle.core_terms.specs.declared.format.Format.TheVariants.{First, Second}

-- a format but for its magic
abbrev pub with_magic : List ℕ → Format
with_magic magic = record { digest = λ hash t bytes. hash bytes; print = λ hash t. None; limit = 65536; magic = magic; image_magic = replicate 4 0; most_kept = 0; arrays = false }

-- one but for that of its images
abbrev pub with_image_magic : List ℕ → Format
with_image_magic magic = record { digest = λ hash t bytes. hash bytes; print = λ hash t. None; limit = 65536; magic = replicate 4 0; image_magic = magic; most_kept = 0; arrays = false }

-- and one but for its digests, of so many bytes
abbrev pub with_digests : ℕ → Format
with_digests n = record { digest = λ hash t bytes. replicate n 0; print = λ hash t. None; limit = 65536; magic = replicate 4 0; image_magic = replicate 4 0; most_kept = 0; arrays = false }

pub record FormatRows : Type 0 where
  -- its digests aren't of 32 bytes
  pub too_short_digests : IsFormat (with_digests 31) → ⊥
  -- its magic isn't 4 bytes
  pub too_short_a_magic : IsFormat (with_magic (replicate 3 0)) → ⊥
  -- nor is that of its images
  pub too_short_an_image_magic : IsFormat (with_image_magic (replicate 3 0)) → ⊥
  -- what each format fixes
  pub second_magic : (text : List ℕ) (most : ℕ) → ((second_format text most).magic ≡ codes "LAP2") × ((second_format text most).image_magic ≡ codes "LAI2")
  pub first_magic : (most : ℕ) → ((first_format most).magic ≡ codes "LAP1") × ((first_format most).image_magic ≡ codes "LAI1")
  pub second_limit : (text : List ℕ) (most : ℕ) → ((second_format text most).limit ≡ 2 ^ 20) × ((second_format text most).most_kept ≡ most)
  pub second_print : (text : List ℕ) (most : ℕ) (hash : Hash) (t : Ty) → ((second_format text most).print hash t ≡ Some (fingerprint hash (hash text) t)) × ((first_format most).print hash t ≡ None)
  pub second_digest : (text : List ℕ) (most : ℕ) (hash : Hash) (bytes : List ℕ) → (second_format text most).digest hash BoolTy bytes ≡ hash (hash (1 ∷ []) ++ bytes)
  pub second_arrays : (text : List ℕ) (most : ℕ) → ((second_format text most).arrays ≡ true) × ((first_format most).arrays ≡ false)
  -- and each of the code
  pub code_magics : (magic_of First ≡ codes "LAP1") × (magic_of Second ≡ codes "LAP2") × (image_magic_of First ≡ codes "LAI1") × (image_magic_of Second ≡ codes "LAI2")
  pub code_limits : (limit_of First ≡ 2 ^ 16) × (limit_of Second ≡ 2 ^ 20)
  pub code_arrays : (arrays_of First ≡ false) × (arrays_of Second ≡ true)
  pub code_prints : (hash : Hash) (text : List ℕ) (t : Ty) → (print First hash text t ≡ None) × (print Second hash text t ≡ Some (fingerprint hash (hash text) t))
  pub code_fronts : (hash : Hash) (text : List ℕ) (t : Ty) → (front First hash text t ≡ []) × (front Second hash text t ≡ fingerprint hash (hash text) t)
  pub program_digests : (hash : Hash) (text bytes : List ℕ) (t : Ty)
      → ((format_with First text).digest hash t bytes ≡ hash bytes) × ((format_with Second text).digest hash t bytes ≡ hash (fingerprint hash (hash text) t ++ bytes))
  pub program_prints : (hash : Hash) (text : List ℕ) (t : Ty) → (format_with Second text).print hash t ≡ Some (fingerprint hash (hash text) t)
