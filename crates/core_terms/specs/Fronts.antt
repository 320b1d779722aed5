-- What the code keeps to stand before spellings where they are digested.
use Rattle.std.specs.Prelude.{◌≡◌, ℕ, List, [], ◌∷◌, ◌++◌, length, Option, Some, None, slice_get, slice_index_or, option_map}
use Rattle.std.specs.Int.{w16, to_be_bytes}
use Rattle.core_terms.specs.Formats.{Hash, fingerprint}
use Rattle.core_terms.specs.Types.{UnitTy}
use Rattle.core_terms.specs.ProgramFormats.{print}
use Rattle.core_terms.specs.ProgramTypes.{text_of, types_by_number}
use Rattle.core_terms.specs.TypeTables.{type_at}
use Rattle.core_terms.specs.declared.digest.Digest.{Digest}
use Rattle.core_terms.specs.declared.fronts.Fronts.{Fronts}
use Rattle.core_terms.specs.declared.program_types.Types.{Types}
use Rattle.core_terms.specs.declared.types.TyId.{TyId}
use Rattle.core_terms.specs.declared.types.TyForm.{TyForm}
use Rattle.core_terms.specs.declared.types.TyForm.TheVariants.{UnitForm, BoolForm, IntForm, TextForm, AuthForm, PairForm, NamedForm, VecForm}

-- the bytes of a digest that is there, else others
abbrev pub bytes_or : Option Digest → List ℕ → List ℕ
bytes_or (Some digest) other = digest.0
bytes_or None other = other

-- one digest, or else another one
abbrev pub or_else : Option Digest → Option Digest → Option Digest
or_else (Some digest) other = Some digest
or_else None other = other

-- the fingerprint that is kept for a type: its own, else that of `unit`, for which each number that isn't in the table stands
abbrev pub print_kept : Fronts → TyId → Option Digest
print_kept fronts ty = or_else (slice_get fronts.prints.items ty.0) fronts.unit

abbrev pub front_of : Fronts → TyId → List ℕ
front_of fronts ty = bytes_or (print_kept fronts ty) []

-- they are those of these types
abbrev pub AreFronts : Hash → Types → Fronts → Type 0
AreFronts hash types fronts =
    (ty : TyId) → option_map (λ (digest : Digest). digest.0) (print_kept fronts ty) ≡ print types.table.format hash (text_of types) (type_at (types_by_number types) ty)

-- the fingerprint of a form, from those of its parts; a number that has none stands for `unit`
module _ (hash : Hash) (declared : List ℕ) (prints : List Digest) where
  abbrev pub print_at : TyId → List ℕ
  print_at ty = bytes_or (slice_get prints ty.0) (hash [])

  abbrev pub print_of_form : TyForm → List ℕ
  print_of_form UnitForm = hash []
  print_of_form BoolForm = hash (0x01 ∷ [])
  print_of_form IntForm = hash (0x02 ∷ [])
  print_of_form TextForm = hash (0x03 ∷ [])
  print_of_form (PairForm first second) = hash (0x04 ∷ print_at first ++ print_at second)
  print_of_form (NamedForm number) = hash (0x05 ∷ declared ++ to_be_bytes w16 number.0)
  print_of_form (AuthForm part) = hash (0x06 ∷ print_at part)
  print_of_form (VecForm n part) = hash (0x07 ∷ n ∷ print_at part)

-- the first so many types have these fingerprints
abbrev pub ArePrints : Hash → Types → ℕ → List Digest → Type 0
ArePrints hash types count prints =
    (length prints ≡ count) × ((i : ℕ) (digest : Digest) → slice_get prints i ≡ Some digest → digest.0 ≡ fingerprint hash (hash (text_of types)) (slice_index_or (types_by_number types) i UnitTy))
