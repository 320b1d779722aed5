-- The laws of images: what a reader may hold the records that are saved, the search for parts of the state's type, and the root of an image to.
use Rattle.std.specs.Prelude.{◌≡◌, ◌↔◌, ◌≤◌, ◌^◌, ℕ, true, List, [], length, Some, slice_get}
use Rattle.core_terms.specs.Types.{Ty, PairTy, NamedTy, AuthTy, VecTy, Table, fields_at, has_numbers}
use Rattle.core_terms.specs.Values.{Value, IsIdeal, IsWithin, AuthWithin}
use Rattle.core_terms.specs.Terms.{Program}
use Rattle.images.specs.Images.{Entry, Root, entry, image_of, last}
use Rattle.images.specs.Parts.{HasLength, is_part}
use Rattle.images.specs.SavedImages.{distinct, record_bytes, walk}

-- A part of a type: the type itself, and of each part what is authenticated, the components of a pair, the elements of an array, and the types of the fields of each constructor.
pub data IsPartOf (types : Table) (whole : Ty) : Ty → Type 0 where
  Itself : IsPartOf types whole whole
  Authenticated : {t : Ty} → IsPartOf types whole (AuthTy t) → IsPartOf types whole t
  First : {a b : Ty} → IsPartOf types whole (PairTy a b) → IsPartOf types whole a
  Second : {a b : Ty} → IsPartOf types whole (PairTy a b) → IsPartOf types whole b
  Element : {n : ℕ} {t : Ty} → IsPartOf types whole (VecTy n t) → IsPartOf types whole t
  Field : {t : Ty} {number : ℕ} → IsPartOf types whole (NamedTy number) → (tag place : ℕ) (fields : List Ty) → fields_at types number tag ≡ Some fields
      → slice_get fields place ≡ Some t → IsPartOf types whole t

-- No two records of an ideal value that is saved are equal, and the last one is that of the value itself. Numbers of types have two bytes, and those
-- of records four; an array has 1 to 64 elements.
abbrev pub SavedPartsAreOnce : Type 0
SavedPartsAreOnce =
    (types : Table) (t : Ty) (v : Value) → has_numbers types ≡ true → ((u : Ty) → IsPartOf types t u → HasLength u) → IsIdeal types t v
    → let entries = distinct [] (walk types t v) in
    length entries ≤ 2 ^ 32
    → ((i j : ℕ) (e f : Entry) → slice_get entries i ≡ Some e → slice_get entries j ≡ Some f
    → record_bytes types entries e.of_type e.value ≡ record_bytes types entries f.of_type f.value → i ≡ j)
    × (last entries ≡ Some (entry t v))

-- The search, which opens as many named types as there are, finds each part of a type, and nothing else.
abbrev pub PartsAreFound : Type 0
PartsAreFound = (types : Table) (t whole : Ty) → (is_part types t whole ≡ true) ↔ IsPartOf types whole t

-- The root of an image is an ideal value of the state's type, within the limits, as is each authenticated value in it.
abbrev pub RootsFit : Type 0
RootsFit =
    (P : Program) (digest bytes : List ℕ) (v : Value) → image_of P digest bytes ≡ Root v
    → IsIdeal P.types P.state v × IsWithin P.format.limit P.types P.state v × AuthWithin P.format.limit P.types P.state v
