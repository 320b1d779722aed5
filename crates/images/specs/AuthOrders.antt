-- The authenticated parts of a value, in the order of its image.
use Rattle.std.specs.Prelude.{◌≡◌, List, [], ◌∷◌, ◌++◌, pos, refl}
use Rattle.core_terms.specs.Types.{Ty, IntTy, PairTy, AuthTy, Table}
use Rattle.core_terms.specs.Values.{Value, IntV, PairV}
use Rattle.images.specs.Images.{Entry, entry}
use Rattle.images.specs.SavedImages.{distinct, walk}

-- of an authenticated value the inner one, at the inner type
abbrev pub inner_of : Ty → Value → List Entry
inner_of (AuthTy t) v = entry t v ∷ []
inner_of t v = []

abbrev pub inners : List Entry → List Entry
inners [] = []
inners (e ∷ rest) = inner_of e.of_type e.value ++ inners rest

-- what the `06` records of the image of a value hold, in their order
abbrev pub auth_entries : Table → Ty → Value → List Entry
auth_entries types t v = inners (distinct [] (walk types t v))

-- Rows: equal parts are told once, and an inner one before the one around it.
module _ (types : Table) where
  once : auth_entries types (PairTy (AuthTy IntTy) (AuthTy IntTy)) (PairV (IntV (pos 1)) (IntV (pos 1))) ≡ entry IntTy (IntV (pos 1)) ∷ []
  once = refl

  in_turn : auth_entries types (PairTy (AuthTy IntTy) (AuthTy IntTy)) (PairV (IntV (pos 2)) (IntV (pos 1))) ≡ entry IntTy (IntV (pos 2)) ∷ entry IntTy (IntV (pos 1)) ∷ []
  in_turn = refl

  inner_first : auth_entries types (AuthTy (AuthTy IntTy)) (IntV (pos 1)) ≡ entry IntTy (IntV (pos 1)) ∷ entry (AuthTy IntTy) (IntV (pos 1)) ∷ []
  inner_first = refl
