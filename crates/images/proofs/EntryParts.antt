-- The parts of a value with their types, and the walk over them.
use Rattle.std.proofs.Common.{◌≡◌, List, [], ◌∷◌, ◌++◌, unwrap_or, refl, sym, ap}
use Rattle.std.proofs.lemmas.List.{append-nil}
use Rattle.core_terms.specs.Types.{Ty, PairTy, NamedTy, AuthTy, VecTy, Table, fields_at, item_types}
use Rattle.core_terms.specs.Values.{Value, PairV, ConV, ItemsV, Values, NoV, AndV}
use Rattle.images.specs.Images.{Entry, entry}
use Rattle.images.specs.SavedImages.{walk, walk_all}
use Rattle.images.proofs.AmongEntries.{IsAmong, AreAmong, are_first, are_second}

abbrev pub fields : List Ty → Values → List Entry
fields (t ∷ ts) (AndV v vs) = entry t v ∷ fields ts vs
fields ts vs = []

module _ (types : Table) where
  -- the parts of a value, from left to right
  abbrev pub parts : Ty → Value → List Entry
  parts (PairTy a b) (PairV x y) = entry a x ∷ entry b y ∷ []
  parts (NamedTy number) (ConV tag vs) = fields (unwrap_or (fields_at types number tag) []) vs
  parts (VecTy n t) (ItemsV vs) = fields (item_types n t) vs
  parts (AuthTy t) v = entry t v ∷ []
  parts t v = []

  -- the walks over some entries, one behind the other
  abbrev pub walks : List Entry → List Entry
  walks [] = []
  walks (e ∷ es) = walk types e.of_type e.value ++ walks es

  walks_fields : (ts : List Ty) (vs : Values) → walk_all types ts vs ≡ walks (fields ts vs)
  walks_fields (t ∷ ts) (AndV v vs) = ap (λ es. walk types t v ++ es) (walks_fields ts vs)
  walks_fields [] vs = refl
  walks_fields (t ∷ ts) NoV = refl

  -- a walk is the walks over the parts, and then the whole
  pub walk_parts : (t : Ty) (v : Value) → walk types t v ≡ walks (parts t v) ++ entry t v ∷ []
  walk_parts (PairTy a b) (PairV x y) =
      ap (λ es. (walk types a x ++ es) ++ entry (PairTy a b) (PairV x y) ∷ []) (sym (append-nil (walk types b y)))
  walk_parts (NamedTy number) (ConV tag vs) =
      ap (λ es. es ++ entry (NamedTy number) (ConV tag vs) ∷ []) (walks_fields (unwrap_or (fields_at types number tag) []) vs)
  walk_parts (VecTy n t) (ItemsV vs) = ap (λ es. es ++ entry (VecTy n t) (ItemsV vs) ∷ []) (walks_fields (item_types n t) vs)
  walk_parts (AuthTy t) v = ap (λ es. es ++ entry (AuthTy t) v ∷ []) (sym (append-nil (walk types t v)))
  walk_parts t v = refl

  -- where walks are among some entries, so is what was walked over
  pub among_walks : (done es : List Entry) → AreAmong done (walks es) → AreAmong done es
  among_walks done [] h = tt
  among_walks done (e ∷ es) h =
      (among_last e (are_first done (walk types e.of_type e.value) (walks es) h), among_walks done es (are_second done (walk types e.of_type e.value) (walks es) h))
    where
      among_last : (e : Entry) → AreAmong done (walk types e.of_type e.value) → IsAmong done e
      among_last e h =
          let behind : AreAmong done (walks (parts e.of_type e.value) ++ e ∷ []) = rw (← walk_parts e.of_type e.value) h in
          (are_second done (walks (parts e.of_type e.value)) (e ∷ []) behind).0

  -- where a walk is among some entries, so are the parts
  pub among_parts : (done : List Entry) (e : Entry) → AreAmong done (walk types e.of_type e.value) → AreAmong done (parts e.of_type e.value)
  among_parts done e h =
      let behind : AreAmong done (walks (parts e.of_type e.value) ++ e ∷ []) = rw (← walk_parts e.of_type e.value) h in
      among_walks done (parts e.of_type e.value) (are_first done (walks (parts e.of_type e.value)) (e ∷ []) behind)
