-- No two of the records that are saved are equal, and the last one is that of the whole.
use Rattle.std.proofs.Common.{◌≡◌, ℕ, zero, suc, ◌-◌, ◌≤◌, Bool, true, false, List, [], ◌∷◌, ◌++◌, length, Option, Some, None, slice_get, unwrap_or, if◌then◌else◌, refl, sym, ap, ◌∙◌, subst, arith, length-append, append_assoc}
use Rattle.std.specs.List.{All}
use Rattle.std.proofs.lemmas.Bool.{leb-true}
use Rattle.std.proofs.lemmas.List.Elements.{All-append, All-cons, All-nil, All-push}
use Rattle.core_terms.specs.Types.{Ty, UnitTy, BoolTy, IntTy, TextTy, PairTy, NamedTy, AuthTy, VecTy, Table, fields_at, item_types, OnFields}
use Rattle.core_terms.specs.Values.{Value, UnitV, BoolV, IntV, TextV, PairV, ConV, ItemsV, Values, NoV, AndV, IsIdeal, AreIdeal}
use Rattle.images.specs.Images.{Entry, entry, last}
use Rattle.images.specs.SavedImages.{distinct, is_entry_of, number_among, walk, walk_all}
use Rattle.images.specs.ImageLaws.{IsPartOf, Itself, Authenticated, First, Second, Element, Field, SavedPartsAreOnce}
use Rattle.images.specs.Parts.{HasLength}
use Rattle.images.proofs.AmongEntries.{AreAmong, all_among, among_at, are_more}
use Rattle.images.proofs.BehindParts.{AreBehind, behind_distinct, walk_behind}
use Rattle.images.proofs.DistinctEntries.{all_distinct}
use Rattle.images.proofs.EntryParts.{parts, walks}
use Rattle.images.proofs.NumberedEntries.{AreOnce, once_more}
use Rattle.images.proofs.RecordReading.{one_record}
use Rattle.images.proofs.WholeLast.{whole_last}

distinct_once : (done xs : List Entry) → AreOnce done → AreOnce (distinct done xs)
distinct_once done [] h = h
distinct_once done (x ∷ xs) h = by (is_entry_of x done) refl (λ front g. distinct_once front xs g)
  where
    by : (b : Bool) → is_entry_of x done ≡ b → ((front : List Entry) → AreOnce front → AreOnce (distinct front xs)) → AreOnce (distinct (if b then done else done ++ x ∷ []) xs)
    by true there rest = rest done h
    by false new rest = rest (done ++ x ∷ []) (once_more done x h new)

none_once : AreOnce []
none_once i e h = absurd (cc)

last_of : (xs : List Entry) (x : Entry) → slice_get (xs ++ x ∷ []) (length xs) ≡ Some x
last_of [] x = refl
last_of (y ∷ xs) x = last_of xs x

last_pushed : (xs : List Entry) (x : Entry) → last (xs ++ x ∷ []) ≡ Some x
last_pushed xs x =
    let long = length-append xs (x ∷ []) in
    let at : length (xs ++ x ∷ []) - 1 ≡ length xs = omega (arith, long) in
    ap (slice_get (xs ++ x ∷ [])) at ∙ last_of xs x

module _ (types : Table) where
  abbrev Ideal : Entry → Type 0
  Ideal e = IsIdeal types e.of_type e.value

  ideal_leaf : (t : Ty) (v : Value) → IsIdeal types t v → All Ideal (entry t v ∷ [])
  ideal_leaf t v h = All-push Ideal [] (entry t v) (All-nil Ideal) h

  mutual
    -- all that a walk over an ideal value meets is ideal
    ideal_walk : (t : Ty) (v : Value) → IsIdeal types t v → All Ideal (walk types t v)
    ideal_walk (AuthTy t) v h = All-push Ideal (walk types t v) (entry (AuthTy t) v) (ideal_walk t v h) h
    ideal_walk UnitTy UnitV h = ideal_leaf UnitTy UnitV h
    ideal_walk BoolTy (BoolV b) h = ideal_leaf BoolTy (BoolV b) h
    ideal_walk IntTy (IntV z) h = ideal_leaf IntTy (IntV z) h
    ideal_walk TextTy (TextV bytes) h = ideal_leaf TextTy (TextV bytes) h
    ideal_walk (PairTy a b) (PairV x y) h =
        All-push Ideal (walk types a x ++ walk types b y) (entry (PairTy a b) (PairV x y))
        (All-append Ideal (walk types a x) (walk types b y) (ideal_walk a x h.0) (ideal_walk b y h.1)) h
    ideal_walk (NamedTy number) (ConV tag vs) h =
        All-push Ideal (walk_all types (unwrap_or (fields_at types number tag) []) vs) (entry (NamedTy number) (ConV tag vs))
        (ideal_fields (fields_at types number tag) vs h) h
    ideal_walk (VecTy n t) (ItemsV vs) h =
        All-push Ideal (walk_all types (item_types n t) vs) (entry (VecTy n t) (ItemsV vs)) (ideal_fields (Some (item_types n t)) vs h) h
    ideal_walk t v h = elim h [ ]

    ideal_fields : (o : Option (List Ty)) (vs : Values) → OnFields o (λ ts. AreIdeal types ts vs) → All Ideal (walk_all types (unwrap_or o []) vs)
    ideal_fields (Some []) NoV h = All-nil Ideal
    ideal_fields (Some (t ∷ ts)) (AndV v vs) h = All-append Ideal (walk types t v) (walk_all types ts vs) (ideal_walk t v h.0) (ideal_fields (Some ts) vs h.1)
    ideal_fields o vs h = elim h [ ]

  module _ (whole : Ty) (lengths : (u : Ty) → IsPartOf types whole u → HasLength u) where
    abbrev Long : Entry → Type 0
    Long e = HasLength e.of_type

    abbrev AllParts : List Ty → Type 0
    AllParts ts = (i : ℕ) (t : Ty) → slice_get ts i ≡ Some t → IsPartOf types whole t

    item_parts : (n : ℕ) (t : Ty) → IsPartOf types whole (VecTy n t) → AllParts (item_types n t)
    item_parts n t p i u at = subst (IsPartOf types whole) (same n i at) (Element p)
      where
        same : (n i : ℕ) → slice_get (item_types n t) i ≡ Some u → t ≡ u
        same zero i at = absurd (cc)
        same (suc n) zero at = cc
        same (suc n) (suc i) at = same n i at

    field_parts : (number tag : ℕ) (o : Option (List Ty)) → fields_at types number tag ≡ o → IsPartOf types whole (NamedTy number) → AllParts (unwrap_or o [])
    field_parts number tag (Some ts) there p i t at = Field p tag i ts there at
    field_parts number tag None there p i t at = absurd (cc)

    mutual
      -- of all that a walk meets, the arrays have lengths that are allowed
      long_walk : (t : Ty) (v : Value) → IsPartOf types whole t → All Long (walk types t v)
      long_walk (AuthTy t) v p = All-push Long (walk types t v) (entry (AuthTy t) v) (long_walk t v (Authenticated p)) tt
      long_walk (PairTy a b) (PairV x y) p =
          All-push Long (walk types a x ++ walk types b y) (entry (PairTy a b) (PairV x y))
          (All-append Long (walk types a x) (walk types b y) (long_walk a x (First p)) (long_walk b y (Second p))) tt
      long_walk (NamedTy number) (ConV tag vs) p =
          All-push Long (walk_all types (unwrap_or (fields_at types number tag) []) vs) (entry (NamedTy number) (ConV tag vs))
          (long_fields (unwrap_or (fields_at types number tag) []) vs (field_parts number tag (fields_at types number tag) refl p)) tt
      long_walk (VecTy n t) (ItemsV vs) p =
          All-push Long (walk_all types (item_types n t) vs) (entry (VecTy n t) (ItemsV vs)) (long_fields (item_types n t) vs (item_parts n t p)) (lengths (VecTy n t) p)
      long_walk t v p = All-push Long [] (entry t v) (All-nil Long) (lengths t p)

      long_fields : (ts : List Ty) (vs : Values) → AllParts ts → All Long (walk_all types ts vs)
      long_fields (t ∷ ts) (AndV v vs) parts =
          All-append Long (walk types t v) (walk_all types ts vs) (long_walk t v (parts 0 t refl)) (long_fields ts vs (λ i u at. parts (suc i) u at))
      long_fields [] vs parts = All-nil Long
      long_fields (t ∷ ts) NoV parts = All-nil Long

  -- the parts of the entry are among these
  abbrev IsInside : List Entry → Entry → Type 0
  IsInside all e = AreAmong all (parts types e.of_type e.value)

  all_inside : (done xs : List Entry) → AreBehind types done xs → All (IsInside (done ++ xs)) xs
  all_inside done [] h = All-nil (IsInside (done ++ []))
  all_inside done (x ∷ xs) h =
      All-cons (IsInside (done ++ x ∷ xs)) x xs (are_more done (x ∷ xs) (parts types x.of_type x.value) h.0)
      (subst (λ all. All (IsInside all) xs) (append_assoc done (x ∷ []) xs) (all_inside (done ++ x ∷ []) xs h.1))

pub saved_parts_are_once : SavedPartsAreOnce
saved_parts_are_once types t v numbers lengths ideal few =
    let entries = distinct [] (walk types t v) in
    let once : AreOnce entries = distinct_once [] (walk types t v) none_once in
    let all_ideal : All (Ideal types) entries = all_distinct (Ideal types) [] (walk types t v) (All-nil (Ideal types)) (ideal_walk types t v ideal) in
    let all_long : All (Long types t lengths) entries = all_distinct (Long types t lengths) [] (walk types t v) (All-nil (Long types t lengths)) (long_walk types t lengths t v Itself) in
    let inside : All (IsInside types entries) entries = all_inside types [] entries (behind_distinct types [] (walk types t v) tt (walk_behind types t v [])) in
    let few_types : length types ≤ 65536 = omega (arith, leb-true (length types) 256 numbers) in (
      λ i j e f at there same.
          (let e_there = among_at e entries i at in
          let f_there = among_at f entries j there in
          let one : e ≡ f =
          one_record entries few types few_types e f (all_among (Long types t lengths) entries e all_long e_there) (all_among (Ideal types) entries e all_ideal e_there) (all_among (IsInside types entries) entries e inside e_there)
          (all_among (Long types t lengths) entries f all_long f_there) (all_among (Ideal types) entries f all_ideal f_there) (all_among (IsInside types entries) entries f inside f_there) same in
          sym (once i e at) ∙ ap (number_among entries) one ∙ once j f there),
      ap last (whole_last types t v) ∙ last_pushed (distinct [] (walks types (parts types t v))) (entry t v),
    )
