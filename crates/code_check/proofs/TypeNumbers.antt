-- The listed types by their numbers in a table.
use Rattle.std.proofs.Common.{◌≡◌, ◌<◌, ◌≤◌, ◌⊎◌, inl, inr, ℕ, zero, suc, ◌+◌, true, List, [], ◌∷◌, ◌++◌, length, slice_get, Some, slice_index_or, refl, ap, ap₂, ◌∙◌, subst, arith, nat_lt, ltb-true, lt-ltb}
use Rattle.std.proofs.Math.ListN.{get_or-append}
use Rattle.std.proofs.lemmas.List.{map_push}
use Rattle.std.proofs.lemmas.Option.{get_or_from_slice_get}
use Rattle.core_terms.specs.Types.{Ty, UnitTy}
use Rattle.core_terms.specs.ProgramTrees.{are_below, types_at}
use Rattle.core_terms.specs.TypeTables.{type_at, type_of_form}
use Rattle.core_terms.specs.declared.types.TyForm.{TyForm}
use Rattle.core_terms.specs.declared.types.TyId.{TyId}
use Rattle.core_terms.proofs.SameTypes.{first_of, second_of}
use Rattle.core_terms.proofs.TypingComplete.{both}
use Rattle.object_meaning.specs.ObjectBodies.{tree_of, trees_behind}
use Rattle.object_meaning.specs.Objects.{ListedType}
use Rattle.object_meaning.specs.ReadObjects.{named_count}
use Rattle.object_meaning.specs.WellFormedObjects.{AllBelow}
use Rattle.code_check.specs.ListedParts.{HasPartsBefore, HavePartsBefore}

-- A TABLE THAT GROWS
-- the types that are there keep their numbers
one_stays : (old new : List Ty) (t : Ty) → (new ≡ old) ⊎ (new ≡ old ++ t ∷ []) → (n : ℕ) → n < length old → slice_index_or new n UnitTy ≡ slice_index_or old n UnitTy
one_stays old new t (inl e) n h = ap (λ types. slice_index_or types n UnitTy) e
one_stays old new t (inr e) n h = ap (λ types. slice_index_or types n UnitTy) e ∙ get_or-append old (t ∷ []) UnitTy n h

all_stay : (old new : List Ty) → ((n : ℕ) → n < length old → slice_index_or new n UnitTy ≡ slice_index_or old n UnitTy) → (ids : List TyId) → are_below (length old) ids ≡ true
    → types_at new ids ≡ types_at old ids
all_stay old new stays [] h = refl
all_stay old new stays (id ∷ ids) h =
    let here = first_of (nat_lt id.0 (length old)) (are_below (length old) ids) h in
    let behind = second_of (nat_lt id.0 (length old)) (are_below (length old) ids) h in
    ap₂ (λ t ts. t ∷ ts) (stays id.0 (ltb-true id.0 (length old) here)) (all_stay old new stays ids behind)

below_more : (m n : ℕ) → m ≤ n → (ids : List TyId) → are_below m ids ≡ true → are_below n ids ≡ true
below_more m n h [] e = refl
below_more m n h (id ∷ ids) e =
    let here = ltb-true id.0 m (first_of (nat_lt id.0 m) (are_below m ids) e) in
    both (nat_lt id.0 n) (are_below n ids) (lt-ltb id.0 n (omega (arith, h, here))) (below_more m n h ids (second_of (nat_lt id.0 m) (are_below m ids) e))

pub below_push : (count : ℕ) (ids : List TyId) (id : TyId) → are_below count ids ≡ true → id.0 < count → are_below count (ids ++ id ∷ []) ≡ true
below_push count [] id all one = both (nat_lt id.0 count) true (lt-ltb id.0 count one) refl
below_push count (x ∷ ids) id all one =
    both (nat_lt x.0 count) (are_below count (ids ++ id ∷ [])) (first_of (nat_lt x.0 count) (are_below count ids) all)
    (below_push count ids id (second_of (nat_lt x.0 count) (are_below count ids) all) one)

-- a type that is added, or was there, has its number
pub within_more : (old new : List Ty) (ids : List TyId) (id : TyId) → length old ≤ length new → are_below (length old) ids ≡ true → id.0 < length new → are_below (length new) (ids ++ id ∷ []) ≡ true
within_more old new ids id grows all one = below_push (length new) ids id (below_more (length old) (length new) grows ids all) one

pub one_numbered : (old new : List Ty) (ids : List TyId) (id : TyId) (form : TyForm) (named : ℕ) (t : ListedType) (ts : List ListedType) (all : List Ty)
    → (new ≡ old) ⊎ (new ≡ old ++ type_of_form old form ∷ []) → are_below (length old) ids ≡ true → slice_get new id.0 ≡ Some (type_of_form old form)
    → type_of_form old form ≡ tree_of (types_at old ids) named t → trees_behind (types_at old ids) named (t ∷ ts) ≡ all
    → trees_behind (types_at new (ids ++ id ∷ [])) (named + named_count (t ∷ [])) ts ≡ all
one_numbered old new ids id form named t ts all grown below found tree h =
    let added = type_of_form old form in
    let e = map_push (type_at new) ids id
    ∙ ap₂ (λ xs y. xs ++ y ∷ []) (all_stay old new (one_stays old new added grown) ids below) (get_or_from_slice_get new id.0 added UnitTy found ∙ tree) in
    ap (λ before. trees_behind before (named + named_count (t ∷ [])) ts) e ∙ h

-- LISTED NUMBERS
-- a number of a list that has all below a count
pub number_below : (count : ℕ) (ns : List ℕ) (i : ℕ) → AllBelow count ns → i < length ns → slice_index_or ns i 0 < count
number_below count [] i all h = absurd (omega (arith, h))
number_below count (n ∷ ns) zero all h = all.0
number_below count (n ∷ ns) (suc i) all h = number_below count ns i all.1 (omega (arith, h))

-- the types that are left, one by one
pub parts_next : (n : ℕ) (t : ListedType) (ts : List ListedType) → HavePartsBefore n (t ∷ ts) → HasPartsBefore n t × HavePartsBefore (n + 1) ts
parts_next n t ts h = let next : suc n ≡ n + 1 = omega arith in (h.0, subst (λ m. HavePartsBefore m ts) next h.1)
