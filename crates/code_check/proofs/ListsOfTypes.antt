-- A list is known by its type, and a table that grows keeps what its numbers stand for.
use Rattle.std.proofs.Common.{◌≡◌, ◌<◌, ◌≤◌, ◌+◌, ◌-◌, ℕ, zero, suc, true, ◌&&◌, List, [], ◌∷◌, ◌++◌, length, drop, get_or, Option, Some, None, slice_get, nat_lt, refl, sym, ap, ap₂, ◌∙◌, subst, append_assoc, append-nil, ltb-true, arith}
use Rattle.std.proofs.lemmas.Bool.{lt-ltb}
use Rattle.std.proofs.lemmas.List.{length-append}
use Rattle.std.proofs.Math.ListN.{get_or-append}
use Rattle.core_terms.specs.Types.{Ty, UnitTy, PairTy}
use Rattle.core_terms.specs.ProgramTrees.{are_below, types_at}
use Rattle.core_terms.specs.TypeTables.{type_at}
use Rattle.core_terms.specs.declared.types.TyId.{TyId}
use Rattle.core_terms.proofs.SameTypes.{first_of, second_of}
use Rattle.code_check.specs.declared.lists.Top.{Top}
use Rattle.code_check.specs.TypeLists.{list_of, IsList, IsTop, IsLeft, Grows, first_off}

first_is : (t u a b : Ty) → PairTy t a ≡ PairTy u b → t ≡ u
first_is t u a b e = cc

second_is : (t u a b : Ty) → PairTy t a ≡ PairTy u b → a ≡ b
second_is t u a b e = cc

pub one_list : (ts us : List Ty) → list_of ts ≡ list_of us → ts ≡ us
one_list [] [] e = refl
one_list (t ∷ ts) (u ∷ us) e = ap₂ (λ x xs. x ∷ xs) (first_is t u (list_of ts) (list_of us) e) (one_list ts us (second_is t u (list_of ts) (list_of us) e))
one_list [] (u ∷ us) e = absurd (cc)
one_list (t ∷ ts) [] e = absurd (cc)

-- what stands at a place stays there where more is put behind
get_stays : {A : Type 0} (xs ys : List A) (i : ℕ) (x : A) → slice_get xs i ≡ Some x → slice_get (xs ++ ys) i ≡ Some x
get_stays [] ys i x e = absurd (cc)
get_stays (y ∷ xs) ys zero x e = e
get_stays (y ∷ xs) ys (suc i) x e = get_stays xs ys i x e

pub there_stays : (old new : List Ty) (i : ℕ) (t : Ty) → Grows old new → slice_get old i ≡ Some t → slice_get new i ≡ Some t
there_stays old new i t g h = subst (λ l. slice_get l i ≡ Some t) (sym g.1) (get_stays old g.0 i t h)

pub list_stays : (old new : List Ty) (id : TyId) (ts : List Ty) → Grows old new → IsList old id ts → IsList new id ts
list_stays old new id ts g h = there_stays old new id.0 (list_of ts) g h

pub type_stays : (old new : List Ty) (id : TyId) → Grows old new → id.0 < length old → type_at new id ≡ type_at old id
type_stays old new id g h = ap (λ l. type_at l id) g.1 ∙ get_or-append old g.0 UnitTy id.0 h

pub types_stay : (old new : List Ty) (ids : List TyId) → Grows old new → are_below (length old) ids ≡ true → types_at new ids ≡ types_at old ids
types_stay old new [] g h = refl
types_stay old new (id ∷ ids) g h =
    ap₂ (λ t ts. t ∷ ts) (type_stays old new id g (ltb-true id.0 (length old) (first_of _ _ h))) (types_stay old new ids g (second_of (nat_lt id.0 (length old)) _ h))

pub grows_on : (a b c : List Ty) → Grows a b → Grows b c → Grows a c
grows_on a b c g h = (g.0 ++ h.0, h.1 ∙ ap (λ l. l ++ h.0) g.1 ∙ append_assoc a g.0 h.0)

pub grows_not : (a : List Ty) → Grows a a
grows_not a = ([], sym (append-nil a))

pub below_more : (n m : ℕ) (ids : List TyId) → n ≤ m → are_below n ids ≡ true → are_below m ids ≡ true
below_more n m [] l h = refl
below_more n m (id ∷ ids) l h =
    let first : id.0 < n = ltb-true id.0 n (first_of _ _ h) in
    let more : id.0 < m = omega (arith, first, l) in
    ap₂ (λ a b. a && b) (lt-ltb id.0 m more) (below_more n m ids l (second_of (nat_lt id.0 n) _ h))

pub below_at : (n : ℕ) (ids : List TyId) (i : ℕ) (id : TyId) → are_below n ids ≡ true → i < length ids → id ≡ get_or ids i id → id.0 < n
below_at n [] i id h l e = absurd (omega (arith, l))
below_at n (x ∷ ids) zero id h l e = subst (λ (y : TyId). y.0 < n) (sym e) (ltb-true x.0 n (first_of _ _ h))
below_at n (x ∷ ids) (suc i) id h l e = below_at n ids i id (second_of (nat_lt x.0 n) _ h) (omega (arith, l)) e

-- how many types stand in a list, one by one
pub counted : (types ts : List Ty) (top : Top) (n : ℕ) → IsTop types ts (Some top) → ((us : List Ty) → IsList types top.others us → n ≡ length us) → n + 1 ≡ length ts
counted types [] top n h f = elim h [ ]
counted types (t ∷ us) top n h f = omega (arith, f us h.1)

-- a list without so many types at its front
pub too_few : (types : List Ty) (n : ℕ) (ts : List Ty) → (n ≡ 0 → ⊥) → IsTop types ts None → IsLeft types (first_off n ts) None
too_few types zero ts e h = absurd (e refl)
too_few types (suc n) [] e h = tt
too_few types (suc n) (t ∷ ts) e h = elim h [ ]

pub more_off : (types : List Ty) (n : ℕ) (ts : List Ty) (top : Top) (r : Option TyId) → (n ≡ 0 → ⊥) → IsTop types ts (Some top)
    → ((us : List Ty) → IsList types top.others us → IsLeft types (first_off (n - 1) us) r) → IsLeft types (first_off n ts) r
more_off types zero ts top r e h f = absurd (e refl)
more_off types (suc n) [] top r e h f = elim h [ ]
more_off types (suc n) (t ∷ ts) top r e h f = subst (λ m. IsLeft types (first_off m ts) r) (pred n) (f ts h.1)
  where
    pred : (n : ℕ) → suc n - 1 ≡ n
    pred n = omega arith

pub first_off-le : (n : ℕ) (ts : List Ty) → n ≤ length ts → first_off n ts ≡ Some (drop n ts)
first_off-le zero ts l = refl
first_off-le (suc n) [] l = absurd (omega (arith, l))
first_off-le (suc n) (t ∷ ts) l = first_off-le n ts (omega (arith, l))

pub first_off-gt : (n : ℕ) (ts : List Ty) → length ts < n → first_off n ts ≡ None
first_off-gt zero ts l = absurd (omega (arith, l))
first_off-gt (suc n) [] l = refl
first_off-gt (suc n) (t ∷ ts) l = first_off-gt n ts (omega (arith, l))

pub longer_by : (a b : List Ty) → Grows a b → length a ≤ length b
longer_by a b g = let long : length b ≡ length a + length g.0 = ap length g.1 ∙ length-append a g.0 in omega (arith, long)
