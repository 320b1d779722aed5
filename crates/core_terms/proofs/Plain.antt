-- A value of a type without `auth` is its own projection, and a shallow one is ideal.
use Rattle.std.proofs.Common.{◌≡◌, ℕ, zero, suc, Bool, true, false, ◌||◌, List, [], ◌∷◌, Option, Some, None, unwrap_or, slice_get, refl, sym, ap, ap₂, subst, ◌∙◌}
use Rattle.std.specs.Option.{option_and_then}
use Rattle.core_terms.specs.Types.{Ty, UnitTy, BoolTy, IntTy, TextTy, PairTy, NamedTy, AuthTy, VecTy, Table, fields_at, item_types, OnFields}
use Rattle.core_terms.specs.Values.{Value, UnitV, BoolV, IntV, TextV, PairV, ConV, ItemsV, Values, NoV, AndV, IsIdeal, AreIdeal, IsShallow, AreShallow}
use Rattle.core_terms.specs.Spelling.{shallow, shallow_all}
use Rattle.core_terms.specs.Roles.{some_passes, has_auth_within}
use Rattle.core_terms.specs.RoleTypes.{IsPlain}

pub first_no : (a b : Bool) → a || b ≡ false → a ≡ false
first_no true b e = cc
first_no false b e = refl

pub second_no : (a b : Bool) → a || b ≡ false → b ≡ false
second_no true b e = cc
second_no false b e = e

-- where none of a list passes, the element with a number doesn't
none_at : {A : Type 0} (test : A → Bool) (xs : List A) (i : ℕ) (x : A) → some_passes test xs ≡ false → slice_get xs i ≡ Some x → test x ≡ false
none_at test [] i x e at = cc
none_at test (y ∷ ys) zero x e at = let same : y ≡ x = cc in ap test (sym same) ∙ first_no (test y) _ e
none_at test (y ∷ ys) (suc i) x e at = none_at test ys i x (second_no (test y) _ e) at

-- the field types of a constructor are plain where its type is
pub fields_none : (types : Table) (opened tag : ℕ) (o : Option (List (List Ty))) (ts : List Ty) → some_passes (some_passes (has_auth_within types opened)) (unwrap_or o []) ≡ false
    → option_and_then (λ constructors. slice_get constructors tag) o ≡ Some ts → some_passes (has_auth_within types opened) ts ≡ false
fields_none types opened tag None ts e at = cc
fields_none types opened tag (Some constructors) ts e at = none_at (some_passes (has_auth_within types opened)) constructors tag ts e at

-- each type of a list is plain
abbrev ArePlain : Table → List Ty → Type 0
ArePlain types ts = (opened : ℕ) → some_passes (has_auth_within types opened) ts ≡ false

-- neither passes
neither : (a b : Bool) → a ≡ false → b ≡ false → a || b ≡ false
neither false b e f = f
neither true b e f = cc

-- the elements of an array are plain where its type is
pub items_plain : (types : Table) (t : Ty) (n : ℕ) → IsPlain types t → ArePlain types (item_types n t)
items_plain types t zero p opened = refl
items_plain types t (suc n) p opened = neither (has_auth_within types opened t) _ (p opened) (items_plain types t n p opened)

module _ (digest : Ty → List ℕ → List ℕ) (types : Table) where
  mutual
    pub own : (t : Ty) (v : Value) → IsPlain types t → IsIdeal types t v → shallow digest types t v ≡ v
    own (AuthTy t) v p h = absurd (cc (p 0))
    own UnitTy UnitV p h = refl
    own BoolTy (BoolV b) p h = refl
    own IntTy (IntV z) p h = refl
    own TextTy (TextV bytes) p h = refl
    own (PairTy a b) (PairV x y) p h = ap₂ PairV (own a x (λ n. first_no (has_auth_within types n a) _ (p n)) h.0) (own b y (λ n. second_no (has_auth_within types n a) _ (p n)) h.1)
    own (NamedTy number) (ConV tag vs) p h = ap (λ vs. ConV tag vs) (owns (fields_at types number tag) vs (λ ts at n. fields_none types n tag (slice_get types number) ts (p (suc n)) at) h)
    own (VecTy n t) (ItemsV vs) p h =
        ap ItemsV (owns (Some (item_types n t)) vs (λ ts at. let same : item_types n t ≡ ts = cc in subst (ArePlain types) same (items_plain types t n p)) h)
    own t v p h = elim h [ ]

    owns : (o : Option (List Ty)) (vs : Values) → ((ts : List Ty) → o ≡ Some ts → ArePlain types ts) → OnFields o (λ ts. AreIdeal types ts vs)
        → shallow_all digest types (unwrap_or o []) vs ≡ vs
    owns (Some []) NoV p h = refl
    owns (Some (t ∷ ts)) (AndV v vs) p h =
        ap₂ AndV (own t v (λ n. first_no (has_auth_within types n t) _ (p (t ∷ ts) refl n)) h.0)
        (owns (Some ts) vs (λ us at n. let same : ts ≡ us = cc (at) in ap (some_passes (has_auth_within types n)) (sym same) ∙ second_no (has_auth_within types n t) _ (p (t ∷ ts) refl n)) h.1)
    owns o vs p h = elim h [ ]

-- a shallow value of a plain type is an ideal one
module _ (types : Table) where
  mutual
    pub plain_ideal : (t : Ty) (v : Value) → IsPlain types t → IsShallow types t v → IsIdeal types t v
    plain_ideal (AuthTy t) v p h = absurd (cc (p 0))
    plain_ideal UnitTy UnitV p h = tt
    plain_ideal BoolTy (BoolV b) p h = tt
    plain_ideal IntTy (IntV z) p h = h
    plain_ideal TextTy (TextV bytes) p h = h
    plain_ideal (PairTy a b) (PairV x y) p h =
        (plain_ideal a x (λ n. first_no (has_auth_within types n a) _ (p n)) h.0, plain_ideal b y (λ n. second_no (has_auth_within types n a) _ (p n)) h.1)
    plain_ideal (NamedTy number) (ConV tag vs) p h = plain_ideals (fields_at types number tag) vs (λ ts at n. fields_none types n tag (slice_get types number) ts (p (suc n)) at) h
    plain_ideal (VecTy n t) (ItemsV vs) p h =
        plain_ideals (Some (item_types n t)) vs (λ ts at. let same : item_types n t ≡ ts = cc in subst (ArePlain types) same (items_plain types t n p)) h
    plain_ideal t v p h = elim h [ ]

    plain_ideals : (o : Option (List Ty)) (vs : Values) → ((ts : List Ty) → o ≡ Some ts → ArePlain types ts)
        → OnFields o (λ ts. AreShallow types ts vs) → OnFields o (λ ts. AreIdeal types ts vs)
    plain_ideals (Some []) NoV p h = tt
    plain_ideals (Some (t ∷ ts)) (AndV v vs) p h = (
      plain_ideal t v (λ n. first_no (has_auth_within types n t) _ (p (t ∷ ts) refl n)) h.0,
      plain_ideals (Some ts) vs (λ us at n. let same : ts ≡ us = cc in ap (some_passes (has_auth_within types n)) (sym same) ∙ second_no (has_auth_within types n t) _ (p (t ∷ ts) refl n)) h.1,
    )
    plain_ideals o vs p h = elim h [ ]
