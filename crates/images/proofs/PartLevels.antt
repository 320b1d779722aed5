-- The levels on which parts of a type are found: how many named types are opened.
use Rattle.std.proofs.Common.{◌≡◌, ◌⊎◌, inl, inr, ℕ, zero, suc, Bool, true, List, [], ◌∷◌, unwrap_or, Some, slice_get, refl, sym, subst}
use Rattle.std.proofs.lemmas.Bool.{or_cases, or_left, or_right}
use Rattle.core_terms.specs.Types.{Ty, UnitTy, BoolTy, IntTy, TextTy, PairTy, NamedTy, AuthTy, VecTy, Table, same_type}
use Rattle.core_terms.specs.Roles.{some_passes}
use Rattle.core_terms.proofs.TypingComplete.{same_self}
use Rattle.core_terms.proofs.SameTypes.{same_sound}
use Rattle.images.specs.Parts.{is_part_within}

-- one of these passes, by its place
pub passer : {A : Type 0} (test : A → Bool) (xs : List A) → some_passes test xs ≡ true → (i : ℕ) × (x : A) × (slice_get xs i ≡ Some x) × (test x ≡ true)
passer test [] h = absurd (cc)
passer test (x ∷ xs) h = elim (or_cases (test x) (some_passes test xs) h) [ inl e ↦ (0, x, refl, e) | inr e ↦ later (passer test xs e) ]
  where
    later : ((i : ℕ) × (y : _) × (slice_get xs i ≡ Some y) × (test y ≡ true)) → (i : ℕ) × (y : _) × (slice_get (x ∷ xs) i ≡ Some y) × (test y ≡ true)
    later f = (suc f.0, f.1, f.2, f.3)

pub passes_at : {A : Type 0} (test : A → Bool) (xs : List A) (i : ℕ) (x : A) → slice_get xs i ≡ Some x → test x ≡ true → some_passes test xs ≡ true
passes_at test [] i x at e = absurd (cc)
passes_at test (y ∷ ys) zero x at e = or_left (test y) _ (let same : y ≡ x = cc in rw same e)
passes_at test (y ∷ ys) (suc i) x at e = or_right (test y) _ (passes_at test ys i x at e)

module _ (types : Table) where
  -- the type is that of a field of one of the named type's constructors
  abbrev pub IsField : Ty → ℕ → Type 0
  IsField f number = (tag : ℕ) × (ts : List Ty) × (slice_get (unwrap_or (slice_get types number) []) tag ≡ Some ts) × (i : ℕ) × (slice_get ts i ≡ Some f)

  -- the first type is the other one or a part of it
  abbrev pub IsPart : ℕ → Ty → Ty → Type 0
  IsPart k t u = is_part_within types k t u ≡ true

  pub itself : (k : ℕ) (t : Ty) → IsPart k t t
  itself zero UnitTy = refl
  itself (suc k) UnitTy = refl
  itself zero BoolTy = refl
  itself (suc k) BoolTy = refl
  itself zero IntTy = refl
  itself (suc k) IntTy = refl
  itself zero TextTy = refl
  itself (suc k) TextTy = refl
  itself zero (PairTy a b) = or_left _ _ (same_self (PairTy a b))
  itself (suc k) (PairTy a b) = or_left _ _ (same_self (PairTy a b))
  itself zero (NamedTy n) = same_self (NamedTy n)
  itself (suc k) (NamedTy n) = or_left _ _ (same_self (NamedTy n))
  itself zero (AuthTy a) = or_left _ _ (same_self (AuthTy a))
  itself (suc k) (AuthTy a) = or_left _ _ (same_self (AuthTy a))
  itself zero (VecTy n a) = or_left _ _ (same_self (VecTy n a))
  itself (suc k) (VecTy n a) = or_left _ _ (same_self (VecTy n a))

  pub in_auth : (k : ℕ) (t a : Ty) → IsPart k t a → IsPart k t (AuthTy a)
  in_auth zero t a h = or_right (same_type t (AuthTy a)) _ h
  in_auth (suc k) t a h = or_right (same_type t (AuthTy a)) _ h

  pub in_vec : (k : ℕ) (t : Ty) (n : ℕ) (a : Ty) → IsPart k t a → IsPart k t (VecTy n a)
  in_vec zero t n a h = or_right (same_type t (VecTy n a)) _ h
  in_vec (suc k) t n a h = or_right (same_type t (VecTy n a)) _ h

  pub in_first : (k : ℕ) (t a b : Ty) → IsPart k t a → IsPart k t (PairTy a b)
  in_first zero t a b h = or_right (same_type t (PairTy a b)) _ (or_left _ _ h)
  in_first (suc k) t a b h = or_right (same_type t (PairTy a b)) _ (or_left _ _ h)

  pub in_second : (k : ℕ) (t a b : Ty) → IsPart k t b → IsPart k t (PairTy a b)
  in_second zero t a b h = or_right (same_type t (PairTy a b)) _ (or_right (is_part_within types 0 t a) _ h)
  in_second (suc k) t a b h = or_right (same_type t (PairTy a b)) _ (or_right (is_part_within types (suc k) t a) _ h)

  pub in_field : (k : ℕ) (t f : Ty) (n : ℕ) → IsField f n → IsPart k t f → IsPart (suc k) t (NamedTy n)
  in_field k t f n field h =
      or_right (same_type t (NamedTy n)) _
      (passes_at (some_passes (is_part_within types k t)) (unwrap_or (slice_get types n) []) field.0 field.1 field.2
      (passes_at (is_part_within types k t) field.1 field.3 f field.4 h))

  pub auth_cases : (k : ℕ) (t a : Ty) → IsPart k t (AuthTy a) → (t ≡ AuthTy a) ⊎ IsPart k t a
  auth_cases zero t a h = elim (or_cases (same_type t (AuthTy a)) _ h) [ inl e ↦ inl (same_sound t (AuthTy a) e) | inr e ↦ inr e ]
  auth_cases (suc k) t a h = elim (or_cases (same_type t (AuthTy a)) _ h) [ inl e ↦ inl (same_sound t (AuthTy a) e) | inr e ↦ inr e ]

  pub vec_cases : (k : ℕ) (t : Ty) (n : ℕ) (a : Ty) → IsPart k t (VecTy n a) → (t ≡ VecTy n a) ⊎ IsPart k t a
  vec_cases zero t n a h = elim (or_cases (same_type t (VecTy n a)) _ h) [ inl e ↦ inl (same_sound t (VecTy n a) e) | inr e ↦ inr e ]
  vec_cases (suc k) t n a h = elim (or_cases (same_type t (VecTy n a)) _ h) [ inl e ↦ inl (same_sound t (VecTy n a) e) | inr e ↦ inr e ]

  pub pair_cases : (k : ℕ) (t a b : Ty) → IsPart k t (PairTy a b) → (t ≡ PairTy a b) ⊎ (IsPart k t a ⊎ IsPart k t b)
  pair_cases zero t a b h =
      elim (or_cases (same_type t (PairTy a b)) _ h) [ inl e ↦ inl (same_sound t (PairTy a b) e) | inr e ↦ inr (or_cases (is_part_within types 0 t a) _ e) ]
  pair_cases (suc k) t a b h =
      elim (or_cases (same_type t (PairTy a b)) _ h) [ inl e ↦ inl (same_sound t (PairTy a b) e) | inr e ↦ inr (or_cases (is_part_within types (suc k) t a) _ e) ]

  -- a part that is found in a field of one of these constructors
  abbrev pub InField : ℕ → Ty → ℕ → Type 0
  InField k t n = (f : Ty) × (field : IsField f n) × IsPart k t f

  found_field : (k : ℕ) (t : Ty) (n : ℕ) → some_passes (some_passes (is_part_within types k t)) (unwrap_or (slice_get types n) []) ≡ true → InField k t n
  found_field k t n h =
      let constructor = passer (some_passes (is_part_within types k t)) (unwrap_or (slice_get types n) []) h in
      let field = passer (is_part_within types k t) constructor.1 constructor.3 in
      (field.1, (constructor.0, constructor.1, constructor.2, field.0, field.2), field.3)

  pub named_cases : (k : ℕ) (t : Ty) (n : ℕ) → IsPart (suc k) t (NamedTy n) → (t ≡ NamedTy n) ⊎ InField k t n
  named_cases k t n h =
      elim (or_cases (same_type t (NamedTy n)) _ h) [ inl e ↦ inl (same_sound t (NamedTy n) e) | inr e ↦ inr (found_field k t n e) ]

  -- What is a part of t is one of what t is a part of. Behind t as many named types are opened as `up` says.
  module _ (up : ℕ → ℕ) (up_suc : (k : ℕ) → up (suc k) ≡ suc (up k)) (s t : Ty) (base : (k : ℕ) → IsPart (up k) s t) where
    here : (k : ℕ) (u : Ty) → t ≡ u → IsPart (up k) s u
    here k u e = subst (IsPart (up k) s) e (base k)

    through : (k : ℕ) (u : Ty) → IsPart k t u → IsPart (up k) s u
    through zero UnitTy h = here zero UnitTy (same_sound t UnitTy h)
    through (suc k) UnitTy h = here (suc k) UnitTy (same_sound t UnitTy h)
    through zero BoolTy h = here zero BoolTy (same_sound t BoolTy h)
    through (suc k) BoolTy h = here (suc k) BoolTy (same_sound t BoolTy h)
    through zero IntTy h = here zero IntTy (same_sound t IntTy h)
    through (suc k) IntTy h = here (suc k) IntTy (same_sound t IntTy h)
    through zero TextTy h = here zero TextTy (same_sound t TextTy h)
    through (suc k) TextTy h = here (suc k) TextTy (same_sound t TextTy h)
    through k (PairTy a b) h =
        elim (pair_cases k t a b h) [
          | inl e ↦ here k (PairTy a b) e
          | inr (inl p) ↦ in_first (up k) s a b (through k a p)
          | inr (inr p) ↦ in_second (up k) s a b (through k b p)
        ]
    through k (AuthTy a) h = elim (auth_cases k t a h) [ inl e ↦ here k (AuthTy a) e | inr p ↦ in_auth (up k) s a (through k a p) ]
    through k (VecTy n a) h = elim (vec_cases k t n a h) [ inl e ↦ here k (VecTy n a) e | inr p ↦ in_vec (up k) s n a (through k a p) ]
    through zero (NamedTy n) h = here zero (NamedTy n) (same_sound t (NamedTy n) h)
    through (suc k) (NamedTy n) h =
        elim (named_cases k t n h) [
          | inl e ↦ here (suc k) (NamedTy n) e
          | inr found ↦ subst (λ m. IsPart m s (NamedTy n)) (sym (up_suc k)) (in_field (up k) s found.0 n found.1 (through k found.0 found.2))
        ]

  -- what is found by opening k named types is found by opening one more
  pub one_later : (k : ℕ) (t u : Ty) → IsPart k t u → IsPart (suc k) t u
  one_later k t u h = through (λ m. suc m) (λ m. refl) t t (λ m. itself (suc m) t) k u h

  later : (k : ℕ) (t u : Ty) → IsPart 0 t u → IsPart k t u
  later zero t u h = h
  later (suc k) t u h = one_later k t u (later k t u h)

  -- a part that is found with no opening, of one that is found by opening k named types
  pub part_of_part : (k : ℕ) (s t u : Ty) → IsPart k t u → IsPart 0 s t → IsPart k s u
  part_of_part k s t u h p = through (λ m. m) (λ m. refl) s t (λ m. later m s t p) k u h

  -- the same of a field of a named type that is found so
  pub part_of_field : (k : ℕ) (s f : Ty) (n : ℕ) (u : Ty) → IsPart k (NamedTy n) u → IsField f n → IsPart 0 s f → IsPart (suc k) s u
  part_of_field k s f n u h field p = through (λ m. suc m) (λ m. refl) s (NamedTy n) (λ m. in_field m s f n field (later m s f p)) k u h

  -- the part is one of a field of a named type that is found by opening k named types
  abbrev pub IsBehind : ℕ → Ty → Ty → Type 0
  IsBehind k s u = (n : ℕ) × (f : Ty) × (field : IsField f n) × (named : IsPart k (NamedTy n) u) × IsPart 0 s f

  -- what is found by opening one more is found before, or is a part of such a field
  pub before_or_behind : (k : ℕ) (s u : Ty) → IsPart (suc k) s u → IsPart k s u ⊎ IsBehind k s u
  before_or_behind zero s UnitTy h = inl h
  before_or_behind (suc k) s UnitTy h = inl h
  before_or_behind zero s BoolTy h = inl h
  before_or_behind (suc k) s BoolTy h = inl h
  before_or_behind zero s IntTy h = inl h
  before_or_behind (suc k) s IntTy h = inl h
  before_or_behind zero s TextTy h = inl h
  before_or_behind (suc k) s TextTy h = inl h
  before_or_behind k s (PairTy a b) h =
      elim (pair_cases (suc k) s a b h) [
        | inl e ↦ inl (subst (IsPart k s) e (itself k s))
        | inr (inl p) ↦ elim (before_or_behind k s a p) [
          | inl q ↦ inl (in_first k s a b q)
          | inr q ↦ inr (q.0, q.1, q.2, in_first k (NamedTy q.0) a b q.3, q.4)
        ]
        | inr (inr p) ↦ elim (before_or_behind k s b p) [
          | inl q ↦ inl (in_second k s a b q)
          | inr q ↦ inr (q.0, q.1, q.2, in_second k (NamedTy q.0) a b q.3, q.4)
        ]
      ]
  before_or_behind k s (AuthTy a) h =
      elim (auth_cases (suc k) s a h) [
        | inl e ↦ inl (subst (IsPart k s) e (itself k s))
        | inr p ↦ elim (before_or_behind k s a p) [
          | inl q ↦ inl (in_auth k s a q)
          | inr q ↦ inr (q.0, q.1, q.2, in_auth k (NamedTy q.0) a q.3, q.4)
        ]
      ]
  before_or_behind k s (VecTy n a) h =
      elim (vec_cases (suc k) s n a h) [
        | inl e ↦ inl (subst (IsPart k s) e (itself k s))
        | inr p ↦ elim (before_or_behind k s a p) [
          | inl q ↦ inl (in_vec k s n a q)
          | inr q ↦ inr (q.0, q.1, q.2, in_vec k (NamedTy q.0) n a q.3, q.4)
        ]
      ]
  before_or_behind zero s (NamedTy n) h =
      elim (named_cases zero s n h) [
        | inl e ↦ inl (subst (IsPart 0 s) e (itself 0 s))
        | inr found ↦ inr (n, found.0, found.1, itself 0 (NamedTy n), found.2)
      ]
  before_or_behind (suc k) s (NamedTy n) h =
      elim (named_cases (suc k) s n h) [
        | inl e ↦ inl (subst (IsPart (suc k) s) e (itself (suc k) s))
        | inr found ↦ elim (before_or_behind k s found.0 found.2) [
          | inl q ↦ inl (in_field k s found.0 n found.1 q)
          | inr q ↦ inr (q.0, q.1, q.2, in_field k (NamedTy q.0) found.0 n found.1 q.3, q.4)
        ]
      ]
