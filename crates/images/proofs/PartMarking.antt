-- Marks of a program's types, and what is marked by a step.
use Rattle.std.proofs.Common.{◌≡◌, ◌⊎◌, inl, inr, ℕ, zero, suc, ◌+◌, ◌<◌, Bool, true, false, List, [], ◌∷◌, length, Some, slice_get, slice_index_or, slice_set, nat_eq, nat_lt, refl, sym, ap, ◌∙◌, subst, arith, ltb-true, eqb-true}
use Rattle.std.proofs.lemmas.Bool.{eqb-false, ltb-false}
use Rattle.std.proofs.lemmas.List.{get_or_past, length-set, get_or-set_same, get_or-set_other}
use Rattle.std.specs.List.{list_all}
use Rattle.core_terms.specs.ProgramTrees.{are_below}
use Rattle.core_terms.proofs.SameTypes.{first_of, second_of}
use Rattle.core_terms.specs.declared.types.TyId.{TyId}
use Rattle.core_terms.specs.declared.term.Constructor.{Constructor}
use Rattle.core_terms.specs.declared.program_types.Types.{Types}
use Rattle.images.specs.PartMarks.{AddsMarks, IsAmong, IsMarked, IsOfField, IsOpened, constructors_in, type_of}

-- a number that is marked is the place of a mark
pub marked_within : (marks : List Bool) (i : ℕ) → IsMarked marks i → i < length marks
marked_within marks i h = by (nat_lt i (length marks)) refl
  where
    by : (b : Bool) → nat_lt i (length marks) ≡ b → i < length marks
    by true e = ltb-true i (length marks) e
    by false e = let none = get_or_past marks i false (ltb-false i (length marks) e) in absurd (cc)

-- one mark
pub one_mark : (marks : List Bool) (n : ℕ) → n < length marks → AddsMarks (λ i. n ≡ i) marks (slice_set marks n true)
one_mark marks n h = (length-set marks n true, kept, back, λ i e. subst (IsMarked (slice_set marks n true)) e here)
  where
    here : IsMarked (slice_set marks n true) n
    here = get_or-set_same marks n true false h

    kept : (i : ℕ) → IsMarked marks i → IsMarked (slice_set marks n true) i
    kept i m = by (nat_eq n i) refl
      where
        by : (b : Bool) → nat_eq n i ≡ b → IsMarked (slice_set marks n true) i
        by true e = subst (IsMarked (slice_set marks n true)) (eqb-true n i e) here
        by false e = get_or-set_other marks n i true false (λ same. eqb-false n i e (sym same)) ∙ m

    back : (i : ℕ) → IsMarked (slice_set marks n true) i → IsMarked marks i ⊎ (n ≡ i)
    back i m = by (nat_eq n i) refl
      where
        by : (b : Bool) → nat_eq n i ≡ b → IsMarked marks i ⊎ (n ≡ i)
        by true e = inr (eqb-true n i e)
        by false e = inl (sym (get_or-set_other marks n i true false (λ same. eqb-false n i e (sym same))) ∙ m)

-- marks beside marks
pub more_marks : (P Q R : ℕ → Type 0) (a b c : List Bool) → AddsMarks P a b → AddsMarks Q b c → ((i : ℕ) → R i → P i ⊎ Q i) → ((i : ℕ) → P i → R i) → ((i : ℕ) → Q i → R i) → AddsMarks R a c
more_marks P Q R a b c first second cases left right =
    (second.0 ∙ first.0, λ i h. second.1 i (first.1 i h), back, forth)
  where
    back : (i : ℕ) → IsMarked c i → IsMarked a i ⊎ R i
    back i h = elim (second.2 i h) [ inl m ↦ elim (first.2 i m) [ inl old ↦ inl old | inr p ↦ inr (left i p) ] | inr q ↦ inr (right i q) ]

    forth : (i : ℕ) → R i → IsMarked c i
    forth i r = elim (cases i r) [ inl p ↦ second.1 i (first.3 i p) | inr q ↦ second.3 i q ]

-- the same marks, told otherwise
pub same_marked : (P R : ℕ → Type 0) (a b : List Bool) → AddsMarks P a b → ((i : ℕ) → R i → P i) → ((i : ℕ) → P i → R i) → AddsMarks R a b
same_marked P R a b h to of =
    (h.0, h.1, λ i m. elim (h.2 i m) [ inl old ↦ inl old | inr p ↦ inr (of i p) ], λ i r. h.3 i (to i r))

-- one number more is one of these
pub among_step : (ids : List TyId) (n : ℕ) (id : TyId) (old now new : List Bool) → slice_get ids n ≡ Some id → AddsMarks (IsAmong ids n) old now
    → AddsMarks (λ i. id.0 ≡ i) now new → AddsMarks (IsAmong ids (n + 1)) old new
among_step ids n id old now new at before step =
    more_marks (IsAmong ids n) (λ i. id.0 ≡ i) (IsAmong ids (n + 1)) old now new before step
    cases
    (λ i a. (a.0, a.1, omega (arith, a.2), a.3, a.4))
    (λ i e. (n, id, omega arith, at, e))
  where
    cases : (i : ℕ) → IsAmong ids (n + 1) i → IsAmong ids n i ⊎ (id.0 ≡ i)
    cases i a = by (nat_eq a.0 n) refl
      where
        by : (b : Bool) → nat_eq a.0 n ≡ b → IsAmong ids n i ⊎ (id.0 ≡ i)
        by true e =
            let same : Some a.1 ≡ Some id = sym a.3 ∙ ap (slice_get ids) (eqb-true a.0 n e) ∙ at in
            let one : a.1 ≡ id = cc in
            inr (ap (λ (id : TyId). id.0) (sym one) ∙ a.4)
        by false e = inl (a.0, a.1, omega (arith, a.2, eqb-false a.0 n e), a.3, a.4)

-- one constructor more has fields
pub field_step : (cs : List Constructor) (n : ℕ) (c : Constructor) (old now new : List Bool) → slice_get cs n ≡ Some c → AddsMarks (IsOfField cs n) old now
    → AddsMarks (IsAmong c.fields.items (length c.fields.items)) now new → AddsMarks (IsOfField cs (n + 1)) old new
field_step cs n c old now new at before step =
    more_marks (IsOfField cs n) (IsAmong c.fields.items (length c.fields.items)) (IsOfField cs (n + 1)) old now new before step
    cases
    (λ i a. (a.0, a.1, omega (arith, a.2), a.3, a.4))
    (λ i e. (n, c, omega arith, at, e))
  where
    cases : (i : ℕ) → IsOfField cs (n + 1) i → IsOfField cs n i ⊎ IsAmong c.fields.items (length c.fields.items) i
    cases i a = by (nat_eq a.0 n) refl
      where
        by : (b : Bool) → nat_eq a.0 n ≡ b → IsOfField cs n i ⊎ IsAmong c.fields.items (length c.fields.items) i
        by true e =
            let same : Some a.1 ≡ Some c = sym a.3 ∙ ap (slice_get cs) (eqb-true a.0 n e) ∙ at in
            let one : a.1 ≡ c = cc in
            inr (subst (λ (c : Constructor). IsAmong c.fields.items (length c.fields.items) i) one a.4)
        by false e = inl (a.0, a.1, omega (arith, a.2, eqb-false a.0 n e), a.3, a.4)

-- each of these numbers is below the count
pub below_at : (count : ℕ) (ids : List TyId) (i : ℕ) (id : TyId) → are_below count ids ≡ true → slice_get ids i ≡ Some id → id.0 < count
below_at count [] i id h at = absurd (cc)
below_at count (x ∷ xs) zero id h at = let same : x ≡ id = cc in subst (λ (id : TyId). id.0 < count) same (ltb-true x.0 count (first_of _ _ h))
below_at count (x ∷ xs) (suc i) id h at = below_at count xs i id (second_of (nat_lt x.0 count) _ h) at

-- and those of each constructor
pub fields_below_at : (count : ℕ) (cs : List Constructor) (i : ℕ) (c : Constructor) → list_all (λ (c : Constructor). are_below count c.fields.items) cs ≡ true
    → slice_get cs i ≡ Some c → are_below count c.fields.items ≡ true
fields_below_at count [] i c h at = absurd (cc)
fields_below_at count (x ∷ xs) zero c h at = let same : x ≡ c = cc in subst (λ (c : Constructor). are_below count c.fields.items ≡ true) same (first_of _ _ h)
fields_below_at count (x ∷ xs) (suc i) c h at = fields_below_at count xs i c (second_of (are_below count x.fields.items) _ h) at

module _ (p : Types) (opened : List Bool) (n : ℕ) (old now new : List Bool) where
  -- a type that isn't marked adds nothing
  pub open_skip : slice_index_or opened n false ≡ false → AddsMarks (IsOpened p opened n) old now → AddsMarks (IsOpened p opened (n + 1)) old now
  open_skip not_marked before = same_marked (IsOpened p opened n) (IsOpened p opened (n + 1)) old now before to (λ i a. (a.0, omega (arith, a.1), a.2, a.3))
    where
      to : (i : ℕ) → IsOpened p opened (n + 1) i → IsOpened p opened n i
      to i a = by (nat_eq a.0 n) refl
        where
          by : (b : Bool) → nat_eq a.0 n ≡ b → IsOpened p opened n i
          by true e =
              let here : slice_index_or opened n false ≡ true = ap (λ k. slice_index_or opened k false) (sym (eqb-true a.0 n e)) ∙ a.2 in
              absurd (cc)
          by false e = (a.0, omega (arith, a.1, eqb-false a.0 n e), a.2, a.3)

  -- one that is marked adds the types of its fields
  pub open_step : (cs : List Constructor) → cs ≡ constructors_in p (type_of p n) → IsMarked opened n → AddsMarks (IsOpened p opened n) old now → AddsMarks (IsOfField cs (length cs)) now new
      → AddsMarks (IsOpened p opened (n + 1)) old new
  open_step cs are marked before step =
      more_marks (IsOpened p opened n) (IsOfField cs (length cs)) (IsOpened p opened (n + 1)) old now new before step
      cases
      (λ i a. (a.0, omega (arith, a.1), a.2, a.3))
      (λ i f. (n, omega arith, marked, subst (λ (cs : List Constructor). IsOfField cs (length cs) i) are f))
    where
      cases : (i : ℕ) → IsOpened p opened (n + 1) i → IsOpened p opened n i ⊎ IsOfField cs (length cs) i
      cases i a = by (nat_eq a.0 n) refl
        where
          by : (b : Bool) → nat_eq a.0 n ≡ b → IsOpened p opened n i ⊎ IsOfField cs (length cs) i
          by true e =
              inr (subst (λ (cs : List Constructor). IsOfField cs (length cs) i) (ap (λ k. constructors_in p (type_of p k)) (eqb-true a.0 n e) ∙ sym are) a.3)
          by false e = inl (a.0, omega (arith, a.1, eqb-false a.0 n e), a.2, a.3)
