-- What is marked when marks are spread to parts, with no named type opened.
use Rattle.std.proofs.Common.{◌≡◌, inl, inr, ℕ, ◌+◌, ◌<◌, ◌≤◌, Bool, true, false, List, length, nat_eq, nat_lt, refl, sym, ap, ◌∙◌, subst, arith, ltb-true, eqb-true}
use Rattle.std.proofs.lemmas.Bool.{eqb-false}
use Rattle.core_terms.specs.Types.{Ty, UnitTy, BoolTy, IntTy, TextTy, PairTy, NamedTy, AuthTy, VecTy}
use Rattle.core_terms.specs.ProgramTypes.{types_by_number, types_meaning}
use Rattle.core_terms.specs.TypeTables.{stands_behind, type_of_form}
use Rattle.core_terms.specs.declared.types.TyForm.{TyForm}
use Rattle.core_terms.specs.declared.types.TyForm.TheVariants.{UnitForm, BoolForm, IntForm, TextForm, AuthForm, PairForm, NamedForm, VecForm}
use Rattle.core_terms.specs.declared.program_types.Types.{Types}
use Rattle.core_terms.proofs.SameTypes.{first_of, second_of, same_sound}
use Rattle.images.specs.PartMarks.{AddsMarks, IsMarked, IsPartOfForm, IsSpread, type_of}
use Rattle.images.proofs.PartLevels.{IsPart, itself, in_auth, in_first, in_second, in_vec, auth_cases, pair_cases, part_of_part, vec_cases}

-- a part of a form stands before a type of the form
part_before : (form : TyForm) (m i : ℕ) → stands_behind m form ≡ true → IsPartOfForm form i → i < m
part_before (AuthForm part) m i h e = subst (λ i. i < m) e (ltb-true part.0 m h)
part_before (PairForm first second) m i h (inl e) = subst (λ i. i < m) e (ltb-true first.0 m (first_of _ _ h))
part_before (PairForm first second) m i h (inr e) = subst (λ i. i < m) e (ltb-true second.0 m (second_of (nat_lt first.0 m) _ h))
part_before (VecForm len part) m i h e = subst (λ i. i < m) e (ltb-true part.0 m (first_of _ _ h))
part_before UnitForm m i h e = absurd e
part_before BoolForm m i h e = absurd e
part_before IntForm m i h e = absurd e
part_before TextForm m i h e = absurd e
part_before (NamedForm n) m i h e = absurd e

module _ (p : Types) where
  -- a part of a form is one of the form's type
  part_of_form : (form : TyForm) (i : ℕ) → IsPartOfForm form i → IsPart (types_meaning p).types 0 (type_of p i) (type_of_form (types_by_number p) form)
  part_of_form (AuthForm part) i e =
      subst (λ i. IsPart (types_meaning p).types 0 (type_of p i) (AuthTy (type_of p part.0))) e
      (in_auth (types_meaning p).types 0 (type_of p part.0) (type_of p part.0) (itself (types_meaning p).types 0 (type_of p part.0)))
  part_of_form (PairForm first second) i (inl e) =
      subst (λ i. IsPart (types_meaning p).types 0 (type_of p i) (PairTy (type_of p first.0) (type_of p second.0))) e
      (in_first (types_meaning p).types 0 (type_of p first.0) (type_of p first.0) (type_of p second.0) (itself (types_meaning p).types 0 (type_of p first.0)))
  part_of_form (PairForm first second) i (inr e) =
      subst (λ i. IsPart (types_meaning p).types 0 (type_of p i) (PairTy (type_of p first.0) (type_of p second.0))) e
      (in_second (types_meaning p).types 0 (type_of p second.0) (type_of p first.0) (type_of p second.0) (itself (types_meaning p).types 0 (type_of p second.0)))
  part_of_form (VecForm len part) i e =
      subst (λ i. IsPart (types_meaning p).types 0 (type_of p i) (VecTy len (type_of p part.0))) e
      (in_vec (types_meaning p).types 0 (type_of p part.0) len (type_of p part.0) (itself (types_meaning p).types 0 (type_of p part.0)))
  part_of_form UnitForm i e = absurd e
  part_of_form BoolForm i e = absurd e
  part_of_form IntForm i e = absurd e
  part_of_form TextForm i e = absurd e
  part_of_form (NamedForm n) i e = absurd e

  -- the direct parts of the type with this number are marked
  abbrev pub HasMarkedParts : List Bool → ℕ → Type 0
  HasMarkedParts marks i = (form : TyForm) × (type_of_form (types_by_number p) form ≡ type_of p i) × ((part : ℕ) → IsPartOfForm form part → IsMarked marks part)

  -- The marks, where those of the types from a number on have been spread: nothing is marked but parts of what was, and these types' parts are
  -- marked.
  abbrev pub IsSpreadFrom : ℕ → (old now : List Bool) → Type 0
  IsSpreadFrom n old now = (length now ≡ length old)
      × ((i : ℕ) → IsMarked old i → IsMarked now i)
      × ((i : ℕ) → IsMarked now i → (j : ℕ) × IsMarked old j × IsPart (types_meaning p).types 0 (type_of p i) (type_of p j))
      × ((i : ℕ) → n ≤ i → IsMarked now i → HasMarkedParts now i)

  -- nothing is spread yet
  pub spread_first : (n : ℕ) (marks : List Bool) → ((i : ℕ) → IsMarked marks i → i < n) → IsSpreadFrom n marks marks
  spread_first n marks below =
      (refl, λ i h. h, λ i h. (i, h, itself (types_meaning p).types 0 (type_of p i)), λ i from h. let small = below i h in absurd (omega (arith, small, from)))

  -- one that is marked has its direct parts marked
  pub spread_step : (n m : ℕ) (form : TyForm) (old now new : List Bool) → n ≡ m + 1 → IsMarked now m → type_of_form (types_by_number p) form ≡ type_of p m → stands_behind m form ≡ true
      → AddsMarks (IsPartOfForm form) now new → IsSpreadFrom n old now → IsSpreadFrom m old new
  spread_step n m form old now new is marked means behind step h = (step.0 ∙ h.0, λ i old. step.1 i (h.1 i old), sound, parts)
    where
      sound : (i : ℕ) → IsMarked new i → (j : ℕ) × IsMarked old j × IsPart (types_meaning p).types 0 (type_of p i) (type_of p j)
      sound i here = elim (step.2 i here) [ inl before ↦ h.2 i before | inr part ↦ of_part (h.2 m marked) part ]
        where
          of_part : ((j : ℕ) × IsMarked old j × IsPart (types_meaning p).types 0 (type_of p m) (type_of p j)) → IsPartOfForm form i
              → (j : ℕ) × IsMarked old j × IsPart (types_meaning p).types 0 (type_of p i) (type_of p j)
          of_part whole part =
              (whole.0, whole.1, part_of_part (types_meaning p).types 0 (type_of p i) (type_of p m) (type_of p whole.0) whole.2 (subst (IsPart (types_meaning p).types 0 (type_of p i)) means (part_of_form form i part)))

      later : (i : ℕ) → HasMarkedParts now i → HasMarkedParts new i
      later i has = (has.0, has.1, λ part is_part. step.1 part (has.2 part is_part))

      parts : (i : ℕ) → m ≤ i → IsMarked new i → HasMarkedParts new i
      parts i from here = by (nat_eq i m) refl
        where
          by : (b : Bool) → nat_eq i m ≡ b → HasMarkedParts new i
          by true e = (form, means ∙ ap (type_of p) (sym (eqb-true i m e)), λ part is_part. step.3 part is_part)
          by false e =
              elim (step.2 i here) [
                | inl before ↦ later i (h.3 i (omega (arith, is, from, eqb-false i m e)) before)
                | inr part ↦ let small = part_before form m i behind part in absurd (omega (arith, small, from))
              ]

  -- the parts of an `auth`, of a pair, and of an array, that are marked
  auth_form : (form : TyForm) (a : Ty) (marks : List Bool) → type_of_form (types_by_number p) form ≡ AuthTy a → ((part : ℕ) → IsPartOfForm form part → IsMarked marks part)
      → (x : ℕ) × IsMarked marks x × (type_of p x ≡ a)
  auth_form (AuthForm part) a marks is has = (part.0, has part.0 refl, cc)
  auth_form (PairForm first second) a marks is has = absurd (cc)
  auth_form (NamedForm n) a marks is has = absurd (cc)
  auth_form (VecForm len part) a marks is has = absurd (cc)
  auth_form UnitForm a marks is has = absurd (cc)
  auth_form BoolForm a marks is has = absurd (cc)
  auth_form IntForm a marks is has = absurd (cc)
  auth_form TextForm a marks is has = absurd (cc)

  pair_form : (form : TyForm) (a b : Ty) (marks : List Bool) → type_of_form (types_by_number p) form ≡ PairTy a b → ((part : ℕ) → IsPartOfForm form part → IsMarked marks part)
      → (x : ℕ) × (y : ℕ) × IsMarked marks x × IsMarked marks y × (type_of p x ≡ a) × (type_of p y ≡ b)
  pair_form (PairForm first second) a b marks is has = (first.0, second.0, has first.0 (inl refl), has second.0 (inr refl), cc, cc)
  pair_form (AuthForm part) a b marks is has = absurd (cc)
  pair_form (NamedForm n) a b marks is has = absurd (cc)
  pair_form (VecForm len part) a b marks is has = absurd (cc)
  pair_form UnitForm a b marks is has = absurd (cc)
  pair_form BoolForm a b marks is has = absurd (cc)
  pair_form IntForm a b marks is has = absurd (cc)
  pair_form TextForm a b marks is has = absurd (cc)

  vec_form : (form : TyForm) (n : ℕ) (a : Ty) (marks : List Bool) → type_of_form (types_by_number p) form ≡ VecTy n a → ((part : ℕ) → IsPartOfForm form part → IsMarked marks part)
      → (x : ℕ) × IsMarked marks x × (type_of p x ≡ a)
  vec_form (VecForm len part) n a marks is has = (part.0, has part.0 refl, cc)
  vec_form (AuthForm part) n a marks is has = absurd (cc)
  vec_form (PairForm first second) n a marks is has = absurd (cc)
  vec_form (NamedForm m) n a marks is has = absurd (cc)
  vec_form UnitForm n a marks is has = absurd (cc)
  vec_form BoolForm n a marks is has = absurd (cc)
  vec_form IntForm n a marks is has = absurd (cc)
  vec_form TextForm n a marks is has = absurd (cc)

  -- where the direct parts of all marked types are marked, all their parts are
  module _ (t : Ty) (marks : List Bool) (closed : (i : ℕ) → IsMarked marks i → HasMarkedParts marks i) where
    -- the type is marked
    abbrev Found : Type 0
    Found = (i : ℕ) × IsMarked marks i × (type_of p i ≡ t)

    reached : (u : Ty) (j : ℕ) → IsMarked marks j → type_of p j ≡ u → IsPart (types_meaning p).types 0 t u → Found
    reached (AuthTy a) j marked is h = elim (auth_cases (types_meaning p).types 0 t a h) [
      | inl same ↦ (j, marked, is ∙ sym same)
      | inr in_part ↦ let form = closed j marked in let part = auth_form form.0 a marks (form.1 ∙ is) form.2 in reached a part.0 part.1 part.2 in_part
    ]
    reached (VecTy n a) j marked is h = elim (vec_cases (types_meaning p).types 0 t n a h) [
      | inl same ↦ (j, marked, is ∙ sym same)
      | inr in_part ↦ let form = closed j marked in let part = vec_form form.0 n a marks (form.1 ∙ is) form.2 in reached a part.0 part.1 part.2 in_part
    ]
    reached (PairTy a b) j marked is h = elim (pair_cases (types_meaning p).types 0 t a b h) [
      | inl same ↦ (j, marked, is ∙ sym same)
      | inr (inl in_part) ↦ let form = closed j marked in let parts = pair_form form.0 a b marks (form.1 ∙ is) form.2 in reached a parts.0 parts.2 parts.4 in_part
      | inr (inr in_part) ↦ let form = closed j marked in let parts = pair_form form.0 a b marks (form.1 ∙ is) form.2 in reached b parts.1 parts.3 parts.5 in_part
    ]
    reached UnitTy j marked is h = (j, marked, is ∙ sym (same_sound t UnitTy h))
    reached BoolTy j marked is h = (j, marked, is ∙ sym (same_sound t BoolTy h))
    reached IntTy j marked is h = (j, marked, is ∙ sym (same_sound t IntTy h))
    reached TextTy j marked is h = (j, marked, is ∙ sym (same_sound t TextTy h))
    reached (NamedTy n) j marked is h = (j, marked, is ∙ sym (same_sound t (NamedTy n) h))

  pub is_spread : (n : ℕ) (old now : List Bool) → n ≡ 0 → IsSpreadFrom n old now → IsSpread p old now
  is_spread n old now is h =
      (h.0, h.1, h.2, λ j t marked part. reached t now (λ i here. h.3 i (omega (arith, is)) here) (type_of p j) j marked refl part)
