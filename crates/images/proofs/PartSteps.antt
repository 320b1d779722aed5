-- From the marks of one level to those of the next, and to those of the last.
use Rattle.std.proofs.Common.{◌≡◌, inl, inr, ℕ, zero, suc, ◌+◌, ◌-◌, ◌<◌, ◌≤◌, Bool, true, false, List, length, slice_index_or, refl, sym, ap, ◌∙◌, subst, arith}
use Rattle.std.specs.Cmp.Lexicographic.{pointwise}
use Rattle.std.specs.Cmp.{booleans_Decides}
use Rattle.std.proofs.Math.Bool.{beq}
use Rattle.std.proofs.lemmas.Slice.Eq.{slice_eq-Decides}
use Rattle.std.proofs.lemmas.List.{length-map}
use Rattle.core_terms.specs.Types.{Ty, UnitTy, BoolTy, IntTy, TextTy, PairTy, NamedTy, AuthTy, VecTy}
use Rattle.core_terms.specs.ProgramTypes.{types_by_number, types_meaning}
use Rattle.core_terms.specs.declared.program_types.Types.{Types}
use Rattle.images.specs.Parts.{is_part}
use Rattle.images.specs.PartMarks.{AddsMarks, AreLevelMarks, ArePartMarks, IsMarked, IsOfField, IsOpened, IsSpread, constructors_in, type_of}
use Rattle.images.proofs.PartFields.{field_number, numbered_field}
use Rattle.images.proofs.PartLevels.{IsField, IsPart, IsBehind, one_later, part_of_part, part_of_field, before_or_behind}
use Rattle.images.proofs.PartMarking.{marked_within}

module _ (p : Types) where
  -- the first level is spread from the state's type
  pub first_level : (state : ℕ) (old new : List Bool) → type_of p state ≡ (types_meaning p).state → length old ≡ length (types_by_number p) → IsMarked old state
      → ((i : ℕ) → IsMarked old i → i ≡ state)
      → IsSpread p old new → AreLevelMarks p 0 new
  first_level state old new is same marked only spread = (spread.0 ∙ same, sound, complete)
    where
      sound : (i : ℕ) → IsMarked new i → IsPart (types_meaning p).types 0 (type_of p i) (types_meaning p).state
      sound i h =
          let from = spread.2 i h in
          subst (IsPart (types_meaning p).types 0 (type_of p i)) (ap (type_of p) (only from.0 from.1) ∙ is) from.2

      complete : (t : Ty) → IsPart (types_meaning p).types 0 t (types_meaning p).state → (i : ℕ) × IsMarked new i × (type_of p i ≡ t)
      complete t h = spread.3 state t (spread.1 state marked) (subst (IsPart (types_meaning p).types 0 t) (sym is) h)

  -- a type with no constructors has no fields
  named_only : (t : Ty) (i : ℕ) → IsOfField (constructors_in p t) (length (constructors_in p t)) i → (n : ℕ) × (t ≡ NamedTy n)
  named_only (NamedTy n) i h = (n, refl)
  named_only UnitTy i h = absurd (cc)
  named_only BoolTy i h = absurd (cc)
  named_only IntTy i h = absurd (cc)
  named_only TextTy i h = absurd (cc)
  named_only (PairTy a b) i h = absurd (cc)
  named_only (AuthTy a) i h = absurd (cc)
  named_only (VecTy n a) i h = absurd (cc)

  module _ (level : ℕ) (old : List Bool) (now : AreLevelMarks p level old) where
    -- a field of a type that is marked is found on the next level
    of_opened : (i : ℕ) (s : Ty) → IsOpened p old (length old) i → IsPart (types_meaning p).types 0 s (type_of p i) → IsPart (types_meaning p).types (suc level) s (types_meaning p).state
    of_opened i s opened part =
        let named = named_only (type_of p opened.0) i opened.3 in
        part_of_field (types_meaning p).types level s (type_of p i) named.0 (types_meaning p).state
        (subst (λ t. IsPart (types_meaning p).types level t (types_meaning p).state) named.1 (now.1 opened.0 opened.2))
        (numbered_field p i named.0 (subst (λ t. IsOfField (constructors_in p t) (length (constructors_in p t)) i) named.1 opened.3)) part

    -- and a field of a named type that is found is opened
    is_opened : (n : ℕ) (f : Ty) → IsPart (types_meaning p).types level (NamedTy n) (types_meaning p).state → IsField (types_meaning p).types f n
        → (i : ℕ) × IsOpened p old (length old) i × (type_of p i ≡ f)
    is_opened n f found field =
        let whole = now.2 (NamedTy n) found in
        let number = field_number p f n field in (
          number.0,
          (
            whole.0,
            marked_within old whole.0 whole.1,
            whole.1,
            subst (λ t. IsOfField (constructors_in p t) (length (constructors_in p t)) number.0) (sym whole.2) number.1,
          ),
          number.2,
        )

    pub next_level : (opened new : List Bool) → AddsMarks (IsOpened p old (length old)) old opened → IsSpread p opened new → AreLevelMarks p (level + 1) new
    next_level opened new opens spread =
        let one : suc level ≡ level + 1 = omega arith in
        subst (λ k. AreLevelMarks p k new) one (spread.0 ∙ opens.0 ∙ now.0, sound, complete)
      where
        sound : (i : ℕ) → IsMarked new i → IsPart (types_meaning p).types (suc level) (type_of p i) (types_meaning p).state
        sound i h = of (spread.2 i h)
          where
            of : ((j : ℕ) × IsMarked opened j × IsPart (types_meaning p).types 0 (type_of p i) (type_of p j)) → IsPart (types_meaning p).types (suc level) (type_of p i) (types_meaning p).state
            of from =
                elim (opens.2 from.0 from.1) [
                  | inl before ↦ one_later (types_meaning p).types level (type_of p i) (types_meaning p).state
                      (part_of_part (types_meaning p).types level (type_of p i) (type_of p from.0) (types_meaning p).state (now.1 from.0 before) from.2)
                  | inr field ↦ of_opened from.0 (type_of p i) field from.2
                ]

        complete : (t : Ty) → IsPart (types_meaning p).types (suc level) t (types_meaning p).state → (i : ℕ) × IsMarked new i × (type_of p i ≡ t)
        complete t h =
            elim (before_or_behind (types_meaning p).types level t (types_meaning p).state h) [
              | inl before ↦
                  let found = now.2 t before in (found.0, spread.1 found.0 (opens.1 found.0 found.1), found.2)
              | inr behind ↦ of behind
            ]
          where
            of : IsBehind (types_meaning p).types level t (types_meaning p).state → (i : ℕ) × IsMarked new i × (type_of p i ≡ t)
            of behind =
                let field = is_opened behind.0 behind.1 behind.3 behind.2 in
                spread.3 field.0 t (spread.1 field.0 (opens.3 field.0 field.1)) (subst (IsPart (types_meaning p).types 0 t) (sym field.2) behind.4)

    -- where the next level has the same marks, no later one finds more
    module _ (after : AreLevelMarks p (level + 1) old) where
      one_more : AreLevelMarks p (suc level) old
      one_more = let one : level + 1 ≡ suc level = omega arith in subst (λ k. AreLevelMarks p k old) one after

      not_later : (more : ℕ) (t : Ty) → IsPart (types_meaning p).types (more + level) t (types_meaning p).state → IsPart (types_meaning p).types level t (types_meaning p).state
      not_later zero t h = subst (λ k. IsPart (types_meaning p).types k t (types_meaning p).state) (let e : 0 + level ≡ level = omega arith in e) h
      not_later (suc more) t h =
          elim (before_or_behind (types_meaning p).types (more + level) t (types_meaning p).state (subst (λ k. IsPart (types_meaning p).types k t (types_meaning p).state) (let e : suc more + level ≡ suc (more + level) = omega arith in e) h)) [
            | inl before ↦ not_later more t before
            | inr behind ↦
                let found = one_more.2 t (part_of_field (types_meaning p).types level t behind.1 behind.0 (types_meaning p).state (not_later more (NamedTy behind.0) behind.3) behind.2 behind.4) in
                subst (λ t. IsPart (types_meaning p).types level t (types_meaning p).state) found.2 (now.1 found.0 found.1)
          ]

      from_level : (more : ℕ) (t : Ty) → IsPart (types_meaning p).types level t (types_meaning p).state → IsPart (types_meaning p).types (more + level) t (types_meaning p).state
      from_level zero t h = subst (λ k. IsPart (types_meaning p).types k t (types_meaning p).state) (let e : level ≡ 0 + level = omega arith in e) h
      from_level (suc more) t h =
          subst (λ k. IsPart (types_meaning p).types k t (types_meaning p).state) (let e : suc (more + level) ≡ suc more + level = omega arith in e)
          (one_later (types_meaning p).types (more + level) t (types_meaning p).state (from_level more t h))

      pub last_level : (last : ℕ) → level ≤ last → AreLevelMarks p last old
      last_level last h =
          let e : (last - level) + level ≡ last = omega (arith, h) in
          subst (λ k. AreLevelMarks p k old) e (now.0, λ i m. from_level (last - level) (type_of p i) (now.1 i m), λ t part. now.2 t (not_later (last - level) t part))

  -- the level behind all named types has the marks of the program
  pub are_part_marks : (marks : List Bool) → AreLevelMarks p (length p.named.items) marks → ArePartMarks p marks
  are_part_marks marks h = (at_last.0, tells, λ t part. let found = at_last.2 t part in (found.0, in_table found.0 found.1, found.2))
    where
      at_last : AreLevelMarks p (length (types_meaning p).types) marks
      at_last = subst (λ k. AreLevelMarks p k marks) (sym (length-map p.named.items _)) h

      in_table : (i : ℕ) → IsMarked marks i → i < length (types_by_number p)
      in_table i m = let within = marked_within marks i m in omega (arith, within, at_last.0)

      tells : (i : ℕ) → i < length (types_by_number p) → slice_index_or marks i false ≡ is_part (types_meaning p).types (type_of p i) (types_meaning p).state
      tells i within = by (slice_index_or marks i false) (is_part (types_meaning p).types (type_of p i) (types_meaning p).state) refl refl
        where
          by : (b c : Bool) → slice_index_or marks i false ≡ b → is_part (types_meaning p).types (type_of p i) (types_meaning p).state ≡ c
              → slice_index_or marks i false ≡ is_part (types_meaning p).types (type_of p i) (types_meaning p).state
          by true c e f = e ∙ sym (at_last.1 i e)
          by false false e f = e ∙ sym f
          by false true e f =
              let found = at_last.2 (type_of p i) f in
              let one : found.0 ≡ i = p.table.one_number found.0 i (in_table found.0 found.1) within found.2 in
              let marked : slice_index_or marks i false ≡ true = subst (IsMarked marks) one found.1 in
              absurd (cc)

-- two lists of marks that are tested equal are
pub same_marks : (xs ys : List Bool) → true ≡ pointwise beq xs ys → xs ≡ ys
same_marks xs ys e = (slice_eq-Decides booleans_Decides xs ys true e).0 refl
