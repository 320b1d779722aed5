-- The fields of a named type of a program, by the numbers of their types.
use Rattle.std.proofs.Common.{◌≡◌, ℕ, List, [], length, map, unwrap_or, Option, Some, None, option_map, slice_get, refl, sym, ap, ◌∙◌}
use Rattle.std.proofs.lemmas.Option.{slice_get-map, slice_get_within}
use Rattle.core_terms.specs.Types.{Ty, NamedTy}
use Rattle.core_terms.specs.ProgramTypes.{types_by_number, types_meaning}
use Rattle.core_terms.specs.ProgramTrees.{types_at}
use Rattle.core_terms.specs.TypeTables.{type_at}
use Rattle.core_terms.specs.declared.term.Constructor.{Constructor}
use Rattle.core_terms.specs.declared.term.NamedType.{NamedType}
use Rattle.core_terms.specs.declared.program_types.Types.{Types}
use Rattle.images.specs.PartMarks.{IsOfField, constructors_in, type_of}
use Rattle.images.proofs.PartLevels.{IsField}

-- what stands behind a map stands before it
unmapped : {A B : Type 0} (f : A → B) (o : Option A) (y : B) → option_map f o ≡ Some y → (x : A) × (o ≡ Some x) × (f x ≡ y)
unmapped f (Some x) y e = (x, refl, cc)
unmapped f None y e = absurd (cc)

module _ (p : Types) where
  -- the types of a constructor's fields
  abbrev field_types : Constructor → List Ty
  field_types c = types_at (types_by_number p) c.fields.items

  -- the named type with a number has the constructors that the program has
  constructors_are : (n : ℕ) → unwrap_or (slice_get (types_meaning p).types n) [] ≡ map field_types (constructors_in p (NamedTy n))
  constructors_are n = ap (λ o. unwrap_or o []) (slice_get-map (λ (d : NamedType). map field_types d.constructors.items) p.named.items n) ∙ by (slice_get p.named.items n)
    where
      by : (o : Option NamedType)
          → unwrap_or (option_map (λ (d : NamedType). map field_types d.constructors.items) o) [] ≡ map field_types (unwrap_or (option_map (λ (d : NamedType). d.constructors.items) o) [])
      by (Some d) = refl
      by None = refl

  -- a field's type has a number, and is that of a field by it
  pub field_number : (f : Ty) (n : ℕ) → IsField (types_meaning p).types f n
      → (i : ℕ) × IsOfField (constructors_in p (NamedTy n)) (length (constructors_in p (NamedTy n))) i × (type_of p i ≡ f)
  field_number f n field =
      let constructor = unmapped field_types (slice_get (constructors_in p (NamedTy n)) field.0) field.1
      (sym (slice_get-map field_types (constructors_in p (NamedTy n)) field.0) ∙ ap (λ cs. slice_get cs field.0) (sym (constructors_are n)) ∙ field.2) in
      let id = unmapped (type_at (types_by_number p)) (slice_get constructor.0.fields.items field.3) f
      (sym (slice_get-map (type_at (types_by_number p)) constructor.0.fields.items field.3) ∙ ap (λ ts. slice_get ts field.3) constructor.2 ∙ field.4) in (
        id.0.0,
        (
          field.0,
          constructor.0,
          slice_get_within (constructors_in p (NamedTy n)) field.0 constructor.0 constructor.1,
          constructor.1,
          (field.3, id.0, slice_get_within constructor.0.fields.items field.3 id.0 id.1, id.1, refl),
        ),
        id.2,
      )

  pub numbered_field : (i n : ℕ) → IsOfField (constructors_in p (NamedTy n)) (length (constructors_in p (NamedTy n))) i → IsField (types_meaning p).types (type_of p i) n
  numbered_field i n of_field =
      let c = of_field.1 in
      let among = of_field.4 in (
        of_field.0,
        field_types c,
        ap (λ cs. slice_get cs of_field.0) (constructors_are n) ∙ slice_get-map field_types (constructors_in p (NamedTy n)) of_field.0 ∙ ap (option_map field_types) of_field.3,
        among.0,
        slice_get-map (type_at (types_by_number p)) c.fields.items among.0 ∙ ap (option_map (type_at (types_by_number p))) among.3 ∙ ap (λ i. Some (type_of p i)) among.4,
      )
