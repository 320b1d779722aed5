-- The fields of a constructor value: the nodes that are found for them stand for the values that they have.
use Rattle.std.proofs.Common.{◌≡◌, ℕ, ◌+◌, max, Bool, true, false, List, [], ◌∷◌, length, nat_eq, nat_lt, Option, Some, None, slice_get, refl, sym, ap, ap₂, ◌∙◌, subst, if◌then◌else◌, ltb-true, lt-ltb}
use Rattle.std.proofs.lemmas.Option.{slice_get-get_or}
use Rattle.std.specs.List.{list_all}
use Rattle.std.specs.Option.{option_and_then, option_map}
use Rattle.core_terms.specs.Types.{Ty, UnitTy, same_type}
use Rattle.core_terms.specs.ProgramTypes.{types_by_number, types_meaning}
use Rattle.core_terms.specs.ProgramTrees.{are_below, types_at}
use Rattle.core_terms.specs.TypeTables.{type_at}
use Rattle.core_terms.specs.Values.{Values, NoV, AndV, sizes, depths}
use Rattle.core_terms.specs.declared.types.TyId.{TyId}
use Rattle.core_terms.specs.declared.program_types.Types.{Types}
use Rattle.core_terms.proofs.TypingComplete.{both}
use Rattle.core_terms.proofs.SameTypes.{first_of, second_of, same_sound}
use Rattle.images.specs.Images.{Entry, fields_from}
use Rattle.value_store.specs.CodeNodes.{numbers_of}
use Rattle.value_store.specs.Markings.{Marking, kind_of}
use Rattle.value_store.specs.Nodes.{AreSound, Node, greatest_depth, total_size}
use Rattle.value_store.specs.Standing.{AllStandFor}
use Rattle.value_store.specs.declared.node.Ref.{Ref}
use Rattle.images.specs.StoredRecords.{AreStored, IsStored, refs_from}
use Rattle.images.specs.declared.stored.StoredRecord.{StoredRecord}
use Rattle.images.proofs.TypeNumbers.{same_types}
use Rattle.images.proofs.Seen.{all_seen, fields_seen, no_fields_seen}
use Rattle.images.proofs.StoredNodes.{node_there, size_is, depth_is}
use Rattle.images.proofs.StoredLists.{none_there, stored_there}

module _ (marking : Marking) (p : Types) (nodes : List Node) where
  -- the nodes stand for these values of these types, as they are seen, and keep their sizes and depths
  pub record StandForFields (ts : List Ty) (refs : List ℕ) (vs : Values) : Type 0 where
    pub stand : AllStandFor (kind_of marking (types_meaning p)) (types_meaning p).types nodes refs ts (all_seen marking (types_meaning p) ts vs)
    pub there : list_all (λ r. nat_lt r (length nodes)) refs ≡ true
    pub size : total_size nodes refs ≡ sizes (types_meaning p).types ts vs
    pub depth : greatest_depth nodes refs ≡ depths (types_meaning p).types ts vs

  -- the nodes are those of the values, or there are neither
  abbrev pub FieldsStand : List Ty → Option (List Ref) → Option Values → Type 0
  FieldsStand ts (Some refs) values = (vs : Values) × (values ≡ Some vs) × StandForFields ts (numbers_of refs) vs
  FieldsStand ts None values = values ≡ None

  module _ {limit : ℕ} (sound : AreSound limit nodes) where
    one_more : (t : Ty) (ts : List Ty) (r : StoredRecord) (e : Entry) → IsStored marking (types_meaning p) (types_by_number p) nodes r e → e.of_type ≡ t
        → (refs : List ℕ) (vs : Values) → StandForFields ts refs vs → StandForFields (t ∷ ts) (r.value.0 ∷ refs) (AndV e.value vs)
    one_more t ts r e is same refs vs h =
        subst (λ t. StandForFields (t ∷ ts) (r.value.0 ∷ refs) (AndV e.value vs)) same
        (record {
          stand =
              subst (λ w. AllStandFor (kind_of marking (types_meaning p)) (types_meaning p).types nodes (r.value.0 ∷ refs) (e.of_type ∷ ts) w)
              (sym (fields_seen marking (types_meaning p) e.of_type ts e.value vs)) (is.stands, h.stand);
          there = both (nat_lt r.value.0 (length nodes)) _ (lt-ltb r.value.0 (length nodes) (node_there marking (types_meaning p) (types_by_number p) nodes r e is)) h.there;
          size = ap₂ (λ m n. m + n) (size_is marking (types_meaning p) (types_by_number p) nodes r e is sound) h.size;
          depth = ap₂ (λ m n. max m n) (depth_is marking (types_meaning p) (types_by_number p) nodes r e is sound) h.depth;
        })

    -- one field more, where its record is of the type that is asked for
    one_field : (t : Ty) (ts : List Ty) (r : StoredRecord) (e : Entry) → IsStored marking (types_meaning p) (types_by_number p) nodes r e
        → (same : Bool) → (same ≡ true → e.of_type ≡ t) → (refs : Option (List Ref)) (values : Option Values) → FieldsStand ts refs values
        → FieldsStand (t ∷ ts) (if same then option_map (λ refs. r.value ∷ refs) refs else None) (if same then option_map (λ vs. AndV e.value vs) values else None)
    one_field t ts r e is false same refs values h = refl
    one_field t ts r e is true same None values h = ap (option_map (λ vs. AndV e.value vs)) h
    one_field t ts r e is true same (Some refs) values h =
        (AndV e.value h.0, ap (option_map (λ vs. AndV e.value vs)) h.1, one_more t ts r e is (same refl) (numbers_of refs) h.0 h.2)

    module _ (loaded : List StoredRecord) (entries : List Entry) (stored : AreStored marking (types_meaning p) (types_by_number p) nodes loaded entries) where
      -- a field's record: there is none, or one that is of the type or not
      found_field : (i : ℕ) (is : List ℕ) (id : TyId) (ids : List TyId) → nat_lt id.0 (length (types_by_number p)) ≡ true
          → FieldsStand (types_at (types_by_number p) ids) (refs_from loaded is ids) (fields_from entries is (types_at (types_by_number p) ids))
          → (o : Option StoredRecord) → slice_get loaded i ≡ o
          → FieldsStand (types_at (types_by_number p) (id ∷ ids))
          (option_and_then (λ (r : StoredRecord). if nat_eq r.ty.0 id.0 then option_map (λ refs. r.value ∷ refs) (refs_from loaded is ids) else None) o)
          (fields_from entries (i ∷ is) (types_at (types_by_number p) (id ∷ ids)))
      found_field i is id ids below rest None at =
          ap (option_and_then (λ e. if same_type e.of_type (type_at (types_by_number p) id) then option_map (λ vs. AndV e.value vs)
          (fields_from entries is (types_at (types_by_number p) ids)) else None))
          (none_there marking (types_meaning p) (types_by_number p) nodes loaded entries stored i at)
      found_field i is id ids below rest (Some r) at =
          let there = stored_there marking (types_meaning p) (types_by_number p) nodes loaded entries stored i r at in
          let same : same_type there.0.of_type (type_at (types_by_number p) id) ≡ nat_eq r.ty.0 id.0 =
          same_types p r.ty.0 id.0 there.0.of_type (type_at (types_by_number p) id) there.2.of_type (slice_get-get_or (types_by_number p) id.0 UnitTy (ltb-true _ _ below)) in
          let found : fields_from entries (i ∷ is) (types_at (types_by_number p) (id ∷ ids))
          ≡ (if nat_eq r.ty.0 id.0 then option_map (λ vs. AndV there.0.value vs) (fields_from entries is (types_at (types_by_number p) ids)) else None) =
          ap (option_and_then (λ e. if same_type e.of_type (type_at (types_by_number p) id) then option_map (λ vs. AndV e.value vs)
          (fields_from entries is (types_at (types_by_number p) ids)) else None)) there.1
          ∙ ap (λ b. if b then option_map (λ vs. AndV there.0.value vs) (fields_from entries is (types_at (types_by_number p) ids)) else None) same in
          subst (λ values. FieldsStand (types_at (types_by_number p) (id ∷ ids)) (if nat_eq r.ty.0 id.0 then option_map (λ refs. r.value ∷ refs) (refs_from loaded is ids) else None) values)
          (sym found)
          (one_field (type_at (types_by_number p) id) (types_at (types_by_number p) ids) r there.0 there.2 (nat_eq r.ty.0 id.0)
          (λ e. same_sound there.0.of_type (type_at (types_by_number p) id) (same ∙ e)) (refs_from loaded is ids) (fields_from entries is (types_at (types_by_number p) ids)) rest)

      pub fields_stand : (is : List ℕ) (ids : List TyId) → are_below (length (types_by_number p)) ids ≡ true
          → FieldsStand (types_at (types_by_number p) ids) (refs_from loaded is ids) (fields_from entries is (types_at (types_by_number p) ids))
      fields_stand [] [] below = (
        NoV,
        refl,
        record {
          stand = subst (λ w. AllStandFor (kind_of marking (types_meaning p)) (types_meaning p).types nodes [] [] w) (sym (no_fields_seen marking (types_meaning p))) tt;
          there = refl;
          size = refl;
          depth = refl;
        },
      )
      fields_stand [] (id ∷ ids) below = refl
      fields_stand (i ∷ is) [] below = refl
      fields_stand (i ∷ is) (id ∷ ids) below =
          found_field i is id ids (first_of _ _ below) (fields_stand is ids (second_of (nat_lt id.0 (length (types_by_number p))) _ below)) (slice_get loaded i) refl
