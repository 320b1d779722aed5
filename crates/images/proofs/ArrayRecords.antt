-- Arrays, by the records of their elements.
use Rattle.std.proofs.Common.{◌≡◌, ℕ, zero, suc, ◌+◌, ◌<◌, ◌≤◌, Bool, nat_le, true, false, arith, le-leb, leb-true, List, [], ◌∷◌, length, nat_lt, replicate, Option, Some, None, slice_get, Ok, refl, sym, ap, ◌∙◌, subst, take, drop, lt-ltb}
use Rattle.std.specs.List.{list_all}
use Rattle.std.specs.Option.{option_and_then, option_map}
use Rattle.core_terms.specs.Types.{Ty, VecTy, Table, is_length, item_types}
use Rattle.core_terms.specs.Values.{ItemsV, Values, NoV, AndV, depth, size}
use Rattle.core_terms.specs.ProgramTypes.{types_by_number, types_meaning}
use Rattle.core_terms.specs.ProgramTrees.{are_below, types_at}
use Rattle.core_terms.specs.TypeTables.{type_at}
use Rattle.core_terms.specs.declared.program_types.Types.{Types}
use Rattle.core_terms.specs.declared.types.TyId.{TyId}
use Rattle.core_terms.proofs.SameTypes.{second_of}
use Rattle.core_terms.proofs.TypingComplete.{both}
use Rattle.images.specs.PartMarks.{ArePartMarks}
use Rattle.images.specs.Images.{Entry, entry, Loading, FaultyImage, BadRecord, TooBig, TooDeep, array_from, checked_entry, fields_from, stands_for, within_limits}
use Rattle.images.specs.Parts.{is_part}
use Rattle.images.specs.Records.{VecRecord}
use Rattle.images.specs.Records as meant
use Rattle.value_store.specs.CodeNodes.{numbers_of}
use Rattle.value_store.specs.Markings.{Marking, kind_of}
use Rattle.value_store.specs.Nodes.{AreSound, Node, greatest_depth, total_size}
use Rattle.value_store.specs.Standing.{Kind, AllStandFor, StandsFor}
use Rattle.value_store.specs.declared.node.Ref.{Ref}
use Rattle.images.specs.StoredRecords.{AreStored, IsLoaded, IsStored, first_from, refs_from}
use Rattle.images.specs.declared.stored.StoredRecord.{StoredRecord}
use Rattle.images.proofs.ArrayLengths.{part_length}
use Rattle.images.proofs.Checked.{no_part, too_big, too_deep, loaded, limit_in}
use Rattle.images.proofs.FieldRefs.{FieldsStand, StandForFields, fields_stand}
use Rattle.images.proofs.Seen.{all_seen, items_seen}
use Rattle.images.proofs.StoredLists.{none_there, stored_there}
use Rattle.images.proofs.StoredNodes.{type_is, type_there}

length_numbers : (n : ℕ) (bytes : List ℕ) → length (meant.numbers_of n bytes) ≡ n
length_numbers zero bytes = refl
length_numbers (suc n) bytes = ap suc (length_numbers n (drop 4 bytes))

same_ids : (types : List Ty) (n : ℕ) (id : TyId) → types_at types (replicate n id) ≡ item_types n (type_at types id)
same_ids types zero id = refl
same_ids types (suc n) id = ap (λ ts. type_at types id ∷ ts) (same_ids types n id)

ids_below : (m n : ℕ) (id : TyId) → id.0 < m → are_below m (replicate n id) ≡ true
ids_below m zero id l = refl
ids_below m (suc n) id l = rw (lt-ltb id.0 m l) (ids_below m n id l)

length_ids : (n : ℕ) (id : TyId) → length (replicate n id) ≡ n
length_ids zero id = refl
length_ids (suc n) id = ap suc (length_ids n id)

-- the nodes found for a list of one type, so many times
pub for_types : (loaded : List StoredRecord) (bytes : List ℕ) (n : ℕ) (id : TyId) (ids : List TyId) → ids ≡ replicate n id → (o : Option (List Ref))
    → o ≡ refs_from loaded (meant.numbers_of (length ids) bytes) ids → o ≡ refs_from loaded (meant.numbers_of n bytes) (replicate n id)
for_types loaded bytes n id ids is o h =
    h ∙ ap (λ (ids : List TyId). refs_from loaded (meant.numbers_of (length ids) bytes) ids) is
    ∙ ap (λ (m : ℕ). refs_from loaded (meant.numbers_of m bytes) (replicate n id)) (length_ids n id)

-- as many nodes as elements
pub stand_count : (kind : Kind) (types : Table) (nodes : List Node) (n : ℕ) (t : Ty) (rs : List Ref) (vs : Values)
    → AllStandFor kind types nodes (numbers_of rs) (item_types n t) vs → length rs ≡ n
stand_count kind types nodes zero t [] NoV h = refl
stand_count kind types nodes (suc n) t (r ∷ rs) (AndV v vs) h = ap suc (stand_count kind types nodes n t rs vs h.1)
stand_count kind types nodes zero t [] (AndV v vs) h = elim h [ ]
stand_count kind types nodes zero t (r ∷ rs) vs h = elim h [ ]
stand_count kind types nodes (suc n) t [] vs h = elim h [ ]
stand_count kind types nodes (suc n) t (r ∷ rs) NoV h = elim h [ ]

-- no array of more than 64 is a part of the state
pub too_long : (p : Types) (marks : List Bool) → ArePartMarks p marks → (n : ℕ) (t : Ty) → 64 < n → is_part (types_meaning p).types (VecTy n t) (types_meaning p).state ≡ false
too_long p marks are n t long = by (is_part (types_meaning p).types (VecTy n t) (types_meaning p).state) refl
  where
    by : (b : Bool) → is_part (types_meaning p).types (VecTy n t) (types_meaning p).state ≡ b → b ≡ false
    by false e = refl
    by true e =
        let most = leb-true n 64 (second_of (nat_le 1 n) (nat_le n 64) (part_length p marks are (VecTy n t) e)) in
        absurd (omega (arith, most, long))

pub length_fits : (n : ℕ) → 1 ≤ n → n ≤ 64 → is_length n ≡ true
length_fits n some few = both (nat_le 1 n) (nat_le n 64) (le-leb 1 n some) (le-leb n 64 few)

module _ {limit : ℕ} (marking : Marking) (p : Types) (nodes : List Node) (sound : AreSound limit nodes) (records : List StoredRecord) (entries : List Entry)
    (stored : AreStored marking (types_meaning p) (types_by_number p) nodes records entries) (file_size number : ℕ) (n : ℕ) (bytes : List ℕ) where
  abbrev pub is : List ℕ
  is = meant.numbers_of n bytes

  -- what loading goes on with, behind an array
  abbrev pub at_array : (Entry → Loading) → Loading
  at_array go = checked_entry (types_meaning p) file_size number (stands_for (types_meaning p).types entries (VecRecord is)) go

  -- there is no first element
  no_first : (is : List ℕ) → None ≡ first_from records is → stands_for (types_meaning p).types entries (VecRecord is) ≡ None
  no_first [] h = refl
  no_first (i ∷ is) h =
      ap (λ o. option_and_then (λ (a : Entry). array_from entries (i ∷ is) a.of_type) o) (none_there marking (types_meaning p) (types_by_number p) nodes records entries stored i (sym h))

  pub none_first : None ≡ first_from records is → (go : Entry → Loading) → at_array go ≡ FaultyImage (BadRecord number)
  none_first h go = ap (λ o. checked_entry (types_meaning p) file_size number o go) (no_first is h)

  module _ (r : StoredRecord) (first : Some r ≡ first_from records is) where
    first_entry : (is : List ℕ) → Some r ≡ first_from records is
        → (e : Entry) × IsStored marking (types_meaning p) (types_by_number p) nodes r e × (stands_for (types_meaning p).types entries (VecRecord is) ≡ array_from entries is e.of_type)
    first_entry [] h = absurd (cc)
    first_entry (i ∷ is) h =
        let there = stored_there marking (types_meaning p) (types_by_number p) nodes records entries stored i r (sym h) in
        (there.0, there.2, ap (λ o. option_and_then (λ (a : Entry). array_from entries (i ∷ is) a.of_type) o) there.1)

    -- the type of the elements
    abbrev pub item : Ty
    item = type_at (types_by_number p) r.ty

    item_is : item ≡ (first_entry is first).0.of_type
    item_is = type_is marking (types_meaning p) (types_by_number p) nodes r (first_entry is first).0 (first_entry is first).1

    abbrev pub values : Option Values
    values = fields_from entries is (item_types n item)

    -- by the values of its elements
    by_values : (go : Entry → Loading) → at_array go ≡ checked_entry (types_meaning p) file_size number (option_map (λ vs. entry (VecTy n item) (ItemsV vs)) values) go
    by_values go =
        ap (λ o. checked_entry (types_meaning p) file_size number o go) ((first_entry is first).2 ∙ ap (array_from entries is) (sym item_is))
        ∙ ap (λ (m : ℕ). checked_entry (types_meaning p) file_size number (option_map (λ vs. entry (VecTy m item) (ItemsV vs)) (fields_from entries is (item_types m item))) go) (length_numbers n bytes)

    -- a type that is no part of the state's
    pub no_array : is_part (types_meaning p).types (VecTy n item) (types_meaning p).state ≡ false → (go : Entry → Loading) → at_array go ≡ FaultyImage (BadRecord number)
    no_array other go = by_values go ∙ by values
      where
        by : (o : Option Values) → checked_entry (types_meaning p) file_size number (option_map (λ vs. entry (VecTy n item) (ItemsV vs)) o) go ≡ FaultyImage (BadRecord number)
        by None = refl
        by (Some vs) = no_part p file_size number (VecTy n item) (ItemsV vs)
            (λ go. checked_entry (types_meaning p) file_size number (Some (entry (VecTy n item) (ItemsV vs))) go) (λ go. refl) other go

    pub first_below : nat_lt r.ty.0 (length (types_by_number p)) ≡ true
    first_below = lt-ltb r.ty.0 (length (types_by_number p)) (type_there marking (types_meaning p) (types_by_number p) nodes r (first_entry is first).0 (first_entry is first).1)

    below : are_below (length (types_by_number p)) (replicate n r.ty) ≡ true
    below = ids_below (length (types_by_number p)) n r.ty (type_there marking (types_meaning p) (types_by_number p) nodes r (first_entry is first).0 (first_entry is first).1)

    found_items : (found : Option (List Ref)) → found ≡ refs_from records is (replicate n r.ty) → FieldsStand marking p nodes (item_types n item) found values
    found_items found h =
        subst (λ ts. FieldsStand marking p nodes ts found (fields_from entries is ts)) (same_ids (types_by_number p) n r.ty)
        (subst (λ found. FieldsStand marking p nodes (types_at (types_by_number p) (replicate n r.ty)) found (fields_from entries is (types_at (types_by_number p) (replicate n r.ty)))) (sym h)
        (fields_stand marking p nodes sound records entries stored is (replicate n r.ty) below))

    -- an element is not found
    pub no_item : None ≡ refs_from records is (replicate n r.ty) → (go : Entry → Loading) → at_array go ≡ FaultyImage (BadRecord number)
    no_item h go =
        by_values go ∙ ap (λ o. checked_entry (types_meaning p) file_size number (option_map (λ vs. entry (VecTy n item) (ItemsV vs)) o) go) (found_items None h)

    module _ (refs : List Ref) (found : Some refs ≡ refs_from records is (replicate n r.ty)) where
      pub items : (vs : Values) × (values ≡ Some vs) × StandForFields marking p nodes (item_types n item) (numbers_of refs) vs
      items = found_items (Some refs) found

      pub items_there : list_all (λ r. nat_lt r (length nodes)) (numbers_of refs) ≡ true
      items_there = items.2.there

      pub items_stand : AllStandFor (kind_of marking (types_meaning p)) (types_meaning p).types nodes (numbers_of refs) (item_types n item) (all_seen marking (types_meaning p) (item_types n item) items.0)
      items_stand = items.2.stand

      array_there : (go : Entry → Loading) → at_array go ≡ within_limits (types_meaning p) file_size number (entry (VecTy n item) (ItemsV items.0)) (go (entry (VecTy n item) (ItemsV items.0)))
      array_there go =
          by_values go ∙ ap (λ o. checked_entry (types_meaning p) file_size number (option_map (λ vs. entry (VecTy n item) (ItemsV vs)) o) go) items.1

      array_depth : 1 + greatest_depth nodes (numbers_of refs) ≡ depth (types_meaning p).types (VecTy n item) (ItemsV items.0)
      array_depth = ap (λ n. 1 + n) items.2.depth

      module _ (part : is_part (types_meaning p).types (VecTy n item) (types_meaning p).state ≡ true) where
        pub array_big : limit_in p < total_size nodes (numbers_of refs) → (go : Entry → Loading) → at_array go ≡ FaultyImage (TooBig number)
        array_big big = too_big p file_size number (VecTy n item) (ItemsV items.0) at_array array_there part (subst (λ (n : ℕ). limit_in p < n) items.2.size big)

        module _ (small : total_size nodes (numbers_of refs) ≤ limit_in p) where
          pub array_deep : 512 < 1 + greatest_depth nodes (numbers_of refs) → (go : Entry → Loading) → at_array go ≡ FaultyImage (TooDeep number)
          array_deep deep =
              too_deep p file_size number (VecTy n item) (ItemsV items.0) at_array array_there part
              (subst (λ (n : ℕ). n ≤ limit_in p) items.2.size small) (subst (λ (n : ℕ). 512 < n) array_depth deep)

          pub array_loaded : 1 + greatest_depth nodes (numbers_of refs) ≤ 512 → (new : List Node) (made : StoredRecord)
              → slice_get (types_by_number p) made.ty.0 ≡ Some (VecTy n item)
              → ((vs : Values) → AllStandFor (kind_of marking (types_meaning p)) (types_meaning p).types nodes (numbers_of refs) (item_types n item) vs
              → StandsFor (kind_of marking (types_meaning p)) (types_meaning p).types new made.value.0 (VecTy n item) (ItemsV vs))
              → IsLoaded marking (types_meaning p) (types_by_number p) new at_array (Ok made)
          array_loaded shallow new made of_type stands =
              loaded p file_size number (VecTy n item) (ItemsV items.0) at_array array_there part
              (subst (λ (n : ℕ). n ≤ limit_in p) items.2.size small) (subst (λ (n : ℕ). n ≤ 512) array_depth shallow) marking new made
              (ItemsV (all_seen marking (types_meaning p) (item_types n item) items.0)) of_type (items_seen marking (types_meaning p) n item items.0)
              (stands (all_seen marking (types_meaning p) (item_types n item) items.0) items.2.stand)
