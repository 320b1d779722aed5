-- Pairs and authenticated values, by the records of their parts.
use Rattle.std.proofs.Common.{◌≡◌, ℕ, ◌+◌, ◌<◌, ◌≤◌, max, List, true, false, Option, Some, None, slice_get, Ok, refl, sym, ap, ap₂, ◌∙◌, subst, lit≤}
use Rattle.std.specs.Option.{option_and_then, option_map}
use Rattle.core_terms.specs.Types.{AuthTy, PairTy}
use Rattle.core_terms.specs.TypeTables.{type_at}
use Rattle.core_terms.specs.Values.{PairV, size, depth}
use Rattle.core_terms.specs.ProgramTypes.{types_by_number, types_meaning}
use Rattle.core_terms.specs.declared.program_types.Types.{Types}
use Rattle.images.specs.Images.{Entry, entry, Loading, FaultyImage, BadRecord, TooBig, TooDeep, checked_entry, pair_from, stands_for, within_limits}
use Rattle.images.specs.Parts.{is_part}
use Rattle.images.specs.Records.{AuthRecord, PairRecord}
use Rattle.value_store.specs.Markings.{Marking, authenticated, kind_of, seen_as}
use Rattle.value_store.specs.Nodes.{AreSound, Node, depth_at, size_at}
use Rattle.value_store.specs.Standing.{StandsFor}
use Rattle.images.specs.StoredRecords.{AreStored, IsLoaded, IsStored}
use Rattle.images.specs.declared.stored.StoredRecord.{StoredRecord}
use Rattle.images.proofs.Checked.{no_part, too_big, too_deep, loaded, limit_in, small_fits}
use Rattle.images.proofs.Seen.{authenticated_seen, pair_seen}
use Rattle.images.proofs.StoredLists.{none_there, stored_there}
use Rattle.images.proofs.StoredNodes.{depth_is, size_is, type_is}

module _ (marking : Marking) (p : Types) (nodes : List Node) (records : List StoredRecord) (entries : List Entry)
    (stored : AreStored marking (types_meaning p) (types_by_number p) nodes records entries) (file_size number : ℕ) where
  -- what loading goes on with, behind a pair or an authenticated value
  abbrev pub at_pair : (first second : ℕ) → (Entry → Loading) → Loading
  at_pair first second go = checked_entry (types_meaning p) file_size number (stands_for (types_meaning p).types entries (PairRecord first second)) go

  abbrev pub at_auth : (inner : ℕ) → (Entry → Loading) → Loading
  at_auth inner go = checked_entry (types_meaning p) file_size number (stands_for (types_meaning p).types entries (AuthRecord inner)) go

  pub no_first : (first second : ℕ) → None ≡ slice_get records first → (go : Entry → Loading) → at_pair first second go ≡ FaultyImage (BadRecord number)
  no_first first second none go =
      ap (λ o. checked_entry (types_meaning p) file_size number (option_and_then (λ a. option_map (λ b. pair_from a b) (slice_get entries second)) o) go)
      (none_there marking (types_meaning p) (types_by_number p) nodes records entries stored first (sym none))

  pub no_second : (first second : ℕ) → None ≡ slice_get records second → (go : Entry → Loading) → at_pair first second go ≡ FaultyImage (BadRecord number)
  no_second first second none go =
      ap (λ o. checked_entry (types_meaning p) file_size number (option_and_then (λ a. option_map (λ b. pair_from a b) o) (slice_get entries first)) go)
      (none_there marking (types_meaning p) (types_by_number p) nodes records entries stored second (sym none)) ∙ by (slice_get entries first)
    where
      by : (o : Option Entry) → checked_entry (types_meaning p) file_size number (option_and_then (λ a. option_map (λ b. pair_from a b) None) o) go ≡ FaultyImage (BadRecord number)
      by None = refl
      by (Some a) = refl

  pub no_inner : (inner : ℕ) → None ≡ slice_get records inner → (go : Entry → Loading) → at_auth inner go ≡ FaultyImage (BadRecord number)
  no_inner inner none go =
      ap (λ o. checked_entry (types_meaning p) file_size number (option_map (λ a. entry (AuthTy a.of_type) a.value) o) go)
      (none_there marking (types_meaning p) (types_by_number p) nodes records entries stored inner (sym none))

  -- the entry of a record that is there
  entry_of : (n : ℕ) (r : StoredRecord) → Some r ≡ slice_get records n → (e : Entry) × (slice_get entries n ≡ Some e) × IsStored marking (types_meaning p) (types_by_number p) nodes r e
  entry_of n r at = stored_there marking (types_meaning p) (types_by_number p) nodes records entries stored n r (sym at)

  module _ (first second : ℕ) (a b : StoredRecord) (at_first : Some a ≡ slice_get records first) (at_second : Some b ≡ slice_get records second) where
    pub first_entry : (e : Entry) × (slice_get entries first ≡ Some e) × IsStored marking (types_meaning p) (types_by_number p) nodes a e
    first_entry = entry_of first a at_first

    pub second_entry : (e : Entry) × (slice_get entries second ≡ Some e) × IsStored marking (types_meaning p) (types_by_number p) nodes b e
    second_entry = entry_of second b at_second

    pair_there : (go : Entry → Loading)
        → at_pair first second go ≡ within_limits (types_meaning p) file_size number (pair_from first_entry.0 second_entry.0) (go (pair_from first_entry.0 second_entry.0))
    pair_there go =
        ap (λ o. checked_entry (types_meaning p) file_size number (option_and_then (λ a. option_map (λ b. pair_from a b) (slice_get entries second)) o) go) first_entry.1
        ∙ ap (λ o. checked_entry (types_meaning p) file_size number (option_map (λ b. pair_from first_entry.0 b) o) go) second_entry.1

    pair_type : PairTy (type_at (types_by_number p) a.ty) (type_at (types_by_number p) b.ty) ≡ PairTy first_entry.0.of_type second_entry.0.of_type
    pair_type = ap₂ PairTy (type_is marking (types_meaning p) (types_by_number p) nodes a first_entry.0 first_entry.2)
        (type_is marking (types_meaning p) (types_by_number p) nodes b second_entry.0 second_entry.2)

    pub pair_none : is_part (types_meaning p).types (PairTy (type_at (types_by_number p) a.ty) (type_at (types_by_number p) b.ty)) (types_meaning p).state ≡ false
        → (go : Entry → Loading) → at_pair first second go ≡ FaultyImage (BadRecord number)
    pair_none none =
        no_part p file_size number (PairTy first_entry.0.of_type second_entry.0.of_type) (PairV first_entry.0.value second_entry.0.value) (at_pair first second) pair_there
        (ap (λ t. is_part (types_meaning p).types t (types_meaning p).state) (sym pair_type) ∙ none)

    module _ (part : is_part (types_meaning p).types (PairTy (type_at (types_by_number p) a.ty) (type_at (types_by_number p) b.ty)) (types_meaning p).state ≡ true) {limit : ℕ} (sound : AreSound limit nodes) where
      pair_part : is_part (types_meaning p).types (PairTy first_entry.0.of_type second_entry.0.of_type) (types_meaning p).state ≡ true
      pair_part = ap (λ t. is_part (types_meaning p).types t (types_meaning p).state) (sym pair_type) ∙ part

      pair_size : size_at nodes a.value.0 + size_at nodes b.value.0 ≡ size (types_meaning p).types (PairTy first_entry.0.of_type second_entry.0.of_type)
          (PairV first_entry.0.value second_entry.0.value)
      pair_size =
          ap₂ (λ m n. m + n) (size_is marking (types_meaning p) (types_by_number p) nodes a first_entry.0 first_entry.2 sound)
          (size_is marking (types_meaning p) (types_by_number p) nodes b second_entry.0 second_entry.2 sound)

      pair_depth : 1 + max (depth_at nodes a.value.0) (depth_at nodes b.value.0) ≡ depth (types_meaning p).types (PairTy first_entry.0.of_type second_entry.0.of_type) (PairV first_entry.0.value second_entry.0.value)
      pair_depth =
          ap₂ (λ m n. 1 + max m n) (depth_is marking (types_meaning p) (types_by_number p) nodes a first_entry.0 first_entry.2 sound)
          (depth_is marking (types_meaning p) (types_by_number p) nodes b second_entry.0 second_entry.2 sound)

      pub pair_big : limit_in p < size_at nodes a.value.0 + size_at nodes b.value.0 → (go : Entry → Loading) → at_pair first second go ≡ FaultyImage (TooBig number)
      pair_big big =
          too_big p file_size number (PairTy first_entry.0.of_type second_entry.0.of_type) (PairV first_entry.0.value second_entry.0.value) (at_pair first second) pair_there pair_part
          (subst (λ (n : ℕ). limit_in p < n) pair_size big)

      module _ (small : size_at nodes a.value.0 + size_at nodes b.value.0 ≤ limit_in p) where
        pub pair_deep : 512 < 1 + max (depth_at nodes a.value.0) (depth_at nodes b.value.0) → (go : Entry → Loading) → at_pair first second go ≡ FaultyImage (TooDeep number)
        pair_deep deep =
            too_deep p file_size number (PairTy first_entry.0.of_type second_entry.0.of_type) (PairV first_entry.0.value second_entry.0.value)
            (at_pair first second) pair_there pair_part
            (subst (λ (n : ℕ). n ≤ limit_in p) pair_size small) (subst (λ (n : ℕ). 512 < n) pair_depth deep)

        pub pair_loaded : 1 + max (depth_at nodes a.value.0) (depth_at nodes b.value.0) ≤ 512 → (new : List Node) (pair : StoredRecord)
            → slice_get (types_by_number p) pair.ty.0 ≡ Some (PairTy (type_at (types_by_number p) a.ty) (type_at (types_by_number p) b.ty))
            → (StandsFor (kind_of marking (types_meaning p)) (types_meaning p).types nodes a.value.0 first_entry.0.of_type (seen_as marking (types_meaning p) first_entry.0.of_type first_entry.0.value)
            → StandsFor (kind_of marking (types_meaning p)) (types_meaning p).types nodes b.value.0 second_entry.0.of_type
            (seen_as marking (types_meaning p) second_entry.0.of_type second_entry.0.value)
            → StandsFor (kind_of marking (types_meaning p)) (types_meaning p).types new pair.value.0 (PairTy first_entry.0.of_type second_entry.0.of_type)
            (PairV (seen_as marking (types_meaning p) first_entry.0.of_type first_entry.0.value) (seen_as marking (types_meaning p) second_entry.0.of_type second_entry.0.value)))
            → IsLoaded marking (types_meaning p) (types_by_number p) new (at_pair first second) (Ok pair)
        pair_loaded shallow new pair of_type stands =
            loaded p file_size number (PairTy first_entry.0.of_type second_entry.0.of_type) (PairV first_entry.0.value second_entry.0.value) (at_pair first second) pair_there pair_part
            (subst (λ (n : ℕ). n ≤ limit_in p) pair_size small) (subst (λ (n : ℕ). n ≤ 512) pair_depth shallow) marking new pair
            (PairV (seen_as marking (types_meaning p) first_entry.0.of_type first_entry.0.value) (seen_as marking (types_meaning p) second_entry.0.of_type second_entry.0.value))
            (of_type ∙ ap Some pair_type)
            (pair_seen marking (types_meaning p) first_entry.0.of_type second_entry.0.of_type first_entry.0.value second_entry.0.value) (stands first_entry.2.stands second_entry.2.stands)

  module _ (inner : ℕ) (a : StoredRecord) (at : Some a ≡ slice_get records inner) where
    pub inner_entry : (e : Entry) × (slice_get entries inner ≡ Some e) × IsStored marking (types_meaning p) (types_by_number p) nodes a e
    inner_entry = entry_of inner a at

    auth_there : (go : Entry → Loading)
        → at_auth inner go ≡ within_limits (types_meaning p) file_size number (entry (AuthTy inner_entry.0.of_type) inner_entry.0.value) (go (entry (AuthTy inner_entry.0.of_type) inner_entry.0.value))
    auth_there go = ap (λ o. checked_entry (types_meaning p) file_size number (option_map (λ a. entry (AuthTy a.of_type) a.value) o) go) inner_entry.1

    inner_type : type_at (types_by_number p) a.ty ≡ inner_entry.0.of_type
    inner_type = type_is marking (types_meaning p) (types_by_number p) nodes a inner_entry.0 inner_entry.2

    pub auth_none : is_part (types_meaning p).types (AuthTy (type_at (types_by_number p) a.ty)) (types_meaning p).state ≡ false
        → (go : Entry → Loading) → at_auth inner go ≡ FaultyImage (BadRecord number)
    auth_none none =
        no_part p file_size number (AuthTy inner_entry.0.of_type) inner_entry.0.value (at_auth inner) auth_there
        (ap (λ t. is_part (types_meaning p).types (AuthTy t) (types_meaning p).state) (sym inner_type) ∙ none)

    pub inner_stands : StandsFor (kind_of marking (types_meaning p)) (types_meaning p).types nodes a.value.0 (type_at (types_by_number p) a.ty)
        (seen_as marking (types_meaning p) inner_entry.0.of_type inner_entry.0.value)
    inner_stands =
        subst (λ t. StandsFor (kind_of marking (types_meaning p)) (types_meaning p).types nodes a.value.0 t (seen_as marking (types_meaning p) inner_entry.0.of_type inner_entry.0.value)) (sym inner_type) inner_entry.2.stands

    pub auth_loaded : is_part (types_meaning p).types (AuthTy (type_at (types_by_number p) a.ty)) (types_meaning p).state ≡ true → (new : List Node) (auth : StoredRecord)
        → slice_get (types_by_number p) auth.ty.0 ≡ Some (AuthTy (type_at (types_by_number p) a.ty))
        → StandsFor (kind_of marking (types_meaning p)) (types_meaning p).types new auth.value.0 (AuthTy (type_at (types_by_number p) a.ty))
        (authenticated marking (types_meaning p) (type_at (types_by_number p) a.ty) (seen_as marking (types_meaning p) inner_entry.0.of_type inner_entry.0.value))
        → IsLoaded marking (types_meaning p) (types_by_number p) new (at_auth inner) (Ok auth)
    auth_loaded part new auth of_type stands =
        loaded p file_size number (AuthTy inner_entry.0.of_type) inner_entry.0.value (at_auth inner) auth_there
        (ap (λ t. is_part (types_meaning p).types (AuthTy t) (types_meaning p).state) (sym inner_type) ∙ part) (small_fits p 32 (lit≤ tt)) (lit≤ tt) marking new auth
        (authenticated marking (types_meaning p) inner_entry.0.of_type (seen_as marking (types_meaning p) inner_entry.0.of_type inner_entry.0.value))
        (of_type ∙ ap (λ t. Some (AuthTy t)) inner_type)
        (sym (authenticated_seen marking (types_meaning p) inner_entry.0.of_type inner_entry.0.value))
        (subst (λ t. StandsFor (kind_of marking (types_meaning p)) (types_meaning p).types new auth.value.0 (AuthTy t) (authenticated marking (types_meaning p) t (seen_as marking (types_meaning p) inner_entry.0.of_type inner_entry.0.value))) inner_type stands)
