-- Constructor values, by the records of their fields.
use Rattle.std.proofs.Common.{◌≡◌, ℕ, ◌+◌, ◌<◌, ◌≤◌, true, List, [], length, nat_lt, Option, Some, None, slice_get, unwrap_or, Ok, Vec, Global, sym, ap, ◌∙◌, subst}
use Rattle.std.specs.List.{list_all}
use Rattle.std.specs.Option.{option_map}
use Rattle.core_terms.specs.Types.{Ty, NamedTy, fields_at}
use Rattle.core_terms.specs.Values.{ConV, Values, depth, depths, size, sizes}
use Rattle.core_terms.specs.ProgramTypes.{types_by_number, types_meaning}
use Rattle.core_terms.specs.ProgramTrees.{types_at}
use Rattle.core_terms.specs.declared.program_types.Types.{Types}
use Rattle.images.specs.Images.{Entry, entry, Loading, FaultyImage, BadRecord, TooBig, TooDeep, checked_entry, fields_from, stands_for, within_limits}
use Rattle.images.specs.Records.{ConRecord}
use Rattle.images.specs.Records as meant
use Rattle.value_store.specs.CodeNodes.{numbers_of}
use Rattle.value_store.specs.Markings.{Marking, kind_of}
use Rattle.value_store.specs.Nodes.{AreSound, Node, greatest_depth, total_size}
use Rattle.value_store.specs.Standing.{AllStandFor, StandsFor}
use Rattle.value_store.specs.declared.node.Ref.{Ref}
use Rattle.images.specs.ReadRecords.{HasConstructor}
use Rattle.images.specs.StoredRecords.{AreStored, IsLoaded, refs_from}
use Rattle.images.specs.declared.record.ConstructorRecord.{ConstructorRecord}
use Rattle.images.specs.declared.record.Record.TheVariants.{Constructor}
use Rattle.images.specs.declared.stored.StoredRecord.{StoredRecord}
use Rattle.images.proofs.Checked.{too_big, too_deep, loaded, limit_in}
use Rattle.images.proofs.FieldRefs.{FieldsStand, StandForFields, fields_stand}
use Rattle.images.proofs.Seen.{all_seen, constructor_seen}

-- the numbers of the records of its fields
abbrev pub field_numbers : ConstructorRecord → List ℕ
field_numbers c = meant.numbers_of (length c.fields.now) c.numbers.now

-- the nodes that were found, as they are lent
pub lent : (found : Option (Vec Ref Global)) (refs : Vec Ref Global) (slice : List Ref) (whole : Option (List Ref)) → found ≡ Some refs
    → option_map (λ (refs : Vec Ref Global). refs.items) found ≡ whole → slice ≡ refs.items → Some slice ≡ whole
lent found refs slice whole is all same = ap Some same ∙ ap (option_map (λ (refs : Vec Ref Global). refs.items)) (sym is) ∙ all

pub none_found : (found : Option (Vec Ref Global)) (whole : Option (List Ref)) → found ≡ None → option_map (λ (refs : Vec Ref Global). refs.items) found ≡ whole → None ≡ whole
none_found found whole none all = ap (option_map (λ (refs : Vec Ref Global). refs.items)) (sym none) ∙ all

module _ {limit : ℕ} (marking : Marking) (p : Types) (nodes : List Node) (sound : AreSound limit nodes) (records : List StoredRecord) (entries : List Entry)
    (stored : AreStored marking (types_meaning p) (types_by_number p) nodes records entries) (file_size number : ℕ) (c : ConstructorRecord) (has : HasConstructor p (Constructor c)) where
  -- what loading goes on with, behind a constructor value
  abbrev pub at_constructor : (Entry → Loading) → Loading
  at_constructor go = checked_entry (types_meaning p) file_size number (stands_for (types_meaning p).types entries (ConRecord c.named.0 c.tag.0 (field_numbers c))) go

  abbrev field_types : List Ty
  field_types = types_at (types_by_number p) c.fields.now

  abbrev values : Option Values
  values = fields_from entries (field_numbers c) field_types

  -- by the values of its fields
  by_values : (go : Entry → Loading) → at_constructor go ≡ checked_entry (types_meaning p) file_size number (option_map (λ vs. entry (NamedTy c.named.0) (ConV c.tag.0 vs)) values) go
  by_values go =
      ap (λ o. checked_entry (types_meaning p) file_size number (option_map (λ vs. entry (NamedTy c.named.0) (ConV c.tag.0 vs)) (fields_from entries (field_numbers c) (unwrap_or o []))) go) has.1

  found_fields : (found : Option (List Ref)) → found ≡ refs_from records (field_numbers c) c.fields.now → FieldsStand marking p nodes field_types found values
  found_fields found is =
      subst (λ found. FieldsStand marking p nodes field_types found values) (sym is) (fields_stand marking p nodes sound records entries stored (field_numbers c) c.fields.now has.2)

  -- a field is not found
  pub no_field : None ≡ refs_from records (field_numbers c) c.fields.now → (go : Entry → Loading) → at_constructor go ≡ FaultyImage (BadRecord number)
  no_field is go =
      by_values go ∙ ap (λ o. checked_entry (types_meaning p) file_size number (option_map (λ vs. entry (NamedTy c.named.0) (ConV c.tag.0 vs)) o) go) (found_fields None is)

  module _ (refs : List Ref) (is : Some refs ≡ refs_from records (field_numbers c) c.fields.now) where
    pub fields : (vs : Values) × (values ≡ Some vs) × StandForFields marking p nodes field_types (numbers_of refs) vs
    fields = found_fields (Some refs) is

    pub fields_there : list_all (λ r. nat_lt r (length nodes)) (numbers_of refs) ≡ true
    fields_there = fields.2.there

    constructor_there : (go : Entry → Loading)
        → at_constructor go ≡ within_limits (types_meaning p) file_size number (entry (NamedTy c.named.0) (ConV c.tag.0 fields.0)) (go (entry (NamedTy c.named.0) (ConV c.tag.0 fields.0)))
    constructor_there go =
        by_values go ∙ ap (λ o. checked_entry (types_meaning p) file_size number (option_map (λ vs. entry (NamedTy c.named.0) (ConV c.tag.0 vs)) o) go) fields.1

    constructor_size : 1 + total_size nodes (numbers_of refs) ≡ size (types_meaning p).types (NamedTy c.named.0) (ConV c.tag.0 fields.0)
    constructor_size = ap (λ n. 1 + n) fields.2.size ∙ ap (λ o. 1 + sizes (types_meaning p).types (unwrap_or o []) fields.0) (sym has.1)

    constructor_depth : 1 + greatest_depth nodes (numbers_of refs) ≡ depth (types_meaning p).types (NamedTy c.named.0) (ConV c.tag.0 fields.0)
    constructor_depth = ap (λ n. 1 + n) fields.2.depth ∙ ap (λ o. 1 + depths (types_meaning p).types (unwrap_or o []) fields.0) (sym has.1)

    pub constructor_big : limit_in p < 1 + total_size nodes (numbers_of refs) → (go : Entry → Loading) → at_constructor go ≡ FaultyImage (TooBig number)
    constructor_big big =
        too_big p file_size number (NamedTy c.named.0) (ConV c.tag.0 fields.0) at_constructor constructor_there has.0 (subst (λ (n : ℕ). limit_in p < n) constructor_size big)

    module _ (small : 1 + total_size nodes (numbers_of refs) ≤ limit_in p) where
      pub constructor_deep : 512 < 1 + greatest_depth nodes (numbers_of refs) → (go : Entry → Loading) → at_constructor go ≡ FaultyImage (TooDeep number)
      constructor_deep deep =
          too_deep p file_size number (NamedTy c.named.0) (ConV c.tag.0 fields.0) at_constructor constructor_there has.0
          (subst (λ (n : ℕ). n ≤ limit_in p) constructor_size small) (subst (λ (n : ℕ). 512 < n) constructor_depth deep)

      pub constructor_loaded : 1 + greatest_depth nodes (numbers_of refs) ≤ 512 → (new : List Node) (made : StoredRecord)
          → slice_get (types_by_number p) made.ty.0 ≡ Some (NamedTy c.named.0)
          → ((ts : List Ty) (vs : Values) → fields_at (types_meaning p).types c.named.0 c.tag.0 ≡ Some ts
          → AllStandFor (kind_of marking (types_meaning p)) (types_meaning p).types nodes (numbers_of refs) ts vs
          → StandsFor (kind_of marking (types_meaning p)) (types_meaning p).types new made.value.0 (NamedTy c.named.0) (ConV c.tag.0 vs))
          → IsLoaded marking (types_meaning p) (types_by_number p) new at_constructor (Ok made)
      constructor_loaded shallow new made of_type stands =
          loaded p file_size number (NamedTy c.named.0) (ConV c.tag.0 fields.0) at_constructor constructor_there has.0
          (subst (λ (n : ℕ). n ≤ limit_in p) constructor_size small) (subst (λ (n : ℕ). n ≤ 512) constructor_depth shallow) marking new made
          (ConV c.tag.0 (all_seen marking (types_meaning p) field_types fields.0)) of_type (constructor_seen marking (types_meaning p) c.named.0 c.tag.0 field_types fields.0 has.1)
          (stands field_types (all_seen marking (types_meaning p) field_types fields.0) has.1 fields.2.stand)
