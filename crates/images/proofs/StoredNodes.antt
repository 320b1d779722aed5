-- A record that is loaded: its node is there, and keeps the size and the depth of what it stands for.
use Rattle.std.proofs.Common.{◌≡◌, ℕ, ◌<◌, true, List, length, nat_lt, Some, slice_get, sym, ◌∙◌, lt-ltb}
use Rattle.std.proofs.lemmas.Option.{get_or_from_slice_get, slice_get_within}
use Rattle.core_terms.specs.Types.{Ty, UnitTy}
use Rattle.core_terms.specs.Terms.{Program}
use Rattle.core_terms.specs.TypeTables.{type_at}
use Rattle.core_terms.specs.Values.{size, depth}
use Rattle.images.specs.Images.{Entry}
use Rattle.value_store.specs.Markings.{Marking, kind_of, seen_as}
use Rattle.value_store.specs.Nodes.{AreSound, Node, depth_at, size_at}
use Rattle.value_store.proofs.KeptSizes.{depth_stands, size_stands}
use Rattle.value_store.proofs.StandingNodes.{there_stands}
use Rattle.images.specs.StoredRecords.{AreStored, IsStored}
use Rattle.images.specs.declared.stored.StoredRecord.{StoredRecord}
use Rattle.images.proofs.Seen.{depth_seen, size_seen}
use Rattle.images.proofs.StoredLists.{stored_there}

module _ (marking : Marking) (P : Program) (types : List Ty) (nodes : List Node) (r : StoredRecord) (e : Entry) (is : IsStored marking P types nodes r e) where
  pub node_there : r.value.0 < length nodes
  node_there = there_stands (kind_of marking P) P.types nodes e.of_type (seen_as marking P e.of_type e.value) r.value.0 is.stands

  pub type_there : r.ty.0 < length types
  type_there = slice_get_within types r.ty.0 e.of_type is.of_type

  pub type_is : type_at types r.ty ≡ e.of_type
  type_is = get_or_from_slice_get types r.ty.0 e.of_type UnitTy is.of_type

  pub size_is : {limit : ℕ} → AreSound limit nodes → size_at nodes r.value.0 ≡ size P.types e.of_type e.value
  size_is sound = size_stands nodes sound (kind_of marking P) P.types e.of_type (seen_as marking P e.of_type e.value) r.value.0 is.stands ∙ size_seen marking P e.of_type e.value

  pub depth_is : {limit : ℕ} → AreSound limit nodes → depth_at nodes r.value.0 ≡ depth P.types e.of_type e.value
  depth_is sound = depth_stands nodes sound (kind_of marking P) P.types e.of_type (seen_as marking P e.of_type e.value) r.value.0 is.stands ∙ depth_seen marking P e.of_type e.value

-- the node of a record with a number is there
pub node_at : (marking : Marking) (P : Program) (types : List Ty) (nodes : List Node) (records : List StoredRecord) (entries : List Entry) → AreStored marking P types nodes records entries
    → (n : ℕ) (r : StoredRecord) → Some r ≡ slice_get records n → r.value.0 < length nodes
node_at marking P types nodes records entries stored n r at =
    let there = stored_there marking P types nodes records entries stored n r (sym at) in
    node_there marking P types nodes r there.0 there.2

-- and so is its type
pub type_at_number : (marking : Marking) (P : Program) (types : List Ty) (nodes : List Node) (records : List StoredRecord) (entries : List Entry)
    → AreStored marking P types nodes records entries
    → (n : ℕ) (r : StoredRecord) → Some r ≡ slice_get records n → nat_lt r.ty.0 (length types) ≡ true
type_at_number marking P types nodes records entries stored n r at =
    let there = stored_there marking P types nodes records entries stored n r (sym at) in
    lt-ltb r.ty.0 (length types) (type_there marking P types nodes r there.0 there.2)
