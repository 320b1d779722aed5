use Rattle.std.proofs.Common.{◌≡◌, ◌-◌, ◌≤◌, ℕ, true, List, Option, Some, None, replicate, length, sym, ap, ◌∙◌, arith, leb-true, subst}
use Rattle.std.proofs.lemmas.Bool.{leb-false}
use Rattle.core_terms.specs.Types.{VecTy, is_length, item_types}
use Rattle.core_terms.specs.Values.{ItemsV}
use Rattle.core_terms.specs.ProgramTypes.{types_by_number, types_meaning}
use Rattle.core_terms.proofs.TypingComplete.{both}
use Rattle.core_terms.specs.declared.types.TyForm.TheVariants.{VecForm}
use Rattle.value_store.specs.CodeNodes.{numbers_of}
use Rattle.value_store.specs.Markings.{kind_of}
use Rattle.value_store.specs.Nodes.{greatest_depth, total_size}
use Rattle.value_store.specs.Standing.{AllStandFor, StandsFor}
use Rattle.value_store.specs.Stores.{nodes_in}
use Rattle.images.specs.PartMarks.{IsPartOfState}
use Rattle.images.proofs.ArrayRecords.{array_big, array_deep, array_loaded, first_below, for_types, item, items, items_stand, items_there, length_fits, no_array, no_item, none_first, stand_count, too_long}
use Rattle.images.proofs.Constructors.{lent, none_found}
use Rattle.images.proofs.TypeNumbers.{numbered}
use Rattle.images.proofs.entries.array.Goals as goal

pub returns-in_default-clause-loaded : goal.returns-in_default-clause-loaded
returns-in_default-clause-loaded c marking entries stored size =
    none_first marking c.args.parts.now.types.now (nodes_in c.args.store.now) c.args.store.now.sound c.args.loaded.now entries stored size c.args.number c.args.count c.args.numbers.now
    (sym c.in_default.is ∙ c.first_record.ensures.found)

pub returns-then-count-gt-MOST_ITEMS-clause-loaded : goal.returns-then-count-gt-MOST_ITEMS-clause-loaded
returns-then-count-gt-MOST_ITEMS-clause-loaded c marking entries stored size =
    let p = c.args.parts.now.types.now in
    let first = sym c.in-Some.is ∙ c.first_record.ensures.found in
    no_array marking p (nodes_in c.args.store.now) c.args.store.now.sound c.args.loaded.now entries stored size c.args.number c.args.count c.args.numbers.now c.in-Some.first first
    (too_long p c.args.parts.now.marks.now.marks.items c.requires.marked.marks c.args.count
    (item marking p (nodes_in c.args.store.now) c.args.store.now.sound c.args.loaded.now entries stored size c.args.number c.args.count c.args.numbers.now c.in-Some.first first)
    (omega (arith, c.if-count-gt-MOST_ITEMS.true)))

pub part-requires-clause-behind : goal.part-requires-clause-behind
part-requires-clause-behind c =
    let stored = c.requires.stored in
    both _ _
    (first_below stored.0 c.args.parts.now.types.now (nodes_in c.args.store.now) c.args.store.now.sound c.args.loaded.now stored.1 stored.2 0 c.args.number c.args.count c.args.numbers.now
    c.in-Some.first (sym c.in-Some.is ∙ c.first_record.ensures.found))
    (length_fits c.args.count c.in-Some.ensures.some (omega (arith, c.if-count-gt-MOST_ITEMS.false)))

pub returns-in_default-part-clause-loaded : goal.returns-in_default-part-clause-loaded
returns-in_default-part-clause-loaded c marking entries stored size =
    let p = c.args.parts.now.types.now in
    no_array marking p (nodes_in c.args.store.now) c.args.store.now.sound c.args.loaded.now entries stored size c.args.number c.args.count c.args.numbers.now c.in-Some.first
    (sym c.in-Some.is ∙ c.first_record.ensures.found)
    (subst (IsPartOfState p (VecForm c.args.count c.in-Some.first.ty)) c.in_default-part.is c.part.ensures)

pub returns-in_default-2-clause-loaded : goal.returns-in_default-2-clause-loaded
returns-in_default-2-clause-loaded c marking entries stored size =
    let found = none_found c.in_ok-refs.field-0 _ c.in_default-2.is c.in_ok-refs.ensures in
    no_item marking c.args.parts.now.types.now (nodes_in c.args.store.now) c.args.store.now.sound c.args.loaded.now entries stored size c.args.number c.args.count c.args.numbers.now c.in-Some.first
    (sym c.in-Some.is ∙ c.first_record.ensures.found)
    (for_types c.args.loaded.now c.args.numbers.now c.args.count c.in-Some.first.ty c.deref.result.now (c.deref.ensures.value ∙ c.in_ok-types.ensures) None found)

pub sizes_fit-requires : goal.sizes_fit-requires
sizes_fit-requires c = record {
  refs =
      let stored = c.requires.stored in
      let slice = c.as_slice-items.result.now in
      let found = lent c.in_ok-refs.field-0 c.in-Some-2.refs slice _ c.in-Some-2.is c.in_ok-refs.ensures c.as_slice-items.ensures.value in
      items_there stored.0 c.args.parts.now.types.now (nodes_in c.args.store.now) c.args.store.now.sound c.args.loaded.now stored.1 stored.2 0 c.args.number c.args.count c.args.numbers.now
      c.in-Some.first (sym c.in-Some.is ∙ c.first_record.ensures.found) slice
      (for_types c.args.loaded.now c.args.numbers.now c.args.count c.in-Some.first.ty c.deref.result.now (c.deref.ensures.value ∙ c.in_ok-types.ensures) (Some slice) found);
}

pub returns-then-not-sizes_fit-clause-loaded : goal.returns-then-not-sizes_fit-clause-loaded
returns-then-not-sizes_fit-clause-loaded c marking entries stored size =
    let slice = c.as_slice-items.result.now in
    let found = lent c.in_ok-refs.field-0 c.in-Some-2.refs slice _ c.in-Some-2.is c.in_ok-refs.ensures c.as_slice-items.ensures.value in
    let more = leb-false (total_size (nodes_in c.args.store.now) (numbers_of slice)) c.limit.result (sym c.sizes_fit.ensures ∙ c.if-not-sizes_fit.true) in
    array_big marking c.args.parts.now.types.now (nodes_in c.args.store.now) c.args.store.now.sound c.args.loaded.now entries stored size c.args.number c.args.count c.args.numbers.now
    c.in-Some.first (sym c.in-Some.is ∙ c.first_record.ensures.found) slice
    (for_types c.args.loaded.now c.args.numbers.now c.args.count c.in-Some.first.ty c.deref.result.now (c.deref.ensures.value ∙ c.in_ok-types.ensures) (Some slice) found)
    c.in-Some-part.ensures.0 (omega (arith, c.limit.ensures, c.requires.limit.is, more))

pub depths_fit-requires : goal.depths_fit-requires
depths_fit-requires c = record {
  refs =
      let stored = c.requires.stored in
      let slice = c.as_slice-items.result.now in
      let found = lent c.in_ok-refs.field-0 c.in-Some-2.refs slice _ c.in-Some-2.is c.in_ok-refs.ensures c.as_slice-items.ensures.value in
      items_there stored.0 c.args.parts.now.types.now (nodes_in c.args.store.now) c.args.store.now.sound c.args.loaded.now stored.1 stored.2 0 c.args.number c.args.count c.args.numbers.now
      c.in-Some.first (sym c.in-Some.is ∙ c.first_record.ensures.found) slice
      (for_types c.args.loaded.now c.args.numbers.now c.args.count c.in-Some.first.ty c.deref.result.now (c.deref.ensures.value ∙ c.in_ok-types.ensures) (Some slice) found);
}

pub returns-then-not-depths_fit-clause-loaded : goal.returns-then-not-depths_fit-clause-loaded
returns-then-not-depths_fit-clause-loaded c marking entries stored size =
    let slice = c.as_slice-items.result.now in
    let found = lent c.in_ok-refs.field-0 c.in-Some-2.refs slice _ c.in-Some-2.is c.in_ok-refs.ensures c.as_slice-items.ensures.value in
    let small = leb-true (total_size (nodes_in c.args.store.now) (numbers_of slice)) c.limit.result (sym c.sizes_fit.ensures ∙ c.if-not-sizes_fit.false) in
    let deep = leb-false (greatest_depth (nodes_in c.args.store.now) (numbers_of slice)) 511 (sym c.depths_fit.ensures ∙ c.if-not-depths_fit.true) in
    array_deep marking c.args.parts.now.types.now (nodes_in c.args.store.now) c.args.store.now.sound c.args.loaded.now entries stored size c.args.number c.args.count c.args.numbers.now
    c.in-Some.first (sym c.in-Some.is ∙ c.first_record.ensures.found) slice
    (for_types c.args.loaded.now c.args.numbers.now c.args.count c.in-Some.first.ty c.deref.result.now (c.deref.ensures.value ∙ c.in_ok-types.ensures) (Some slice) found)
    c.in-Some-part.ensures.0 (omega (arith, c.limit.ensures, c.requires.limit.is, small)) (omega (arith, deep))

pub put_vec-requires-clause-items : goal.put_vec-requires-clause-items
put_vec-requires-clause-items c =
    let stored = c.requires.stored in
    let slice = c.as_slice-items.result.now in
    let found = lent c.in_ok-refs.field-0 c.in-Some-2.refs slice _ c.in-Some-2.is c.in_ok-refs.ensures c.as_slice-items.ensures.value in
    items_there stored.0 c.args.parts.now.types.now (nodes_in c.args.store.now) c.args.store.now.sound c.args.loaded.now stored.1 stored.2 0 c.args.number c.args.count c.args.numbers.now
    c.in-Some.first (sym c.in-Some.is ∙ c.first_record.ensures.found) slice
    (for_types c.args.loaded.now c.args.numbers.now c.args.count c.in-Some.first.ty c.deref.result.now (c.deref.ensures.value ∙ c.in_ok-types.ensures) (Some slice) found)

pub put_vec-requires-clause-count : goal.put_vec-requires-clause-count
put_vec-requires-clause-count c =
    let stored = c.requires.stored in
    let p = c.args.parts.now.types.now in
    let nodes = nodes_in c.args.store.now in
    let slice = c.as_slice-items.result.now in
    let found = lent c.in_ok-refs.field-0 c.in-Some-2.refs slice _ c.in-Some-2.is c.in_ok-refs.ensures c.as_slice-items.ensures.value in
    let stand = items_stand stored.0 p nodes c.args.store.now.sound c.args.loaded.now stored.1 stored.2 0 c.args.number c.args.count c.args.numbers.now
    c.in-Some.first (sym c.in-Some.is ∙ c.first_record.ensures.found) slice
    (for_types c.args.loaded.now c.args.numbers.now c.args.count c.in-Some.first.ty c.deref.result.now (c.deref.ensures.value ∙ c.in_ok-types.ensures) (Some slice) found) in
    subst (λ (n : ℕ). is_length n ≡ true) (sym (stand_count (kind_of stored.0 (types_meaning p)) (types_meaning p).types nodes c.args.count _ slice _ stand))
    (length_fits c.args.count c.in-Some.ensures.some (omega (arith, c.if-count-gt-MOST_ITEMS.false)))

pub returns-clause-loaded : goal.returns-clause-loaded
returns-clause-loaded c marking entries stored size =
    let p = c.args.parts.now.types.now in
    let nodes = nodes_in c.args.store.now in
    let new = nodes_in c.put_vec.new.self in
    let kind = kind_of marking (types_meaning p) in
    let types = (types_meaning p).types in
    let slice = c.as_slice-items.result.now in
    let first = sym c.in-Some.is ∙ c.first_record.ensures.found in
    let t = item marking p nodes c.args.store.now.sound c.args.loaded.now entries stored size c.args.number c.args.count c.args.numbers.now c.in-Some.first first in
    let found = for_types c.args.loaded.now c.args.numbers.now c.args.count c.in-Some.first.ty c.deref.result.now (c.deref.ensures.value ∙ c.in_ok-types.ensures) (Some slice)
    (lent c.in_ok-refs.field-0 c.in-Some-2.refs slice _ c.in-Some-2.is c.in_ok-refs.ensures c.as_slice-items.ensures.value) in
    let stand = items_stand marking p nodes c.args.store.now.sound c.args.loaded.now entries stored size c.args.number c.args.count c.args.numbers.now c.in-Some.first first slice found in
    let len = stand_count kind types nodes c.args.count t slice _ stand in
    let small = leb-true (total_size nodes (numbers_of slice)) c.limit.result (sym c.sizes_fit.ensures ∙ c.if-not-sizes_fit.false) in
    let shallow = leb-true (greatest_depth nodes (numbers_of slice)) 511 (sym c.depths_fit.ensures ∙ c.if-not-depths_fit.false) in
    array_loaded marking p nodes c.args.store.now.sound c.args.loaded.now entries stored size c.args.number c.args.count c.args.numbers.now c.in-Some.first first slice found
    c.in-Some-part.ensures.0 (omega (arith, c.limit.ensures, c.requires.limit.is, small)) (omega (arith, shallow))
    new (record { ty = c.in-Some-part.ty; value = c.in_ok-value.value })
    (numbered p (VecForm c.args.count c.in-Some.first.ty) c.in-Some-part.ty c.in-Some-part.ensures)
    (λ vs h. subst (λ (m : ℕ). StandsFor kind types new c.in_ok-value.value.0 (VecTy m t) (ItemsV vs)) len
    (c.in_ok-value.ensures.stands kind types t vs (subst (λ (m : ℕ). AllStandFor kind types nodes (numbers_of slice) (item_types m t) vs) (sym len) h)))
