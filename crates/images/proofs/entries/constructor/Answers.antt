use Rattle.std.proofs.Common.{◌-◌, sym, ◌∙◌, arith, leb-true}
use Rattle.std.proofs.lemmas.Bool.{leb-false}
use Rattle.core_terms.specs.ProgramTypes.{types_meaning}
use Rattle.value_store.specs.CodeNodes.{numbers_of}
use Rattle.value_store.specs.Markings.{kind_of}
use Rattle.value_store.specs.Nodes.{greatest_depth, total_size}
use Rattle.value_store.specs.Stores.{nodes_in}
use Rattle.images.proofs.Constructors.{constructor_big, constructor_deep, constructor_loaded, fields_there, lent, no_field, none_found}
use Rattle.core_terms.specs.declared.types.TyForm.TheVariants.{NamedForm}
use Rattle.images.proofs.TypeNumbers.{numbered}
use Rattle.images.proofs.entries.constructor.Goals as goal

pub returns-in_default-2-clause-loaded : goal.returns-in_default-2-clause-loaded
returns-in_default-2-clause-loaded c marking entries stored size =
    no_field marking c.args.parts.now.types.now (nodes_in c.args.store.now) c.args.store.now.sound c.args.loaded.now entries stored size c.args.number
    c.args.found c.requires.of_program (none_found c.in_ok-refs.field-0 _ c.in_default-2.is c.in_ok-refs.ensures)

pub sizes_fit-requires : goal.sizes_fit-requires
sizes_fit-requires c = record {
  refs =
      fields_there c.requires.stored.0 c.args.parts.now.types.now (nodes_in c.args.store.now) c.args.store.now.sound c.args.loaded.now c.requires.stored.1
      c.requires.stored.2 0 c.args.number c.args.found c.requires.of_program c.as_slice-fields.result.now
      (lent c.in_ok-refs.field-0 c.in-Some-2.refs c.as_slice-fields.result.now _ c.in-Some-2.is c.in_ok-refs.ensures c.as_slice-fields.ensures.value);
}

pub returns-then-not-sizes_fit-clause-loaded : goal.returns-then-not-sizes_fit-clause-loaded
returns-then-not-sizes_fit-clause-loaded c marking entries stored size =
    let more = leb-false (total_size (nodes_in c.args.store.now) (numbers_of c.as_slice-fields.result.now)) (c.limit.result - 1) (sym c.sizes_fit.ensures ∙ c.if-not-sizes_fit.true) in
    constructor_big marking c.args.parts.now.types.now (nodes_in c.args.store.now) c.args.store.now.sound c.args.loaded.now entries stored size c.args.number
    c.args.found c.requires.of_program c.as_slice-fields.result.now
    (lent c.in_ok-refs.field-0 c.in-Some-2.refs c.as_slice-fields.result.now _ c.in-Some-2.is c.in_ok-refs.ensures c.as_slice-fields.ensures.value)
    (omega (arith, c.limit.ensures, c.requires.limit.is, more))

pub depths_fit-requires : goal.depths_fit-requires
depths_fit-requires c = record {
  refs =
      fields_there c.requires.stored.0 c.args.parts.now.types.now (nodes_in c.args.store.now) c.args.store.now.sound c.args.loaded.now c.requires.stored.1
      c.requires.stored.2 0 c.args.number c.args.found c.requires.of_program c.as_slice-fields.result.now
      (lent c.in_ok-refs.field-0 c.in-Some-2.refs c.as_slice-fields.result.now _ c.in-Some-2.is c.in_ok-refs.ensures c.as_slice-fields.ensures.value);
}

pub returns-then-not-depths_fit-clause-loaded : goal.returns-then-not-depths_fit-clause-loaded
returns-then-not-depths_fit-clause-loaded c marking entries stored size =
    let small = leb-true (total_size (nodes_in c.args.store.now) (numbers_of c.as_slice-fields.result.now)) (c.limit.result - 1) (sym c.sizes_fit.ensures ∙ c.if-not-sizes_fit.false) in
    let deep = leb-false (greatest_depth (nodes_in c.args.store.now) (numbers_of c.as_slice-fields.result.now)) 511 (sym c.depths_fit.ensures ∙ c.if-not-depths_fit.true) in
    constructor_deep marking c.args.parts.now.types.now (nodes_in c.args.store.now) c.args.store.now.sound c.args.loaded.now entries stored size
    c.args.number c.args.found c.requires.of_program c.as_slice-fields.result.now
    (lent c.in_ok-refs.field-0 c.in-Some-2.refs c.as_slice-fields.result.now _ c.in-Some-2.is c.in_ok-refs.ensures c.as_slice-fields.ensures.value)
    (omega (arith, c.limit.ensures, c.requires.limit.is, small)) (omega (arith, deep))

pub put_constructor-requires-clause-fields : goal.put_constructor-requires-clause-fields
put_constructor-requires-clause-fields c =
    fields_there c.requires.stored.0 c.args.parts.now.types.now (nodes_in c.args.store.now) c.args.store.now.sound c.args.loaded.now c.requires.stored.1
    c.requires.stored.2 0 c.args.number c.args.found c.requires.of_program c.as_slice-fields.result.now
    (lent c.in_ok-refs.field-0 c.in-Some-2.refs c.as_slice-fields.result.now _ c.in-Some-2.is c.in_ok-refs.ensures c.as_slice-fields.ensures.value)

pub returns-clause-loaded : goal.returns-clause-loaded
returns-clause-loaded c marking entries stored size =
    let p = c.args.parts.now.types.now in
    let small = leb-true (total_size (nodes_in c.args.store.now) (numbers_of c.as_slice-fields.result.now)) (c.limit.result - 1) (sym c.sizes_fit.ensures ∙ c.if-not-sizes_fit.false) in
    let shallow = leb-true (greatest_depth (nodes_in c.args.store.now) (numbers_of c.as_slice-fields.result.now)) 511 (sym c.depths_fit.ensures ∙ c.if-not-depths_fit.false) in
    constructor_loaded marking c.args.parts.now.types.now (nodes_in c.args.store.now) c.args.store.now.sound c.args.loaded.now entries stored size
    c.args.number c.args.found c.requires.of_program c.as_slice-fields.result.now
    (lent c.in_ok-refs.field-0 c.in-Some-2.refs c.as_slice-fields.result.now _ c.in-Some-2.is c.in_ok-refs.ensures c.as_slice-fields.ensures.value)
    (omega (arith, c.limit.ensures, c.requires.limit.is, small)) (omega (arith, shallow))
    (nodes_in c.put_constructor.new.self) (record { ty = c.in-Some.ty; value = c.in_ok-value.value })
    (numbered c.args.parts.now.types.now (NamedForm c.args.found.named) c.in-Some.ty c.in-Some.ensures)
    (c.in_ok-value.ensures.stands (kind_of marking (types_meaning p)) (types_meaning p).types)
