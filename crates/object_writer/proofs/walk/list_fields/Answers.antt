use Rattle.std.proofs.Common.{ap, ◌∙◌, map, refl, subst, arith}
use Rattle.std.proofs.lemmas.Result.{err_from_is_err_and}
use Rattle.core_terms.specs.ProgramTypes.{types_by_number}
use Rattle.object_writer.specs.Numberings.{AreTooMany, listed}
use Rattle.object_writer.proofs.Loops.{lists_on, lists_no_more, lists_all}
use Rattle.core_terms.specs.ProgramTrees.{types_at}
use Rattle.core_terms.specs.declared.term.Constructor.{Constructor}
use Rattle.object_meaning.specs.WrittenObjects.{with_types}
use Rattle.object_writer.proofs.ListedParts.{fields_grow}
use Rattle.object_writer.proofs.WalkForms.{with_constructors}
use Rattle.object_writer.proofs.walk.list_fields.Goals as goal

pub returns-in_err-list_all : goal.returns-in_err-list_all
returns-in_err-list_all c =
    let p = err_from_is_err_and c.from_residual.result c.from_residual.ensures.1 in
    let types = types_by_number c.args.types.now in
    let l = c.loop-constructor in
    let x = c.constructor-item.result in
    rw (p.1, p.2) (lists_no_more (with_constructors types) (λ list d. with_types list (types_at types d.fields.items)) (λ list x xs. refl) (λ list. refl) (λ list cs. fields_grow list (map (λ (d : Constructor). types_at types d.fields.items) cs))
    c.args.constructors.now _ (listed c.args.types.now l.numbering) l.constructor-index l.invariant.1 x x _ (omega arith) c.constructor-item.is (subst (λ ids. AreTooMany (with_types (listed c.args.types.now l.numbering) (types_at types ids)) c.in_err-list_all.field-0.0) c.deref.ensures.value c.in_err-list_all.ensures))

pub loop-constructor-preserved : goal.loop-constructor-preserved
loop-constructor-preserved c =
    let types = types_by_number c.args.types.now in
    let l = c.loop-constructor in
    let x = c.constructor-item.result in (
      c.in_ok-list_all.ensures.right,
      lists_on (with_constructors types) (λ list d. with_types list (types_at types d.fields.items)) (λ list x xs. refl) (λ list. refl) (λ list cs. fields_grow list (map (λ (d : Constructor). types_at types d.fields.items) cs))
          c.args.constructors.now _ (listed c.args.types.now l.numbering) l.constructor-index l.invariant.1 x x _ (omega arith) c.constructor-item.is (c.in_ok-list_all.ensures.all ∙ ap (λ ids. with_types (listed c.args.types.now l.numbering) (types_at types ids)) c.deref.ensures.value),
    )

pub returns : goal.returns
returns c =
    let types = types_by_number c.args.types.now in
    let l = c.loop-constructor in
    record {
      right = l.invariant.0;
      all = lists_all (with_constructors types) (λ list d. with_types list (types_at types d.fields.items)) (λ list x xs. refl) (λ list. refl) (λ list cs. fields_grow list (map (λ (d : Constructor). types_at types d.fields.items) cs))
          c.args.constructors.now _ (listed c.args.types.now l.numbering) l.constructor-index l.invariant.1 (omega arith);
    }
