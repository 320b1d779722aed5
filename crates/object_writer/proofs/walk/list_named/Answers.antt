use Rattle.std.proofs.Common.{ap, ◌∙◌, refl, subst, arith}
use Rattle.std.proofs.lemmas.Result.{err_from_is_err_and}
use Rattle.core_terms.specs.ProgramTypes.{types_by_number}
use Rattle.object_writer.specs.Numberings.{AreTooMany, listed}
use Rattle.object_writer.proofs.Loops.{lists_on, lists_no_more, lists_all}
use Rattle.core_terms.specs.ProgramTrees.{table_of}
use Rattle.object_meaning.specs.WrittenObjects.{with_all_fields}
use Rattle.object_writer.proofs.ListedParts.{all_fields_grow}
use Rattle.object_writer.proofs.WalkForms.{with_constructors}
use Rattle.object_writer.proofs.walk.list_named.Goals as goal

pub returns-in_err-list_fields : goal.returns-in_err-list_fields
returns-in_err-list_fields c =
    let p = err_from_is_err_and c.from_residual.result c.from_residual.ensures.1 in
    let types = types_by_number c.args.types.now in
    let l = c.loop-declared in
    let x = c.declared-item.result in
    rw (p.1, p.2) (lists_no_more (λ list xs. with_all_fields list (table_of types xs)) (λ list d. with_constructors types list d.constructors.items) (λ list x xs. refl) (λ list. refl) (λ list xs. all_fields_grow list (table_of types xs))
    c.args.named.now _ (listed c.args.types.now l.numbering) l.declared-index l.invariant.1 x x _ (omega arith) c.declared-item.is (subst (λ cs. AreTooMany (with_constructors types (listed c.args.types.now l.numbering) cs) c.in_err-list_fields.field-0.0) c.deref.ensures.value c.in_err-list_fields.ensures))

pub loop-declared-preserved : goal.loop-declared-preserved
loop-declared-preserved c =
    let types = types_by_number c.args.types.now in
    let l = c.loop-declared in
    let x = c.declared-item.result in (
      c.in_ok-list_fields.ensures.right,
      lists_on (λ list xs. with_all_fields list (table_of types xs)) (λ list d. with_constructors types list d.constructors.items) (λ list x xs. refl) (λ list. refl) (λ list xs. all_fields_grow list (table_of types xs))
          c.args.named.now _ (listed c.args.types.now l.numbering) l.declared-index l.invariant.1 x x _ (omega arith) c.declared-item.is (c.in_ok-list_fields.ensures.all ∙ ap (λ cs. with_constructors types (listed c.args.types.now l.numbering) cs) c.deref.ensures.value),
    )

pub returns : goal.returns
returns c =
    let types = types_by_number c.args.types.now in
    let l = c.loop-declared in
    record {
      right = l.invariant.0;
      all = lists_all (λ list xs. with_all_fields list (table_of types xs)) (λ list d. with_constructors types list d.constructors.items) (λ list x xs. refl) (λ list. refl) (λ list xs. all_fields_grow list (table_of types xs))
          c.args.named.now _ (listed c.args.types.now l.numbering) l.declared-index l.invariant.1 (omega arith);
    }
