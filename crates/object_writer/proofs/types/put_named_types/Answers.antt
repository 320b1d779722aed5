use Rattle.std.proofs.Common.{ℕ, ◌∙◌, ◌++◌, length, ap, refl, sym, subst, slice_index_or, arith}
use Rattle.std.proofs.lemmas.Result.{err_from_is_err_and}
use Rattle.core_terms.specs.ProgramTypes.{named_table}
use Rattle.core_terms.specs.TypeNames.{all_constructor_names}
use Rattle.core_terms.specs.Types.{NamedTy}
use Rattle.core_terms.specs.declared.term.NamedType.{NamedType}
use Rattle.object_meaning.specs.ObjectBytes.{type_bytes}
use Rattle.object_meaning.specs.WrittenObjects.{type_written}
use Rattle.object_writer.specs.Adding.{Hinders, written_so_far}
use Rattle.object_writer.specs.Numberings.{listed}
use Rattle.object_writer.proofs.LoopForms.{named_parts}
use Rattle.object_writer.proofs.Loops.{goes_on, stops, is_done}
use Rattle.object_writer.proofs.NamedBytes.{named_there, few_there}
use Rattle.object_writer.proofs.types.put_named_types.Goals as goal

pub put_named-requires-clause-few : goal.put_named-requires-clause-few
put_named-requires-clause-few c = few_there c.args.types.now c.loop-declared.declared-index c.declared-item.result (omega (arith, ap length c.named_types-declared-items.ensures.named)) (c.declared-item.is ∙ ap (λ l. slice_index_or l c.loop-declared.declared-index c.declared-item.result) c.named_types-declared-items.ensures.named) c.requires.few

pub returns-in_err-put_named : goal.returns-in_err-put_named
returns-in_err-put_named c =
    let p = err_from_is_err_and c.from_residual.result c.from_residual.ensures.1 in
    let types = c.args.types.now in
    let listing = listed types c.args.numbering.now in
    let one = λ (i : ℕ) (d : NamedType). type_bytes (type_written listing (named_table types) (all_constructor_names types.named.items) (NamedTy i)) in
    let l = c.loop-declared in
    let all = c.named_types-declared-items.result.now in
    let d = c.declared-item.result in
    rw (p.1, p.2) (subst (λ xs. Hinders (written_so_far c.args.object.now) (named_parts listing types 0 xs) c.in_err-put_named.field-0.0) c.named_types-declared-items.ensures.named
    (stops (λ i xs. named_parts listing types i xs) one (λ i x xs. refl) (λ i. refl)
    all (written_so_far c.args.object.now) (written_so_far l.object) l.declared-index l.invariant d d _ (omega arith) c.declared-item.is
    (subst (λ t. Hinders (written_so_far l.object) (type_bytes t) c.in_err-put_named.field-0.0) (sym (named_there types listing l.declared-index d (omega (arith, ap length c.named_types-declared-items.ensures.named)) (c.declared-item.is ∙ ap (λ l. slice_index_or l c.loop-declared.declared-index d) c.named_types-declared-items.ensures.named))) c.in_err-put_named.ensures)))

pub loop-declared-preserved : goal.loop-declared-preserved
loop-declared-preserved c =
    let types = c.args.types.now in
    let listing = listed types c.args.numbering.now in
    let one = λ (i : ℕ) (d : NamedType). type_bytes (type_written listing (named_table types) (all_constructor_names types.named.items) (NamedTy i)) in
    let l = c.loop-declared in
    let all = c.named_types-declared-items.result.now in
    let d = c.declared-item.result in
    goes_on (λ i xs. named_parts listing types i xs) one (λ i x xs. refl) (λ i. refl)
    all (written_so_far c.args.object.now) (written_so_far l.object) l.declared-index l.invariant d d _ (omega arith) c.declared-item.is
    (c.in_ok-put_named.ensures ∙ ap (λ t. written_so_far l.object ++ type_bytes t) (sym (named_there types listing l.declared-index d (omega (arith, ap length c.named_types-declared-items.ensures.named)) (c.declared-item.is ∙ ap (λ l. slice_index_or l c.loop-declared.declared-index d) c.named_types-declared-items.ensures.named))))

pub returns : goal.returns
returns c =
    let types = c.args.types.now in
    let listing = listed types c.args.numbering.now in
    let one = λ (i : ℕ) (d : NamedType). type_bytes (type_written listing (named_table types) (all_constructor_names types.named.items) (NamedTy i)) in
    let l = c.loop-declared in
    let all = c.named_types-declared-items.result.now in
    is_done (λ i xs. named_parts listing types i xs) one (λ i x xs. refl) (λ i. refl) all (written_so_far c.args.object.now) (written_so_far l.object) l.declared-index l.invariant (omega arith)
    ∙ ap (λ xs. written_so_far c.args.object.now ++ named_parts listing types 0 xs) c.named_types-declared-items.ensures.named
