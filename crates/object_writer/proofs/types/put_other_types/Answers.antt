use Rattle.std.proofs.Common.{ℕ, ◌++◌, ◌∙◌, ap, refl, slice_index_or, subst, arith}
use Rattle.std.proofs.lemmas.Result.{err_from_is_err_and}
use Rattle.core_terms.specs.ProgramTypes.{named_table, types_by_number}
use Rattle.core_terms.specs.TypeNames.{all_constructor_names}
use Rattle.core_terms.specs.TypeTables.{type_at}
use Rattle.core_terms.specs.declared.types.TyId.{TyId}
use Rattle.object_meaning.specs.ObjectBytes.{type_bytes}
use Rattle.object_meaning.specs.WrittenObjects.{type_written}
use Rattle.object_writer.specs.Adding.{Hinders, written_so_far}
use Rattle.object_writer.specs.Numberings.{listed}
use Rattle.object_writer.proofs.LoopForms.{type_parts}
use Rattle.object_writer.proofs.Loops.{goes_on, stops, is_done}
use Rattle.object_writer.proofs.types.put_other_types.Goals as goal

pub returns-in_err-put_type : goal.returns-in_err-put_type
returns-in_err-put_type c =
    let p = err_from_is_err_and c.from_residual.result c.from_residual.ensures.1 in
    let types = c.args.types.now in
    let listing = listed types c.args.numbering.now in
    let one = λ (i : ℕ) (ty : TyId). type_bytes (type_written listing (named_table types) (all_constructor_names types.named.items) (type_at (types_by_number types) ty)) in
    let l = c.loop-ty in
    let all = c.order-ty-items.result.now in
    rw (p.1, p.2) (subst (λ ids. Hinders (written_so_far c.args.object.now) (type_parts listing types ids) c.in_err-put_type.field-0.0) c.order-ty-items.ensures
    (stops (λ i ids. type_parts listing types ids) one (λ i x xs. refl) (λ i. refl)
    all (written_so_far c.args.object.now) (written_so_far l.object) l.ty-index l.invariant (slice_index_or all l.ty-index (record { 0 = 0 })) (record { 0 = 0 }) _ (omega arith) refl c.in_err-put_type.ensures))

pub loop-ty-preserved : goal.loop-ty-preserved
loop-ty-preserved c =
    let types = c.args.types.now in
    let listing = listed types c.args.numbering.now in
    let one = λ (i : ℕ) (ty : TyId). type_bytes (type_written listing (named_table types) (all_constructor_names types.named.items) (type_at (types_by_number types) ty)) in
    let l = c.loop-ty in
    let all = c.order-ty-items.result.now in
    goes_on (λ i ids. type_parts listing types ids) one (λ i x xs. refl) (λ i. refl)
    all (written_so_far c.args.object.now) (written_so_far l.object) l.ty-index l.invariant (slice_index_or all l.ty-index (record { 0 = 0 })) (record { 0 = 0 }) _ (omega arith) refl c.in_ok-put_type.ensures

pub returns : goal.returns
returns c =
    let types = c.args.types.now in
    let listing = listed types c.args.numbering.now in
    let one = λ (i : ℕ) (ty : TyId). type_bytes (type_written listing (named_table types) (all_constructor_names types.named.items) (type_at (types_by_number types) ty)) in
    let l = c.loop-ty in
    let all = c.order-ty-items.result.now in
    let e = is_done (λ i ids. type_parts listing types ids) one (λ i x xs. refl) (λ i. refl) all (written_so_far c.args.object.now) (written_so_far l.object) l.ty-index l.invariant (omega arith) in
    e ∙ ap (λ ids. written_so_far c.args.object.now ++ type_parts listing types ids) c.order-ty-items.ensures
