use Rattle.std.proofs.Common.{refl, slice_index_or, arith}
use Rattle.std.proofs.lemmas.Result.{err_from_is_err_and}
use Rattle.core_terms.specs.ProgramTypes.{types_by_number}
use Rattle.core_terms.specs.TypeTables.{type_at}
use Rattle.core_terms.specs.declared.types.TyId.{TyId}
use Rattle.object_meaning.specs.ObjectBytes.{word}
use Rattle.object_meaning.specs.WrittenObjects.{number_in}
use Rattle.object_writer.specs.Adding.{written_so_far}
use Rattle.object_writer.specs.Numberings.{listed}
use Rattle.object_writer.proofs.LoopForms.{number_words}
use Rattle.object_writer.proofs.Loops.{goes_on, stops, is_done}
use Rattle.object_writer.proofs.types.put_numbers.Goals as goal

pub returns-in_err-put_word : goal.returns-in_err-put_word
returns-in_err-put_word c =
    let p = err_from_is_err_and c.from_residual.result c.from_residual.ensures.1 in
    let listing = listed c.args.types.now c.args.numbering.now in
    let types = types_by_number c.args.types.now in
    let l = c.loop-ty in
    let ty : TyId = slice_index_or c.args.listing.now l.ty-index (record { 0 = 0 }) in
    rw (p.1, p.2) (stops (λ i ids. number_words listing types ids) (λ i ty. word (number_in listing (type_at types ty))) (λ i x xs. refl) (λ i. refl)
    c.args.listing.now (written_so_far c.args.object.now) (written_so_far l.object) l.ty-index l.invariant ty (record { 0 = 0 }) _ (omega arith) refl (rw (c.number.ensures) at c.in_err-put_word.ensures))

pub loop-ty-preserved : goal.loop-ty-preserved
loop-ty-preserved c =
    let listing = listed c.args.types.now c.args.numbering.now in
    let types = types_by_number c.args.types.now in
    let l = c.loop-ty in
    let ty : TyId = slice_index_or c.args.listing.now l.ty-index (record { 0 = 0 }) in
    goes_on (λ i ids. number_words listing types ids) (λ i ty. word (number_in listing (type_at types ty))) (λ i x xs. refl) (λ i. refl)
    c.args.listing.now (written_so_far c.args.object.now) (written_so_far l.object) l.ty-index l.invariant ty (record { 0 = 0 }) _ (omega arith) refl (rw (c.number.ensures) at c.in_ok-put_word.ensures)

pub returns : goal.returns
returns c =
    let listing = listed c.args.types.now c.args.numbering.now in
    let types = types_by_number c.args.types.now in
    let l = c.loop-ty in
    is_done (λ i ids. number_words listing types ids) (λ i ty. word (number_in listing (type_at types ty))) (λ i x xs. refl) (λ i. refl)
    c.args.listing.now (written_so_far c.args.object.now) (written_so_far l.object) l.ty-index l.invariant (omega arith)
