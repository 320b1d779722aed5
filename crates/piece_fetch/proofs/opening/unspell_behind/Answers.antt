-- The fault of a spelling, and its value, stand further on by the front.
use Rattle.std.proofs.Common.{◌≡◌, ◌+◌, ◌∙◌, [], length, ap, subst, arith, Err}
use Rattle.core_terms.proofs.CodePrograms.{every_format}
use Rattle.core_terms.specs.ProgramTypes.{types_by_number, types_meaning}
use Rattle.core_terms.specs.Projection.{read_at}
use Rattle.core_terms.specs.Reading.{BadAt}
use Rattle.core_terms.specs.TypeTables.{type_at}
use Rattle.ideal_meaning.specs.PieceForms.{further}
use Rattle.shallow_codec.specs.Unspelled.{IsUnspelled}
use Rattle.piece_fetch.proofs.ReadWithin.{fault_within}
use Rattle.piece_fetch.proofs.opening.unspell_behind.Goals as goal

pub overflow_add-result : goal.overflow_add-result
overflow_add-result g c =
    let P = types_meaning c.args.types.now in
    let t = type_at (types_by_number c.args.types.now) c.args.ty in
    let spelling = c.in-Ok.spelling.now in
    let fault : read_at P t spelling ≡ BadAt c.in-Err-Bad.offset =
    subst (λ f. IsUnspelled P.types (g.N.Nodes.nodes c.unspell.new.store) t (read_at P t spelling) (Err f)) c.in-Err-Bad.field-0-is c.in-Err-Bad.ensures.value in
    let short = fault_within P.format.limit P.types t spelling c.in-Err-Bad.offset fault in
    let fits = (every_format c.args.types.now []).message_fits in
    omega (arith, short, fits, c.requires.short)

pub returns-in-Ok-unspell-clause-value : goal.returns-in-Ok-unspell-clause-value
returns-in-Ok-unspell-clause-value g c =
    let P = types_meaning c.args.types.now in
    let t = type_at (types_by_number c.args.types.now) c.args.ty in
    let n = length c.args.front.now in
    let read = c.in-Ok-unspell.ensures.value in
    (read.0, n + read.1, c.in-Ok.ensures (read_at P t) ∙ ap (further n) read.2, read.3)
