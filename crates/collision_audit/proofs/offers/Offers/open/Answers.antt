-- The header by the program's own format.
use Rattle.std.proofs.Common.{◌≡◌, [], Some, Err, ap, sym, subst, ◌∙◌}
use Rattle.core_terms.specs.ProgramTypes.{types_meaning}
use Rattle.proof_stream.specs.TakenFrames.{TakesHeader}
use Rattle.reuse_buffer.specs.Kept.{Kept, kept}
use Rattle.collision_audit.proofs.offers.Offers.open.Goals as goal

pub returns-in-Err-Header-clause-opens : goal.returns-in-Err-Header-clause-opens
returns-in-Err-Header-clause-opens g c bytes told =
    let left = g.S.Source.left c.header.new.source in
    let takes = subst (λ e. TakesHeader c.proof_magic.result c.most_kept.result bytes left (Err e)) c.in-Err-Header.field-0-is (c.in-Err-Header.ensures.takes bytes told) in
    takes.0 (types_meaning c.args.types.now).format (sym c.proof_magic.ensures) (sym c.most_kept.ensures)

pub returns-clause-opens : goal.returns-clause-opens
returns-clause-opens g c bytes told =
    let takes = c.in-Ok.ensures.takes bytes told in
    let ring = c.in_ok-ring.ensures in
    let size = ap (λ (r : Kept). r.size) ring in (
      takes.0 (types_meaning c.args.types.now).format (sym c.proof_magic.ensures) (sym c.most_kept.ensures) ∙ ap Some (sym size),
      subst (λ n. c.in_ok-ring.ring ≡ kept n []) (sym size) ring,
      c.in-Ok.ensures.limit ∙ c.new-reader.ensures.limit ∙ c.spelling_limit.ensures.limit,
      takes.1,
    )
