use Rattle.core_terms.specs.Formats.{IsHash}
use Rattle.core_terms.specs.ProgramTypes.{types_by_number, types_meaning}
use Rattle.core_terms.specs.Projection.{digest_at, projection}
use Rattle.core_terms.specs.TypeTables.{type_at}
use Rattle.value_store.proofs.ProverNodes.{shown_shallow}
use Rattle.collision_audit.proofs.Parting.{ok_too}
use Rattle.collision_audit.proofs.comparing.projected.Goals as goal

pub spell-requires : goal.spell-requires
spell-requires g c =
    -- the law of the bound holds in every world like this one, and this one is like itself
    let is_hash : IsHash g.H.Hash32.hash = (g.met.H.Hash32 g.world.𝓛 g.world.𝓜 g.world.𝓡 ((λ s x. x), (λ x. x), (λ x. x), (λ x. x))).digest_length in
    let P = types_meaning c.args.types.now in
    let t = type_at (types_by_number c.args.types.now) c.args.ty in (
      projection g.H.Hash32.hash P t c.requires.stands.0,
      shown_shallow (digest_at g.H.Hash32.hash P) P.types (λ t bytes. is_hash _) (g.N.Nodes.nodes c.args.store.now) t c.requires.stands.0 c.args.value.0 c.requires.stands.1,
    )

pub returns : goal.returns
returns g c =
    let is_hash : IsHash g.H.Hash32.hash = (g.met.H.Hash32 g.world.𝓛 g.world.𝓜 g.world.𝓡 ((λ s x. x), (λ x. x), (λ x. x), (λ x. x))).digest_length in
    ok_too c.spell.result _ _ (λ bytes h v stands. h g.H.Hash32.hash v is_hash stands) c.spell.ensures.projected
