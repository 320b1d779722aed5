use Rattle.std.proofs.Common.{◌++◌, ap₂, ◌∙◌}
use Rattle.core_terms.proofs.Fingerprints.{front_is}
use Rattle.core_terms.specs.ProgramTypes.{types_by_number, types_meaning}
use Rattle.core_terms.specs.Projection.{digest_at, projection}
use Rattle.core_terms.specs.TypeTables.{type_at}
use Rattle.value_store.specs.Standing.{ProverNodes}
use Rattle.value_store.proofs.MarkedNodes.{refers_there}
use Rattle.value_store.proofs.ProverNodes.{shown_shallow}
use Rattle.mode_vm.proofs.digesting.DigestingModeMode.auth.Goals as goal

pub spell_into-requires : goal.spell_into-requires
spell_into-requires g c =
    let hash = g.H.Hash32.hash in
    let P = types_meaning c.args.types.now in
    let t = type_at (types_by_number c.args.types.now) c.args.ty in
    let x = c.requires.stands.0 in (
      projection hash P t x,
      shown_shallow (digest_at hash P) P.types (λ t bytes. g.met.H.Hash32.digest_length _) (g.N.Nodes.nodes c.args.store.now) t x c.args.v.0 c.requires.stands.1,
    )

pub put_auth-requires : goal.put_auth-requires
put_auth-requires g c =
    let P = types_meaning c.args.types.now in
    let t = type_at (types_by_number c.args.types.now) c.args.ty in
    record {
      inner = refers_there (ProverNodes (digest_at g.H.Hash32.hash P)) P.types (g.N.Nodes.nodes c.args.store.now) c.args.v.0 t c.requires.stands.0 c.requires.stands.1;
    }

pub returns-clause-stands : goal.returns-clause-stands
returns-clause-stands g c x stands =
    let hash = g.H.Hash32.hash in
    let P = types_meaning c.args.types.now in
    let t = type_at (types_by_number c.args.types.now) c.args.ty in
    let spelled = c.deref.ensures.value ∙ c.in_ok-spell_into.ensures.projected hash x g.met.H.Hash32.digest_length stands in
    c.in_ok-put_auth.ensures.stands (ProverNodes (digest_at hash P)) P.types t x (stands, c.of_pair-digest.ensures ∙ ap₂ (λ f b. hash (f ++ b)) (c.front.ensures ∙ front_is hash c.args.types.now c.args.self.now.fronts c.requires.knows c.args.ty) spelled)
