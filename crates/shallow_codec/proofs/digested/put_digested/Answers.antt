use Rattle.std.proofs.Common.{◌∙◌, ◌++◌, ap₂}
use Rattle.std.proofs.lemmas.Result.{IfOk-weaker}
use Rattle.core_terms.specs.Formats.{IsHash}
use Rattle.core_terms.proofs.Fingerprints.{front_is}
use Rattle.core_terms.specs.ProgramTypes.{types_meaning}
use Rattle.core_terms.specs.Projection.{digest_at, projection}
use Rattle.value_store.specs.Nodes.{AuthNode, BothHeld}
use Rattle.value_store.specs.Standing.{ProverNodes}
use Rattle.value_store.proofs.MarkedNodes.{refers_there}
use Rattle.value_store.proofs.ProverNodes.{shown_shallow}
use Rattle.shallow_codec.specs.ProgramTypes.{ty_of}
use Rattle.shallow_codec.proofs.GrownNodes.{put_grows, put_refused}
use Rattle.shallow_codec.proofs.digested.put_digested.Goals as goal

pub spell-requires : goal.spell-requires
spell-requires g c =
    let hash = g.H.Hash32.hash in
    let is_hash : IsHash hash = (g.met.H.Hash32 g.world.𝓛 g.world.𝓜 g.world.𝓡 ((λ s x. x), (λ x. x), (λ x. x), (λ x. x))).digest_length in
    let P = types_meaning c.args.types.now in
    let t = ty_of c.args.types.now c.args.ty in
    let x = c.requires.stands.0 in
    (projection hash P t x, shown_shallow (digest_at hash P) P.types (λ t bytes. is_hash _) (g.N.Nodes.nodes c.args.store.now) t x c.args.v.0 c.requires.stands.1)

pub put_auth-requires : goal.put_auth-requires
put_auth-requires g c =
    let P = types_meaning c.args.types.now in
    record {
      inner = refers_there (ProverNodes (digest_at g.H.Hash32.hash P)) P.types (g.N.Nodes.nodes c.args.store.now) c.args.v.0 (ty_of c.args.types.now c.args.ty) c.requires.stands.0 c.requires.stands.1;
    }

pub returns-clause-stands : goal.returns-clause-stands
returns-clause-stands g c =
    let hash = g.H.Hash32.hash in
    let is_hash : IsHash hash = (g.met.H.Hash32 g.world.𝓛 g.world.𝓜 g.world.𝓡 ((λ s x. x), (λ x. x), (λ x. x), (λ x. x))).digest_length in
    let P = types_meaning c.args.types.now in
    let t = ty_of c.args.types.now c.args.ty in
    IfOk-weaker c.put_auth.result _ _ (λ r holds x stands. holds (ProverNodes (digest_at hash P)) P.types t x
    (stands, c.of_pair-digest.ensures ∙ ap₂ (λ f b. hash (f ++ b)) (c.front.ensures ∙ front_is hash c.args.types.now c.args.fronts.now c.requires.fronts c.args.ty) (c.as_bytes.ensures ∙ c.in_ok-spelling.ensures.projected hash x is_hash stands)))
    c.put_auth.ensures.stands

pub returns-clause-grows : goal.returns-clause-grows
returns-clause-grows g c = put_grows (g.N.Nodes.nodes c.args.store.now) (g.N.Nodes.nodes c.put_auth.new.self) (AuthNode (BothHeld c.of_pair-digest.result.0 c.args.v.0)) c.put_auth.result
    c.put_auth.ensures.put

pub returns-clause-refused : goal.returns-clause-refused
returns-clause-refused g c = put_refused (g.N.Nodes.nodes c.args.store.now) (g.N.Nodes.nodes c.put_auth.new.self) (AuthNode (BothHeld c.of_pair-digest.result.0 c.args.v.0)) c.put_auth.result
    c.put_auth.ensures.put
