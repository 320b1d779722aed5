use Rattle.std.proofs.Common.{◌≤◌, ◌++◌, ℕ, List, length, sym, ap₂, ◌∙◌, subst}
use Rattle.core_terms.specs.Formats.{IsHash}
use Rattle.core_terms.specs.ProgramTypes.{types_meaning}
use Rattle.core_terms.specs.Projection.{digest_at, projection}
use Rattle.core_terms.proofs.Fingerprints.{front_is}
use Rattle.shallow_codec.specs.ProgramTypes.{ty_of}
use Rattle.value_store.specs.Stores.{nodes_in}
use Rattle.value_store.proofs.ProverNodes.{shown_shallow}
use Rattle.piece_mirror.specs.Mirrors.{piece_limit}
use Rattle.piece_mirror.proofs.Filling.{short_piece}
use Rattle.piece_mirror.proofs.fill.piece_at.Goals as goal

pub spell-requires : goal.spell-requires
spell-requires g c =
    let hash = g.H.Hash32.hash in
    let is_hash : IsHash hash = (g.met.H.Hash32 g.world.𝓛 g.world.𝓜 g.world.𝓡 ((λ s x. x), (λ x. x), (λ x. x), (λ x. x))).digest_length in
    let P = types_meaning c.args.types.now in
    let t = ty_of c.args.types.now c.args.ty in
    let v = c.requires.stands.0 in
    (projection hash P t v, shown_shallow (digest_at hash P) P.types (λ t bytes. is_hash _) (nodes_in c.args.store.now) t v c.args.node.0 c.requires.stands.1)

pub returns-clause-piece : goal.returns-clause-piece
returns-clause-piece g c = λ v h.
    let hash = g.H.Hash32.hash in
    let is_hash : IsHash hash = (g.met.H.Hash32 g.world.𝓛 g.world.𝓜 g.world.𝓡 ((λ s x. x), (λ x. x), (λ x. x), (λ x. x))).digest_length in
    let before = c.in_ok-piece.ensures.items ∙ c.front.ensures ∙ front_is hash c.args.types.now c.args.fronts.now c.requires.fronts c.args.ty in
    c.in_ok-extend_from_slice.ensures.items ∙ ap₂ (λ (a b : List ℕ). a ++ b) before (c.as_bytes.ensures ∙ c.in_ok-spelling.ensures.projected hash v is_hash h)

pub returns-clause-short : goal.returns-clause-short
returns-clause-short g c =
    let hash = g.H.Hash32.hash in
    let is_hash : IsHash hash = (g.met.H.Hash32 g.world.𝓛 g.world.𝓜 g.world.𝓡 ((λ s x. x), (λ x. x), (λ x. x), (λ x. x))).digest_length in
    let types = c.args.types.now in
    let v = c.requires.stands.0 in
    let h = c.requires.stands.1 in
    let before = c.in_ok-piece.ensures.items ∙ c.front.ensures ∙ front_is hash types c.args.fronts.now c.requires.fronts c.args.ty in
    let is = c.in_ok-extend_from_slice.ensures.items ∙ ap₂ (λ (a b : List ℕ). a ++ b) before (c.as_bytes.ensures ∙ c.in_ok-spelling.ensures.projected hash v is_hash h) in
    subst (λ bytes. length bytes ≤ piece_limit) (sym is)
    (short_piece hash types (nodes_in c.args.store.now) is_hash c.args.store.now.sound c.args.store.now.greatest c.args.node.0 (ty_of types c.args.ty) v h)
