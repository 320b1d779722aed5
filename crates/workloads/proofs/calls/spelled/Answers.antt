use Rattle.std.proofs.lemmas.Result.{IfOk-weaker}
use Rattle.core_terms.specs.Formats.{IsHash}
use Rattle.code_gen.specs.Programs.{program_in}
use Rattle.workloads.proofs.SpelledParts.{shown_by, spelling_by, stands_by}
use Rattle.workloads.proofs.calls.spelled.Goals as goal

pub spell-requires : goal.spell-requires
spell-requires g c =
    let is_hash : IsHash g.H.Hash32.hash = (g.met.H.Hash32 g.world.𝓛 g.world.𝓜 g.world.𝓡 ((λ s x. x), (λ x. x), (λ x. x), (λ x. x))).digest_length in
    shown_by g.H.Hash32.hash is_hash (program_in c.args.code.now) c.types.result.now c.types.ensures (g.N.Nodes.nodes c.args.store.now) c.args.r.0 c.args.ty c.requires.0 c.requires.1

pub returns : goal.returns
returns g c =
    let is_hash : IsHash g.H.Hash32.hash = (g.met.H.Hash32 g.world.𝓛 g.world.𝓜 g.world.𝓡 ((λ s x. x), (λ x. x), (λ x. x), (λ x. x))).digest_length in
    let p = program_in c.args.code.now in
    let nodes = g.N.Nodes.nodes c.args.store.now in
    IfOk-weaker c.spell.result _ _
    (λ bytes spelled v stands. spelling_by g.H.Hash32.hash is_hash p c.types.result.now c.types.ensures nodes c.args.r.0 c.args.ty v bytes
    (spelled g.H.Hash32.hash v is_hash (stands_by g.H.Hash32.hash is_hash p c.types.result.now c.types.ensures nodes c.args.r.0 c.args.ty v stands)))
    c.spell.ensures.projected
