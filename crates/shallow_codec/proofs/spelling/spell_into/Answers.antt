use Rattle.std.proofs.Common.{◌∙◌, ◌++◌, ap}
use Rattle.core_terms.specs.ProgramTypes.{types_meaning}
use Rattle.core_terms.specs.Projection.{digest_at, projection}
use Rattle.core_terms.specs.Spelling.{spelling}
use Rattle.value_store.proofs.ProverNodes.{shown_shallow}
use Rattle.shallow_codec.specs.ProgramTypes.{table, ty_of}
use Rattle.shallow_codec.proofs.SpelledNodes.{shown_below}
use Rattle.shallow_codec.proofs.spelling.spell_into.Goals as goal

pub shallow_size-requires : goal.shallow_size-requires
shallow_size-requires g c = shown_below (g.N.Nodes.nodes c.args.store.now) c.args.r.0 (table c.args.types.now, ty_of c.args.types.now c.args.ty, c.requires.0, c.requires.1)

pub returns-clause-projected : goal.returns-clause-projected
returns-clause-projected g c = λ hash v long h.
    let P = types_meaning c.args.types.now in
    let t = ty_of c.args.types.now c.args.ty in
    let shown = shown_shallow (digest_at hash P) (table c.args.types.now) (λ t bytes. long _) (g.N.Nodes.nodes c.args.store.now) t v c.args.r.0 h in
    c.in_ok-write.ensures (table c.args.types.now) t (projection hash P t v) shown ∙ ap (λ bs. bs ++ spelling (projection hash P t v)) (c.in_ok-reserve_exact.ensures.items ∙ c.clear.ensures.items)
