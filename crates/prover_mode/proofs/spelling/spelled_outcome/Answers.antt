use Rattle.std.proofs.Common.{sym, subst}
use Rattle.core_terms.specs.Formats.{IsHash}
use Rattle.core_terms.specs.ProgramTypes.{types_by_number, types_meaning}
use Rattle.core_terms.specs.TypeTables.{type_at}
use Rattle.ideal_meaning.specs.Ideal as ideal
use Rattle.value_store.specs.Nodes.{AreSound}
use Rattle.ideal_meaning.specs.SpelledOutcomes.{SpellsOutcome}
use Rattle.prover_mode.proofs.SpelledOutcomes.{done_shows, tells_done, tells_out, tells_trap}
use Rattle.prover_mode.proofs.spelling.spelled_outcome.Goals as goal
use Rattle.prover_mode.proofs.spelling.spelled_outcome.Goals.{in-Done+in_ok-spell-in-Done, in-Trapped, in-Out}

pub spell-requires : goal.spell-requires
spell-requires g c =
    let is_hash : IsHash g.H.Hash32.hash = (g.met.H.Hash32 g.world.𝓛 g.world.𝓜 g.world.𝓡 ((λ s x. x), (λ x. x), (λ x. x), (λ x. x))).digest_length in
    done_shows g.H.Hash32.hash c.args.types.now (g.N.Nodes.nodes c.args.store.now) (type_at (types_by_number c.args.types.now) c.args.ty) c.args.outcome
    is_hash c.in-Done.value c.in-Done.is c.requires.ends.0 c.requires.ends.1

pub returns : goal.returns
returns g c o h =
    let hash = g.H.Hash32.hash in
    let is_hash : IsHash hash = (g.met.H.Hash32 g.world.𝓛 g.world.𝓜 g.world.𝓡 ((λ s x. x), (λ x. x), (λ x. x), (λ x. x))).digest_length in
    let types = c.args.types.now in
    let nodes = g.N.Nodes.nodes c.args.store.now in
    let t = type_at (types_by_number types) c.args.ty in
    elim c.match-outcome.branch [
      | in-Done+in_ok-spell-in-Done w ↦
          let spelled = tells_done hash types nodes t c.args.outcome is_hash (subst (λ n. AreSound n nodes) c.requires.limit.is (g.met.N.Nodes.sound c.args.store.now)) w.in-Done.value _ w.in-Done.is (λ v stands. w.in_ok-spell-in-Done.ensures.projected hash v is_hash stands) o h in
          subst (SpellsOutcome (types_meaning types) t (ideal.outcome_projection hash (types_meaning types) t o)) (sym w.result-is) spelled
      | in-Trapped w ↦
          subst (SpellsOutcome (types_meaning types) t (ideal.outcome_projection hash (types_meaning types) t o)) (sym w.result-is) (tells_trap hash types nodes t c.args.outcome _ w.in-Trapped.is o h)
      | in-Out w ↦
          subst (SpellsOutcome (types_meaning types) t (ideal.outcome_projection hash (types_meaning types) t o)) (sym w.result-is) (tells_out hash types nodes t c.args.outcome w.in-Out.is o h)
    ]
