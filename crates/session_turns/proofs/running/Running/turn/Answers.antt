use Rattle.std.proofs.Common.{◌∙◌, ℕ, sym, ap, subst}
use Rattle.std.proofs.lemmas.Result.{IfOk-weaker}
use Rattle.value_store.specs.Nodes.{AreSound, Lent}
use Rattle.value_store.specs.Overs.{own_nodes}
use Rattle.value_store.specs.Stores.{nodes_in}
use Rattle.session_turns.specs.Running.{nodes_of_call}
use Rattle.session_turns.proofs.Turns.{proving_there, sound_as, turned}
use Rattle.session_turns.proofs.running.Running.turn.Goals as goal

pub on-over-requires-clause-sound : goal.on-over-requires-clause-sound
on-over-requires-clause-sound g c = subst (λ (n : ℕ). AreSound n (nodes_of_call (nodes_in c.args.base.now) c.args.self)) (sym c.requires.limit.is) c.requires.running.4.sound

pub turn-last-requires-clause-limit : goal.turn-last-requires-clause-limit
turn-last-requires-clause-limit g c κs within = record { is = c.on-over.ensures.limit ∙ c.requires.limit.is }

pub returns : goal.returns
returns g c f vs k made h =
    let hash = g.H.Hash32.hash in
    let base = nodes_in c.args.base.now in
    let lent = ap (λ (l : Lent). l.nodes) c.turn-last.ensures.lent ∙ c.on-over.ensures.lent in
    let limit = ap (λ (l : Lent). l.limit) c.turn-last.ensures.lent ∙ c.on-over.ensures.limit ∙ c.requires.limit.is in
    turned hash c.args.code.now base c.args.self c.requires.goes_on f vs k made h c.args.units c.off.result c.turn-last.new.self c.turn-last.result _ _ c.off.ensures.nodes
    lent (sound_as _ _ _ _ (own_nodes c.off.result) limit lent c.off.ensures.sound)
    (IfOk-weaker c.turn-last.result _ _ (λ told ends. ends f vs k made (proving_there hash c.args.code.now base c.args.self c.requires.goes_on f vs k made h _ c.on-over.ensures.nodes)) c.turn-last.ensures.ends)
