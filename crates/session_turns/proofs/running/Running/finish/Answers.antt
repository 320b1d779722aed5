use Rattle.std.proofs.Common.{rules, ◌≡◌, ◌+◌, ◌<◌, ℕ, List, length, take, ◌++◌, Some, Ok, sym, ap, ◌∙◌, subst, arith, le-leb}
use Rattle.core_terms.specs.Formats.{message_limit}
use Rattle.ideal_meaning.specs.Frames.{frame_bytes}
use Rattle.ideal_meaning.specs.Headline.{call_values}
use Rattle.mode_vm.specs.Meanings.{program_of}
use Rattle.reuse_buffer.specs.Kept.{Kept, kept}
use Rattle.session_meaning.specs.Calls.{frames_of, new_state, outcome_of, role_in}
use Rattle.value_store.specs.Nodes.{AreSound, Node}
use Rattle.value_store.specs.Overs.{own_nodes}
use Rattle.value_store.specs.Stores.{nodes_in}
use Rattle.session_turns.specs.Running.{nodes_of_call}
use Rattle.session_turns.proofs.Rows.{of_none, of_some}
use Rattle.session_turns.proofs.Turns.{sound_as}
use Rattle.session_turns.proofs.RunEnds.{made_so, made_there, made_within, outcome_over, run_over, tells_so, too_many}
use Rattle.session_turns.proofs.running.Running.finish.Goals as goal

pub on-over-requires-clause-sound : goal.on-over-requires-clause-sound
on-over-requires-clause-sound g c = subst (λ (n : ℕ). AreSound n (nodes_of_call (nodes_in c.args.base.now) c.args.self)) (sym c.requires.limit.is) c.requires.running.3.0.sound

pub state_made-made-requires : goal.state_made-made-requires
state_made-made-requires g c =
    let ran : c.args.self.last ≡ Ok (Some c.in-Ok-Some.outcome) = search rules in
    let hash = g.H.Hash32.hash in
    let P = program_of c.args.code.now in
    let h = c.requires.running in (
      hash,
      outcome_of P h.0 h.1,
      outcome_over hash c.args.code.now (nodes_in c.args.base.now) c.args.self c.args.call h.0 h.1 h.2 h.3 c.in-Ok-Some.outcome ran _ c.on-over.ensures.nodes,
    )

pub returns-clause-ends : goal.returns-clause-ends
returns-clause-ends g c s state call made h on ring =
    let ran : c.args.self.last ≡ Ok (Some c.in-Ok-Some.outcome) = search rules in
    let hash = g.H.Hash32.hash in
    let P = program_of c.args.code.now in
    let base = nodes_in c.args.base.now in
    let run = c.args.self in
    let size = ap (λ (k : Kept). k.size) ring in
    let held = subst (λ (n : ℕ). c.args.ring ≡ kept n s.recent) (sym size) ring in
    let tells =
    of_some _ _ _ c.in-Some.is c.in_ok-told.ensures.told (role_in P call.role).function (call_values state call.argument) call.fuel s.recent
    (run_over hash c.args.code.now base run c.args.call state call made h c.in-Ok-Some.outcome ran _ c.on-over.ensures.nodes) held in
    let proof = c.in-Some.told.0 in
    let told = tells_so hash P state call s.kept c.args.ring.size s.recent proof.bytes.items proof.fresh proof.again c.in-Some.told.1 size tells.0 in
    let within = tells.1 in
    let bytes = ap (λ (bytes : List ℕ). length bytes) told.0 in
    let behind = c.off.ensures.nodes ∙ ap (λ (ns : List Node). ns ++ own_nodes c.off.result) c.on-over.ensures.lent in (
      told.0,
      told.1,
      record {
        on_version = on;
        fits = le-leb (3 + length (frame_bytes (frames_of hash P s.kept s.recent state call))) message_limit (omega (arith, within, bytes));
        has_made =
            made_so hash c.args.code.now base run c.args.call state call made h c.in-Ok-Some.outcome ran _ _ c.state_made-made.result c.on-over.ensures.nodes behind
            (λ o is. c.state_made-made.ensures hash o is);
        of_call = h.1;
      },
    )

pub returns-in_default-2-clause-too_long : goal.returns-in_default-2-clause-too_long
returns-in_default-2-clause-too_long g c s state call made h on ring =
    let ran : c.args.self.last ≡ Ok (Some c.in-Ok-Some.outcome) = search rules in
    let hash = g.H.Hash32.hash in
    let P = program_of c.args.code.now in
    let size = ap (λ (k : Kept). k.size) ring in
    let held = subst (λ (n : ℕ). c.args.ring ≡ kept n s.recent) (sym size) ring in
    let long =
    of_none _ _ c.in_default-2.is c.in_ok-told.ensures.long (role_in P call.role).function (call_values state call.argument) call.fuel s.recent
    (run_over hash c.args.code.now (nodes_in c.args.base.now) c.args.self c.args.call state call made h c.in-Ok-Some.outcome ran _ c.on-over.ensures.nodes) held in
    too_many (frames_of hash P s.kept s.recent state call)
    (subst (λ (n : ℕ). 16777213 < length (frame_bytes (frames_of hash P n s.recent state call))) size long)

pub returns-clause-sound : goal.returns-clause-sound
returns-clause-sound g c =
    sound_as _ _ _ _ (own_nodes c.off.result) c.on-over.ensures.limit c.on-over.ensures.lent c.off.ensures.sound

pub returns-clause-made : goal.returns-clause-made
returns-clause-made g c =
    let ran : c.args.self.last ≡ Ok (Some c.in-Ok-Some.outcome) = search rules in
    let hash = g.H.Hash32.hash in
    let P = program_of c.args.code.now in
    let base = nodes_in c.args.base.now in
    let h = c.requires.running in
    let behind = c.off.ensures.nodes ∙ ap (λ (ns : List Node). ns ++ own_nodes c.off.result) c.on-over.ensures.lent in
    made_within c.args.self.from base (own_nodes c.off.result) c.state_made-made.result h.3.0.within
    (made_there hash P (take c.args.self.from base ++ own_nodes c.off.result) c.state_made-made.result (new_state P h.1 (outcome_of P h.0 h.1))
    (made_so hash c.args.code.now base c.args.self c.args.call h.0 h.1 h.2 h.3 c.in-Ok-Some.outcome ran _ _ c.state_made-made.result c.on-over.ensures.nodes behind
    (λ o is. c.state_made-made.ensures hash o is)))
