use Rattle.std.proofs.Common.{◌≡◌, [], ◌++◌, List, ℕ, sym, ap, ◌∙◌, subst}
use Rattle.std.specs.Int.{w16, to_be_bytes}
use Rattle.core_terms.specs.Formats.{IsHash}
use Rattle.core_terms.specs.ProgramTypes.{types_meaning}
use Rattle.code_gen.specs.Programs.{program_in}
use Rattle.ideal_meaning.specs.Frames.{frame_bytes}
use Rattle.ideal_meaning.specs.Headline.{call_values}
use Rattle.value_store.specs.Nodes.{AreSound}
use Rattle.mode_vm.specs.Meanings.{program_of}
use Rattle.reuse_buffer.specs.Kept.{Kept}
use Rattle.prover_mode.specs.Calls.{IsAccepted}
use Rattle.ideal_meaning.specs.RunFrames.{run_frames, again_in, fresh_in}
use Rattle.prover_mode.proofs.Accepted.{file_accepted}
use Rattle.prover_mode.proofs.CallParts.{holds_last}
use Rattle.prover_mode.proofs.proof_files.prove_file_reusing.Goals as goal

pub returns-clause-frames : goal.returns-clause-frames
returns-clause-frames g c s a called =
    let size : c.in_ok-ring.ring.size ≡ c.args.size = ap (λ (r : Kept). r.size) c.in_ok-ring.ensures in
    let tells = c.in_ok-proof.ensures.frames s a [] called (holds_last c.in_ok-ring.ring c.args.size [] c.in_ok-ring.ensures) in
    tells.frames ∙ ap (λ n. frame_bytes (run_frames g.H.Hash32.hash (program_of c.args.code.now) c.args.role.0 (call_values s a) c.args.fuel n [])) size

pub returns-clause-fresh : goal.returns-clause-fresh
returns-clause-fresh g c s a called =
    let size : c.in_ok-ring.ring.size ≡ c.args.size = ap (λ (r : Kept). r.size) c.in_ok-ring.ensures in
    let tells = c.in_ok-proof.ensures.frames s a [] called (holds_last c.in_ok-ring.ring c.args.size [] c.in_ok-ring.ensures) in
    tells.fresh_count ∙ ap (λ n. fresh_in (run_frames g.H.Hash32.hash (program_of c.args.code.now) c.args.role.0 (call_values s a) c.args.fuel n [])) size

pub returns-clause-again : goal.returns-clause-again
returns-clause-again g c s a called =
    let size : c.in_ok-ring.ring.size ≡ c.args.size = ap (λ (r : Kept). r.size) c.in_ok-ring.ensures in
    let tells = c.in_ok-proof.ensures.frames s a [] called (holds_last c.in_ok-ring.ring c.args.size [] c.in_ok-ring.ensures) in
    tells.again_count ∙ ap (λ n. again_in (run_frames g.H.Hash32.hash (program_of c.args.code.now) c.args.role.0 (call_values s a) c.args.fuel n [])) size

pub returns-clause-file : goal.returns-clause-file
returns-clause-file g c s a called =
    let P = program_of c.args.code.now in
    let frames = returns-clause-frames g c s a called in
    c.in_ok-file.ensures ∙ ap (λ t. (types_meaning t).format.magic ++ (to_be_bytes w16 c.args.size ++ c.deref.result.now)) c.types.ensures ∙ ap (λ (b : List ℕ). P.format.magic ++ (to_be_bytes w16 c.args.size ++ b)) (c.deref.ensures.value ∙ frames)

pub returns-clause-accepted : goal.returns-clause-accepted
returns-clause-accepted g c s a called =
    let hash = g.H.Hash32.hash in
    -- the law of the bound holds in every world like this one, and this one is like itself
    let is_hash : IsHash hash = (g.met.H.Hash32 g.world.𝓛 g.world.𝓜 g.world.𝓡 ((λ s x. x), (λ x. x), (λ x. x), (λ x. x))).digest_length in
    let accepted = file_accepted hash is_hash (program_in c.args.code.now) c.args.role.0 c.requires.role (g.N.Nodes.nodes c.args.store.now) (subst (λ n. AreSound n (g.N.Nodes.nodes c.args.store.now)) c.requires.limit.is (g.met.N.Nodes.sound c.args.store.now))
    c.args.state c.args.argument s a called c.args.fuel c.args.size c.requires.size in
    subst (IsAccepted hash (program_of c.args.code.now) c.args.role.0 s a c.args.fuel) (sym (returns-clause-file g c s a called)) accepted
