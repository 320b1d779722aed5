use Rattle.std.proofs.Common.{◌<◌, ℕ, List, length, Option, ap, ◌∙◌, subst}
use Rattle.code_gen.specs.Programs.{program_in}
use Rattle.ideal_meaning.specs.Frames.{frame_bytes, honest_frames}
use Rattle.ideal_meaning.specs.Ideal.{ideal}
use Rattle.ideal_meaning.specs.Run.{state_of}
use Rattle.mode_vm.specs.Meanings.{program_of}
use Rattle.prover_mode.specs.Seen.{pieces_of}
use Rattle.prover_mode.specs.Written.{HasWrittenWithin}
use Rattle.prover_mode.specs.declared.frames.FrameWriter.{FrameWriter}
use Rattle.prover_mode.proofs.CallParts.{pieces_by, seen_by, written_by}
use Rattle.prover_mode.proofs.turns.Proving.finish_within.Goals as goal

pub write_frames-requires-clause-seen : goal.write_frames-requires-clause-seen
write_frames-requires-clause-seen g c κs within =
    let has = c.requires.has_run in
    let seen = state_of (ideal (program_of c.args.code.now) has.0 has.1 has.2) in
    let own = c.deref.ensures.value ∙ ap (λ v. v.items) c.into_opened-opened.ensures ∙ ap (λ m. m.opened.items) c.into_mode.ensures in (
      seen,
      seen_by g.H.Hash32.hash (program_in c.args.code.now) c.types.result.now c.types.ensures (g.N.Nodes.nodes c.args.store.now) c.deref.result.now c.args.self.machine.mode.opened.items seen own has.3.opened,
    )

pub returns-in_default-clause-long : goal.returns-in_default-clause-long
returns-in_default-clause-long g c f vs k recent has holds =
    let hash = g.H.Hash32.hash in
    let p = program_in c.args.code.now in
    let given = c.types.result.now in
    let seen = state_of (ideal (program_of c.args.code.now) f vs k) in
    let n = c.args.ring.size in
    let own = c.deref.ensures.value ∙ ap (λ v. v.items) c.into_opened-opened.ensures ∙ ap (λ m. m.opened.items) c.into_mode.ensures in
    let lent = seen_by hash p given c.types.ensures (g.N.Nodes.nodes c.args.store.now) c.deref.result.now c.args.self.machine.mode.opened.items seen own has.opened in
    let long = subst (λ (o : Option FrameWriter). HasWrittenWithin c.args.most n recent (pieces_of hash given seen) o) c.in_default.is (c.in_ok-written.ensures.written seen recent lent holds) in
    subst (λ (ps : List (List ℕ)). c.args.most < length (frame_bytes (honest_frames n recent ps))) (pieces_by hash p given c.types.ensures f vs k) long

pub returns-clause-told : goal.returns-clause-told
returns-clause-told g c f vs k recent has holds =
    let hash = g.H.Hash32.hash in
    let p = program_in c.args.code.now in
    let given = c.types.result.now in
    let seen = state_of (ideal (program_of c.args.code.now) f vs k) in
    let n = c.args.ring.size in
    let own = c.deref.ensures.value ∙ ap (λ v. v.items) c.into_opened-opened.ensures ∙ ap (λ m. m.opened.items) c.into_mode.ensures in
    let lent = seen_by hash p given c.types.ensures (g.N.Nodes.nodes c.args.store.now) c.deref.result.now c.args.self.machine.mode.opened.items seen own has.opened in
    let within = subst (λ (o : Option FrameWriter). HasWrittenWithin c.args.most n recent (pieces_of hash given seen) o) c.in-Some.is (c.in_ok-written.ensures.written seen recent lent holds) in
    let h = written_by hash p given c.types.ensures f vs k n recent c.in-Some.writer within.0 in
    (record { frames = h.bytes; fresh_count = h.fresh; again_count = h.again; ring = h.ring }, within.1)
