use Rattle.std.proofs.Common.{◌≡◌, ℕ, List, length, bytes_eq, sym, ap, ◌∙◌, arith}
use Rattle.core_terms.specs.Formats.{IsHash}
use Rattle.core_terms.specs.Projection.{digest_at}
use Rattle.code_gen.specs.Programs.{program_in}
use Rattle.mode_vm.specs.Meanings.{program_of}
use Rattle.session_meaning.specs.Server as meant
use Rattle.value_store.specs.Standing.{ProverNodes}
use Rattle.value_store.specs.Stores.{nodes_in}
use Rattle.value_store.proofs.StandingNodes.{there_stands}
use Rattle.session_turns.specs.Marks.{mark_of}
use Rattle.session_turns.proofs.Sharing.{version_stands, versions_counted}
use Rattle.session_turns.proofs.Spellings.{long, noted, other_bytes}
use Rattle.session_turns.proofs.shared.Shared.has_spelling.Goals as goal

pub shallow_size-size-requires : goal.shallow_size-size-requires
shallow_size-size-requires g c =
    let hash = g.H.Hash32.hash in
    let P = program_of c.args.code.now in
    let nodes = nodes_in c.args.self.now.store in
    let m = c.requires.shares.0 in
    let h = version_stands hash P c.args.self.now m c.requires.shares.1 c.args.number c.requires.there c.index-version.result.now c.index-version.ensures in
    there_stands (ProverNodes (digest_at hash P)) P.types nodes P.state (meant.version_at m.versions c.args.number) c.index-version.result.now.0 h

pub returns-then-size-state-clause-same : goal.returns-then-size-state-clause-same
returns-then-size-state-clause-same g c m shares =
    let hash = g.H.Hash32.hash in
    let is_hash : IsHash hash = (g.met.H.Hash32 g.world.𝓛 g.world.𝓜 g.world.𝓡 ((λ s x. x), (λ x. x), (λ x. x), (λ x. x))).digest_length in
    let P = program_of c.args.code.now in
    let nodes = nodes_in c.args.self.now.store in
    let v = meant.version_at m.versions c.args.number in
    let h = version_stands hash P c.args.self.now m shares c.args.number c.requires.there c.index-version.result.now c.index-version.ensures in
    let size = c.shallow_size-size.ensures.size (ProverNodes (digest_at hash P)) P.types P.state v h in
    let kept = long hash is_hash (program_in c.args.code.now) nodes c.index-version.result.now v h c.shallow_size-size.result size in
    other_bytes (meant.state_spelling hash P v) c.args.state.now
    (λ (e : meant.state_spelling hash P v ≡ c.args.state.now). let same = ap (λ (bytes : List ℕ). length bytes) e in omega (arith, kept, same))

pub returns-then-is_other-clause-same : goal.returns-then-is_other-clause-same
returns-then-is_other-clause-same g c m shares =
    let hash = g.H.Hash32.hash in
    let P = program_of c.args.code.now in
    let v = meant.version_at m.versions c.args.number in
    let other = c.is_other.ensures c.if-is_other.true in
    other_bytes (meant.state_spelling hash P v) c.args.state.now
    (λ (e : meant.state_spelling hash P v ≡ c.args.state.now). other.2 ((shares.marks c.args.number other.0 other.1).1 ∙ ap mark_of e ∙ sym c.requires.mark))

pub version_spelling-requires-after_bounds : goal.version_spelling-requires-after_bounds
version_spelling-requires-after_bounds g c κs within =
    let hash = g.H.Hash32.hash in
    let P = program_of c.args.code.now in
    let m = c.requires.shares.0 in
    (meant.version_at m.versions c.args.number, version_stands hash P c.args.self.now m c.requires.shares.1 c.args.number c.requires.there c.index-version.result.now c.index-version.ensures)

pub returns-then-eq-clause-same : goal.returns-then-eq-clause-same
returns-then-eq-clause-same g c m shares =
    let hash = g.H.Hash32.hash in
    let P = program_of c.args.code.now in
    let v = meant.version_at m.versions c.args.number in
    let spelled = c.in_ok-spelling.ensures v (version_stands hash P c.args.self.now m shares c.args.number c.requires.there c.index-version.result.now c.index-version.ensures) in
    sym c.if-eq.true ∙ c.eq.ensures ∙ ap (λ (bytes : List ℕ). bytes_eq bytes c.args.state.now) (c.as_bytes.ensures ∙ spelled)

pub returns-in_err-note-clause-shares : goal.returns-in_err-note-clause-shares
returns-in_err-note-clause-shares g c m shares =
    let hash = g.H.Hash32.hash in
    let P = program_of c.args.code.now in
    let v = meant.version_at m.versions c.args.number in
    let counted = versions_counted hash P c.args.self.now m shares in
    let there = c.requires.there in
    let spelled = c.in_ok-spelling.ensures v (version_stands hash P c.args.self.now m shares c.args.number there c.index-version.result.now c.index-version.ensures) in
    record {
      limit = shares.limit;
      versions = shares.versions;
      commits = shares.commits;
      marks =
          noted hash P c.args.self.now.marks c.note.new.self m.versions c.args.number c.of.result (omega (arith, counted, there))
          (c.of.ensures ∙ ap mark_of (c.as_bytes-2.ensures ∙ spelled)) c.note.ensures.within shares.marks;
    }

pub returns-clause-same : goal.returns-clause-same
returns-clause-same g c m shares =
    let hash = g.H.Hash32.hash in
    let P = program_of c.args.code.now in
    let v = meant.version_at m.versions c.args.number in
    let spelled = c.in_ok-spelling.ensures v (version_stands hash P c.args.self.now m shares c.args.number c.requires.there c.index-version.result.now c.index-version.ensures) in
    sym c.if-eq.false ∙ c.eq.ensures ∙ ap (λ (bytes : List ℕ). bytes_eq bytes c.args.state.now) (c.as_bytes.ensures ∙ spelled)

pub returns-clause-shares : goal.returns-clause-shares
returns-clause-shares g c m shares =
    let hash = g.H.Hash32.hash in
    let P = program_of c.args.code.now in
    let v = meant.version_at m.versions c.args.number in
    let counted = versions_counted hash P c.args.self.now m shares in
    let there = c.requires.there in
    let spelled = c.in_ok-spelling.ensures v (version_stands hash P c.args.self.now m shares c.args.number there c.index-version.result.now c.index-version.ensures) in
    record {
      limit = shares.limit;
      versions = shares.versions;
      commits = shares.commits;
      marks =
          noted hash P c.args.self.now.marks c.note.new.self m.versions c.args.number c.of.result (omega (arith, counted, there))
          (c.of.ensures ∙ ap mark_of (c.as_bytes-2.ensures ∙ spelled)) c.note.ensures.within shares.marks;
    }
