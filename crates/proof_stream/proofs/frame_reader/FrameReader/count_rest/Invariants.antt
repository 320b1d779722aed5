use Rattle.std.proofs.Common.{◌≡◌, ◌≤◌, ◌-◌, ℕ, List, length}
use Rattle.std.specs.Io.KnownBytes.{prepend_known}
use Rattle.proof_stream.proofs.frame_reader.FrameReader.count_rest.Given as goal

abbrev pub invariant-loop-count : goal.invariant-loop-count
invariant-loop-count g l = record {
  within : l.count ≤ 65536;
  came : (taken : List ℕ) × (length taken ≡ l.count) × (g.S.Source.left l.fn.source ≡ prepend_known taken (g.S.Source.left l.source));
  rest : g.S.Source.rest l.source ≡ g.S.Source.rest l.fn.source;
  faults : g.S.Source.faults l.source ≡ g.S.Source.faults l.fn.source;
}

abbrev pub decreases-loop-count : goal.decreases-loop-count
decreases-loop-count g l = 65536 - l.count
