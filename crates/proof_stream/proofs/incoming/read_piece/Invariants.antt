use Rattle.std.proofs.Common.{◌≡◌, ◌≤◌, ◌-◌, length, take}
use Rattle.std.specs.Io.KnownBytes.{prepend_known}
use Rattle.proof_stream.proofs.incoming.read_piece.Given as goal

abbrev pub invariant-loop-start : goal.invariant-loop-start
invariant-loop-start g l = record {
  there : l.start ≤ length l.piece.items;
  within : length l.piece.items ≤ l.len;
  came : g.S.Source.left l.fn.source ≡ prepend_known (take l.start l.piece.items) (g.S.Source.left l.source);
  rest : g.S.Source.rest l.source ≡ g.S.Source.rest l.fn.source;
  faults : g.S.Source.faults l.source ≡ g.S.Source.faults l.fn.source;
}

abbrev pub decreases-loop-start : goal.decreases-loop-start
decreases-loop-start g l = l.len - l.start
