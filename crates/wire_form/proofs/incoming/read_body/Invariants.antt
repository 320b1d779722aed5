use Rattle.std.proofs.Common.{◌≡◌, ◌≤◌, ◌-◌, ℕ, List, Some, length}
use Rattle.std.specs.Io.KnownBytes.{append_known, prepend_known}
use Rattle.lam_outside.specs.LinkSteps.{AtEachRead, WaitsWithin}
use Rattle.wire_form.proofs.incoming.read_body.Given as goal

abbrev pub invariant-loop-chunk : goal.invariant-loop-chunk
invariant-loop-chunk g l = record {
  within : length l.body.items ≤ l.len;
  came : g.L.Source.left l.fn.link ≡ prepend_known l.body.items (g.L.Source.left l.link);
  given : g.L.Source.given l.link ≡ append_known (g.L.Source.given l.fn.link) l.body.items;
  waits : (bytes : List ℕ) → g.L.Source.left l.fn.link ≡ Some bytes → AtEachRead (WaitsWithin l.len bytes (g.L.Source.sent l.fn.link)) (g.L.Source.reads l.fn.link) (g.L.Source.reads l.link);
  sent : g.L.Source.sent l.link ≡ g.L.Source.sent l.fn.link;
  beyond : g.L.Link.beyond l.link ≡ g.L.Link.beyond l.fn.link;
  faults : g.L.Source.faults l.link ≡ g.L.Source.faults l.fn.link;
}

abbrev pub decreases-loop-chunk : goal.decreases-loop-chunk
decreases-loop-chunk g l = l.len - length l.body.items
