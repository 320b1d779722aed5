use Rattle.std.proofs.Common.{◌≡◌}
use Rattle.std.specs.Option.{ForSome}
use Rattle.lam_outside.specs.LinkSteps.{AtEachRead}
use Rattle.piece_mirror.specs.Answers.{given_by}
use Rattle.piece_mirror.specs.Tables.{bytes_of}
use Rattle.wire_form.specs.MovedBytes.{Moves}
use Rattle.mirror_links.specs.Prompt.{IsPrompt}
use Rattle.mirror_links.proofs.SoFar.{IsSoFar}
use Rattle.mirror_links.proofs.connection.answer_link.Given as goal

abbrev pub invariant-loop : goal.invariant-loop
invariant-loop g l = record {
  answered : ForSome (g.L.Source.left l.fn.link) (λ bytes.
      IsSoFar (given_by g.H.Hash32.hash (bytes_of l.fn.mirror.pieces)) l.counter bytes (g.L.Source.left l.link) (g.L.Source.sent l.fn.link) (g.L.Source.sent l.link));
  prompt : ForSome (g.L.Source.left l.fn.link) (λ bytes.
      AtEachRead (IsPrompt (given_by g.H.Hash32.hash (bytes_of l.fn.mirror.pieces)) bytes (g.L.Source.sent l.fn.link)) (g.L.Source.reads l.fn.link) (g.L.Source.reads l.link));
  moves : Moves (g.L.Source.given l.fn.link) (g.L.Source.left l.fn.link) (g.L.Source.given l.link) (g.L.Source.left l.link);
  beyond : g.L.Link.beyond l.link ≡ g.L.Link.beyond l.fn.link;
  faults : g.L.Source.faults l.link ≡ g.L.Source.faults l.fn.link;
}
