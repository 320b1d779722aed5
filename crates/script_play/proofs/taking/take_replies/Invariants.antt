use Rattle.std.proofs.Common.{◌≡◌, ℕ, List, Some}
use Rattle.mode_vm.specs.Meanings.{program_of}
use Rattle.session_meaning.specs.Client.{Client}
use Rattle.session_meaning.specs.Messages.{Messages, Reply}
use Rattle.wire_form.specs.MovedBytes.{Moves}
use Rattle.ask_core.specs.Sessions.{StandsFor, StandsForSome, sessions_waiting}
use Rattle.script_play.specs.HaltingInCode.{TakesSoFar}
use Rattle.script_play.specs.Plays.{take_replies}
use Rattle.script_play.specs.Playing.{AreComing, world}
use Rattle.script_play.specs.PlayingInCode.{names_of, own_of, waits_for}
use Rattle.lam_outside.specs.LinkSteps.{AtEachRead}
use Rattle.script_play.specs.Prompt.{IsPromptOn}
use Rattle.script_play.proofs.Worlds.{SoFar}
use Rattle.script_play.proofs.taking.take_replies.Given as goal

abbrev pub invariant-loop-alloc : goal.invariant-loop-alloc
invariant-loop-alloc g l = record {
  known : StandsForSome l.core;
  code : l.core.code ≡ l.fn.core.code;
  moves : Moves (g.L.Source.given l.fn.link) (g.L.Source.left l.fn.link) (g.L.Source.given l.link) (g.L.Source.left l.link);
  beyond : g.L.Link.beyond l.link ≡ g.L.Link.beyond l.fn.link;
  faults : g.L.Source.faults l.link ≡ g.L.Source.faults l.fn.link;
  sink : g.O.Sink.faults l.out ≡ g.O.Sink.faults l.fn.out;
  far : (m : Client) (ms : Messages Reply) → StandsFor l.fn.core m → AreComing (g.L.Source.left l.fn.link) ms
      → SoFar (program_of l.fn.core.code) (names_of l.fn.core.code)
      (take_replies g.H.Hash32.hash (program_of l.fn.core.code) (own_of l.fn.core.code) (waits_for l.fn.whose) m ms)
      (take_replies g.H.Hash32.hash (program_of l.fn.core.code) (own_of l.fn.core.code) (waits_for l.fn.whose))
      (StandsFor l.core) (g.L.Source.left l.link)
      (world (g.L.Source.sent l.fn.link) (g.O.Sink.written l.fn.out) l.fn.last) (world (g.L.Source.sent l.link) (g.O.Sink.written l.out) l.last);
  far_to : (m : Client) (bytes : List ℕ) → StandsFor l.fn.core m → g.L.Source.left l.fn.link ≡ Some bytes
      → TakesSoFar (program_of l.fn.core.code) (names_of l.fn.core.code) (StandsFor l.core) bytes (g.L.Source.left l.link)
      (world (g.L.Source.sent l.fn.link) (g.O.Sink.written l.fn.out) l.fn.last) (world (g.L.Source.sent l.link) (g.O.Sink.written l.out) l.last)
      (take_replies g.H.Hash32.hash (program_of l.fn.core.code) (own_of l.fn.core.code) (waits_for l.fn.whose) m)
      (take_replies g.H.Hash32.hash (program_of l.fn.core.code) (own_of l.fn.core.code) (waits_for l.fn.whose));
  prompt : (m : Client) (bytes : List ℕ) → StandsFor l.fn.core m → g.L.Source.left l.fn.link ≡ Some bytes
      → AtEachRead (IsPromptOn bytes (g.L.Source.sent l.fn.link) (take_replies g.H.Hash32.hash (program_of l.fn.core.code) (own_of l.fn.core.code) (waits_for l.fn.whose) m))
      (g.L.Source.reads l.fn.link) (g.L.Source.reads l.link);
}

abbrev pub decreases-loop-alloc : goal.decreases-loop-alloc
decreases-loop-alloc g l = sessions_waiting l.core
