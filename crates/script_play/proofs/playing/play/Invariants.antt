use Rattle.std.proofs.Common.{◌≡◌, ℕ, List, Some, drop, map}
use Rattle.mode_vm.specs.Meanings.{program_of}
use Rattle.session_meaning.specs.Client.{Client}
use Rattle.session_meaning.specs.Messages.{Messages, Reply}
use Rattle.lam_outside.specs.LinkSteps.{AtEachRead}
use Rattle.wire_form.specs.MovedBytes.{Moves}
use Rattle.ask_core.specs.Sessions.{StandsFor, StandsForSome}
use Rattle.ask_script.specs.ScriptAnswers.{step_meant}
use Rattle.script_play.specs.HaltingInCode.{TakesSoFar}
use Rattle.script_play.specs.Plays.{play}
use Rattle.script_play.specs.Playing.{AreComing, world}
use Rattle.script_play.specs.PlayingInCode.{names_of, own_of}
use Rattle.script_play.specs.Prompt.{IsPromptOn}
use Rattle.script_play.proofs.Worlds.{SoFar}
use Rattle.script_play.proofs.playing.play.Given as goal

-- the lines so far are played, and those behind them go on
abbrev pub invariant-loop-step : goal.invariant-loop-step
invariant-loop-step g l = record {
  known : StandsForSome l.core;
  code : l.core.code ≡ l.fn.core.code;
  moves : Moves (g.L.Source.given l.fn.link) (g.L.Source.left l.fn.link) (g.L.Source.given l.link) (g.L.Source.left l.link);
  beyond : g.L.Link.beyond l.link ≡ g.L.Link.beyond l.fn.link;
  faults : g.L.Source.faults l.link ≡ g.L.Source.faults l.fn.link;
  sink : g.O.Sink.faults l.out ≡ g.O.Sink.faults l.fn.out;
  far : (m : Client) (ms : Messages Reply) → StandsFor l.fn.core m → AreComing (g.L.Source.left l.fn.link) ms
      → SoFar (program_of l.fn.core.code) (names_of l.fn.core.code)
      (play g.H.Hash32.hash (program_of l.fn.core.code) (own_of l.fn.core.code) l.state (map step_meant l.steps) m ms)
      (play g.H.Hash32.hash (program_of l.fn.core.code) (own_of l.fn.core.code) l.state (map step_meant (drop l.step-index l.steps)))
      (StandsFor l.core) (g.L.Source.left l.link)
      (world (g.L.Source.sent l.fn.link) (g.O.Sink.written l.fn.out) l.fn.last) (world (g.L.Source.sent l.link) (g.O.Sink.written l.out) l.last);
  far_to : (m : Client) (bytes : List ℕ) → StandsFor l.fn.core m → g.L.Source.left l.fn.link ≡ Some bytes
      → TakesSoFar (program_of l.fn.core.code) (names_of l.fn.core.code) (StandsFor l.core) bytes (g.L.Source.left l.link)
      (world (g.L.Source.sent l.fn.link) (g.O.Sink.written l.fn.out) l.fn.last) (world (g.L.Source.sent l.link) (g.O.Sink.written l.out) l.last)
      (play g.H.Hash32.hash (program_of l.fn.core.code) (own_of l.fn.core.code) l.state (map step_meant l.steps) m)
      (play g.H.Hash32.hash (program_of l.fn.core.code) (own_of l.fn.core.code) l.state (map step_meant (drop l.step-index l.steps)));
  prompt : (m : Client) (bytes : List ℕ) → StandsFor l.fn.core m → g.L.Source.left l.fn.link ≡ Some bytes
      → AtEachRead (IsPromptOn bytes (g.L.Source.sent l.fn.link) (play g.H.Hash32.hash (program_of l.fn.core.code) (own_of l.fn.core.code) l.state (map step_meant l.steps) m))
      (g.L.Source.reads l.fn.link) (g.L.Source.reads l.link);
}
