-- What a play had sent by the time at which it waits for a reply.
use Rattle.std.specs.Prelude.{◌≡◌, ◌⊎◌, ℕ, List, ◌∷◌, ◌++◌, Option, Some}
use Rattle.std.specs.Io.KnownBytes.{append_known}
use Rattle.lam_outside.specs.Moments.{Moment}
use Rattle.session_meaning.specs.Messages.{AtEnd, IsCut, Messages, Reply, Stop, messages, reply_of}
use Rattle.script_play.specs.DeedLines.{bytes_sent}
use Rattle.script_play.specs.Halting.{TakesNone}
use Rattle.script_play.specs.Plays.{Deed, Play, Stops}

-- A reply is waited for: of those that were taken of these bytes none can be read yet, and no more had been sent than this.
abbrev pub WaitsForReply : List ℕ → Option (List ℕ) → Moment → Type 0
WaitsForReply bytes sent moment = (moment.sent ≡ sent) × TakesNone bytes moment.left

-- Of these deeds those in front had been done, as far as they send; and then a reply is waited for, of which no byte has come, or not all.
pub record IsAwaitedAt (before sent : Option (List ℕ)) (deeds : List Deed) : Type 0 where
  pub front : List Deed
  pub stop : Stop
  pub short : (stop ≡ AtEnd) ⊎ (stop ≡ IsCut)
  pub behind : List Deed
  pub parted : deeds ≡ front ++ Stops stop ∷ behind
  pub sent_is : sent ≡ append_known before (bytes_sent front)

-- On a link on which these bytes come, what is played of those that had been taken by then had been sent, behind this, and no more, up to where
-- it waits for a reply.
pub record IsPromptOn (bytes : List ℕ) (before : Option (List ℕ)) (plays : Messages Reply → Play) (moment : Moment) : Type 0 where
  pub taken : List ℕ
  pub rest : List ℕ
  pub parted : bytes ≡ taken ++ rest
  pub left : moment.left ≡ Some rest
  pub awaits : IsAwaitedAt before moment.sent (plays (messages reply_of taken)).deeds
