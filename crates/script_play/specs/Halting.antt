-- What is played of the bytes that come on a link, whatever would come behind them; and where a link or a sink that fails breaks a play off.
use Rattle.std.specs.Prelude.{◌≡◌, ◌⊎◌, ℕ, ◌<◌, List, [], ◌∷◌, ◌++◌, length, take, Option, Some, ⊤}
use Rattle.std.specs.Io.KnownBytes.{append_known}
use Rattle.core_terms.specs.Terms.{Program}
use Rattle.printed_syntax.specs.Literals.{ConstructorNames}
use Rattle.session_meaning.specs.Messages.{AtEnd, IsCut, Messages, NoMore, Reply, Stop, messages, reply_of, request_bytes}
use Rattle.script_play.specs.DeedLines.{deed_bytes}
use Rattle.script_play.specs.Playing.{FailsAtLine, World, done}
use Rattle.script_play.specs.Plays.{Deed, Play, Sends, Stops, Tells, behind}
use Rattle.script_play.specs.declared.play_stop.PlayStop.{PlayStop}
use Rattle.script_play.specs.declared.play_stop.PlayStop.TheVariants.{Ended, LinkFault, WriteFault, NoMemory}

-- A link may keep a deed from being done where it is a request, of which fewer bytes were sent than it has; or where a reply is
-- waited for, and of the bytes that came none can be read: there are none, or they end inside of a message.
abbrev pub IsUnmet : Deed → (sent : ℕ) → Type 0
IsUnmet (Sends request) sent = sent < length (request_bytes request)
IsUnmet (Tells session called answer) sent = ⊥
IsUnmet (Stops stop) sent = (stop ≡ AtEnd) ⊎ (stop ≡ IsCut)

-- These deeds stop inside of those in front, or right behind them: no more replies can be read.
pub record StopsWithin (front deeds : List Deed) : Type 0 where
  pub before : List Deed
  pub more : List Deed
  pub stop : Stop
  pub behind : List Deed
  pub within : front ≡ before ++ more
  pub parted : deeds ≡ before ++ Stops stop ∷ behind

-- Without the last one of these bytes a play stops where these deeds have not all been done, or right behind them.
abbrev pub IsLeast : (Messages Reply → Play) → (taken : List ℕ) → (front : List Deed) → Type 0
IsLeast plays taken front = (before : List ℕ) (last : ℕ) → taken ≡ before ++ last ∷ [] → StopsWithin front (plays (messages reply_of before)).deeds

module _ (P : Program) (names : ConstructorNames) where
  -- The deeds in front are done, and the next one is kept from it by the link.
  pub record HaltsAt (w w' : World) (deeds : List Deed) : Type 0 where
    pub front : List Deed
    pub next : Deed
    pub left : List Deed
    pub parted : deeds ≡ front ++ next ∷ left
    pub count : ℕ
    pub unmet : IsUnmet next count
    pub sent : w'.sent ≡ append_known (done P names w front).sent (take count (deed_bytes next))
    pub written : w'.written ≡ (done P names w front).written
    pub last : w'.last ≡ (done P names w front).last

  -- Of the bytes that were taken all is done that is played of them, up to a line of which a front was written; and fewer bytes would not have done.
  pub record FailsAt (w w' : World) (plays : Messages Reply → Play) (taken : List ℕ) : Type 0 where
    pub fails : FailsAtLine P names w w' (plays (messages reply_of taken)).deeds
    pub least : IsLeast plays taken fails.front

  -- Where the link or the sink broke a play off, of which these bytes were taken. Of an end that was told and of want of memory nothing is said here.
  abbrev pub BreaksAt : (w w' : World) → (Messages Reply → Play) → (taken : List ℕ) → PlayStop → Type 0
  BreaksAt w w' plays taken LinkFault = HaltsAt w w' (plays (messages reply_of taken)).deeds
  BreaksAt w w' plays taken WriteFault = FailsAt w w' plays taken
  BreaksAt w w' plays taken Ended = ⊤
  BreaksAt w w' plays taken NoMemory = ⊤

-- none can be read of the bytes that were taken
pub record TakesNone (bytes : List ℕ) (left' : Option (List ℕ)) : Type 0 where
  pub taken : List ℕ
  pub rest : List ℕ
  pub parted : bytes ≡ taken ++ rest
  pub left : left' ≡ Some rest
  pub stop : Stop
  pub short : (stop ≡ AtEnd) ⊎ (stop ≡ IsCut)
  pub are_none : messages reply_of taken ≡ NoMore stop
