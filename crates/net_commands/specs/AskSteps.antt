-- The steps of `ask` on the link that was made: what they leave, and how much of it was told.
use Rattle.std.specs.Prelude.{◌≡◌, ℕ, List, Option, Some, None, unwrap_or, Err, IfErr}
use Rattle.lam_outside.specs.Causes.{Rose}
use Rattle.script_play.specs.HaltingInCode.{BreaksOn}
use Rattle.script_play.specs.Playing.{PlaysAs, world}
use Rattle.script_play.specs.declared.play_stop.PlayStop.TheVariants as play_stop
use Rattle.session_meaning.specs.Messages.{messages, reply_of}
use Rattle.command_parts.specs.Answer.{Asking}
use Rattle.net_commands.specs.Asking.{IsEndTold, IsStateStored, PlayEnd, PlayWrites, asked_play}
use Rattle.command_parts.specs.Outsides.{Outside}
use Rattle.command_parts.specs.declared.status.Status.{Status}

-- The play was played on a link on which these bytes come, as far as its end says.
abbrev pub IsPlayedFrom : Asking → PlayEnd → (left left' sent sent' written written' last : Option (List ℕ)) → Type 0
IsPlayedFrom a end left left' sent sent' written written' last = (bytes : List ℕ) → left ≡ Some bytes
    → PlaysAs a.program.digested.program a.program.names (λ c. Unit {0}) left' (world sent written None) (world sent' written' last) (asked_play a (messages reply_of bytes)) end

-- The same of the bytes that were taken of these, where the link or the sink failed.
abbrev pub IsHaltedFrom : Asking → PlayEnd → (left left' sent sent' written written' last : Option (List ℕ)) → Type 0
IsHaltedFrom a end left left' sent sent' written written' last = (bytes : List ℕ) → left ≡ Some bytes
    → IfErr end (BreaksOn a.program.digested.program a.program.names bytes left' (world sent written None) (world sent' written' last) (asked_play a))

-- the count of the link's faults
abbrev pub PlayLinks : PlayEnd → (before now : ℕ) → Type 0
PlayLinks (Err play_stop.LinkFault) before now = Rose before now
PlayLinks end before now = now ≡ before

-- The play was played, how that ended was told, and the state told last was stored.
pub record PlaysAndStores (a : Asking) (name : List ℕ) (old new : Outside) (left left' sent sent' : Option (List ℕ)) (links links' : ℕ) (status : Status) : Type 0 where
  pub end : PlayEnd
  pub last : Option (List ℕ)
  pub written : Option (List ℕ)
  pub write_faults : ℕ
  pub told : Status
  pub plays : IsPlayedFrom a end left left' sent sent' old.written written last
  pub halts : IsHaltedFrom a end left left' sent sent' old.written written last
  pub link_faults : PlayLinks end links links'
  pub writes : PlayWrites end old.write_faults write_faults
  pub is_told : IsEndTold end told written new.written write_faults new.write_faults
  pub stored : IsStateStored name (unwrap_or last a.state) told status old.stores new.stores old.store_faults new.store_faults
  pub reads : new.read_faults ≡ old.read_faults
