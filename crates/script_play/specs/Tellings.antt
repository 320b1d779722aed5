-- What is found of an answer before it is told.
use Rattle.std.specs.Prelude.{◌≡◌, ℕ, Bool, true, false, List, [], ◌∷◌, Option, Some, None, Result, Ok, Err, Vec}
use Rattle.std.specs.declared.alloc.Global.{Global}
use Rattle.core_terms.specs.Formats.{Hash}
use Rattle.core_terms.specs.Roles.{Role}
use Rattle.core_terms.specs.Terms.{Kind, Update, Program}
use Rattle.core_terms.specs.Types.{Ty}
use Rattle.core_terms.specs.declared.outcome.Outcome.TheVariants as told
use Rattle.core_terms.specs.declared.roles.RoleKind.{RoleKind}
use Rattle.core_terms.specs.declared.roles.RoleKind.TheVariants as role_kind
use Rattle.ideal_meaning.specs.Ideal.{Outcome, Done}
use Rattle.printed_syntax.specs.Literals.{ConstructorNames}
use Rattle.session_meaning.specs.Client as meant
use Rattle.session_meaning.specs.Messages.{Messages, Reply, Stop, AtEnd, IsCut, TooLong, BadMessage}
use Rattle.wire_form.specs.declared.message.ReadStop.{ReadStop}
use Rattle.wire_form.specs.declared.message.ReadStop.TheVariants as stop
use Rattle.ask_core.specs.Answers.{fault_told}
use Rattle.ask_core.specs.Replies.{IsAnswer, called_type}
use Rattle.ask_core.specs.Sessions.{IsCalledRole}
use Rattle.session_meaning.specs.Waiting.{called_in}
use Rattle.ask_core.specs.declared.seen.CalledRole.{CalledRole}
use Rattle.ask_core.specs.declared.told.AskFault.{AskFault}
use Rattle.ask_core.specs.declared.told.Told.{Told}
use Rattle.ask_core.specs.declared.told.Told.TheVariants.{Outcome as TellsOutcome}
use Rattle.script_play.specs.DeedLines.{deed_bytes, stop_line}
use Rattle.script_play.specs.Plays.{Deed, behind, goes_behind, if_goes, rests}
use Rattle.script_play.specs.Playing.{AreComing}
use Rattle.script_play.specs.PlayingInCode.{IsTelling, take_one}
use Rattle.script_play.specs.declared.play_stop.PlayStop.{PlayStop}
use Rattle.script_play.specs.declared.play_stop.PlayStop.TheVariants.{Ended, LinkFault, WriteFault, NoMemory}
use Rattle.script_play.specs.declared.telling.Telling.{Telling}

-- an outcome is told
abbrev pub is_outcome : Result Told AskFault → Bool
is_outcome (Ok (TellsOutcome outcome)) = true
is_outcome told = false

abbrev pub is_update : RoleKind → Bool
is_update role_kind.Update = true
is_update kind = false

-- an outcome of a role of this kind makes a state
abbrev pub makes : Kind → Outcome → Bool
makes Update (Done v) = true
makes kind o = false

abbrev pub makes_state : Role → meant.Answer → Bool
makes_state called (meant.Tells o) = makes called.kind o
makes_state called answer = false

abbrev pub state_if : Bool → Option (List ℕ) → Option (List ℕ)
state_if true state = state
state_if false state = None

-- the same of what is told: it is that a call is done, of an update
abbrev pub told_done : Result Told AskFault → Bool
told_done (Ok (TellsOutcome (told.Done bytes))) = true
told_done result = false

abbrev pub called_updates : Option CalledRole → Bool
called_updates (Some called) = is_update called.kind
called_updates None = false

-- whether the script goes on behind it
abbrev pub told_goes : Result Told AskFault → Bool
told_goes (Ok told) = true
told_goes (Err fault) = goes_behind (fault_told fault)

-- This is what is told of an answer, whatever it is, of a session that stood so.
abbrev pub OfAnswer : List Ty → Program → Option CalledRole → Result Told AskFault → (Role → meant.Answer → Type 0) → Type 0
OfAnswer types P called told Q =
    (found : Option meant.Standing) (answer : meant.Answer) → IsCalledRole types P found called → IsAnswer P (called_type P found) answer told → Q (called_in P found) answer

-- why no more replies are read; where the link failed or memory was wanting nothing is told
abbrev pub IsStop : ReadStop → Stop → Type 0
IsStop stop.End st = st ≡ AtEnd
IsStop stop.Cut st = st ≡ IsCut
IsStop (stop.TooLong len) st = st ≡ TooLong len
IsStop (stop.BadMessage kind offset) st = st ≡ BadMessage kind offset
IsStop stop.LinkFault st = ⊥
IsStop stop.NoMemory st = ⊥

abbrev pub IsStopLine : ReadStop → Result (Vec ℕ Global) PlayStop → Type 0
IsStopLine s (Ok line) = (st : Stop) × IsStop s st × (line.items ≡ stop_line st)
IsStopLine s (Err LinkFault) = s ≡ stop.LinkFault
IsStopLine s (Err NoMemory) = (s ≡ stop.LinkFault) → ⊥
IsStopLine s (Err Ended) = ⊥
IsStopLine s (Err WriteFault) = ⊥

-- the same of what is told, behind which the script doesn't go on
abbrev pub IsStopTold : ReadStop → Result Telling PlayStop → Type 0
IsStopTold s (Ok telling) = (st : Stop) × IsStop s st × (telling.line.items ≡ stop_line st) × (telling.made ≡ None) × (telling.goes_on ≡ false)
IsStopTold s (Err LinkFault) = s ≡ stop.LinkFault
IsStopTold s (Err NoMemory) = (s ≡ stop.LinkFault) → ⊥
IsStopTold s (Err Ended) = ⊥
IsStopTold s (Err WriteFault) = ⊥

-- The next of the replies is taken so, and this is told of it.
pub record IsNext (hash : Hash) (P : Program) (names : ConstructorNames) (own : List ℕ) (Is : meant.Client → Type 0) (left' : Option (List ℕ))
    (c : meant.Client) (ms : Messages Reply) (telling : Telling) : Type 0 where
  pub deed : Deed
  pub goes : Bool
  pub later : meant.Client
  pub coming : Messages Reply
  pub takes : take_one hash P own c ms ≡ behind (deed ∷ []) (if_goes goes later coming rests)
  pub silent : deed_bytes deed ≡ []
  pub tells : IsTelling P names deed goes telling
  pub stands : goes ≡ true → Is later
  pub comes : goes ≡ true → AreComing left' coming
