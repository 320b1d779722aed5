-- How `ask` ends, once the words and the files are in order: by the link that was made and the replies that came on it, by what could be written,
-- and by whether the state told last could be stored.
use Rattle.std.specs.Prelude.{◌≡◌, ◌⊎◌, ℕ, List, [], ◌∷◌, ◌++◌, codes, Option, Some, None, unwrap_or, Result, Ok, Err, IfErr}
use Rattle.std.specs.List.{AllByRecursion}
use Rattle.std.specs.Option.{ForSome}
use Rattle.sha2.specs.Sha256.{sha256}
use Rattle.ask_script.specs.Scripts.{Steps, UserStep, script_of}
use Rattle.command_words.specs.declared.command.Command.TheVariants.{Ask}
use Rattle.lam_outside.specs.Causes.{Rose}
use Rattle.lam_outside.specs.Links.{Linked}
use Rattle.lam_outside.specs.Told.{Contents, Stores, AddsStores}
use Rattle.printed_lines.specs.Lines.{link_fault_line}
use Rattle.script_play.specs.PlayRuns.{TellsTruth}
use Rattle.script_play.specs.Halting.{BreaksAt}
use Rattle.script_play.specs.Playing.{PlaysAs, world}
use Rattle.script_play.specs.Plays.{Play, play}
use Rattle.script_play.specs.Prompt.{IsPromptOn}
use Rattle.script_play.specs.declared.play_stop.PlayStop.{PlayStop}
use Rattle.script_play.specs.declared.play_stop.PlayStop.TheVariants as play_stop
use Rattle.session_meaning.specs.Client.{new_client}
use Rattle.session_meaning.specs.Messages.{Messages, Reply, messages, reply_of}
use Rattle.command_parts.specs.Answer.{Asking, answer_with, with_asking}
use Rattle.command_parts.specs.AnswerForms.{Answer}
use Rattle.command_parts.specs.Ending.{EndsAs}
use Rattle.command_parts.specs.Outsides.{Outside}
use Rattle.command_parts.specs.FueledRoles.{NamedProgram}
use Rattle.net_commands.specs.NetFaults.{NetFaults}
use Rattle.net_commands.specs.OnlineRuns.{NetSeen}
use Rattle.net_commands.specs.ToldNumbers.{TellsPort}
use Rattle.command_parts.specs.FilePrograms.{IsOfTextOrObject}
use Rattle.command_parts.specs.Telling.{TellsText}
use Rattle.command_parts.specs.declared.status.Status.{Status}
use Rattle.command_parts.specs.declared.status.Status.TheVariants.{Done, Rejected, ReadFault, WriteFault, NoMemory}
use Rattle.link_ends.specs.MoreLinks.{bytes_on}

-- PLAYS
-- what playing the script does, where these replies come: a client without sessions is asked what the script's lines say
abbrev pub asked_play : Asking → Messages Reply → Play
asked_play a ms = let p = a.program.digested in play sha256 p.program p.digest a.state a.steps new_client ms

-- Whatever replies come, whoever sends them, what is told is true: wherever a session begins with the spelling of the projection of an ideal state,
-- each outcome that it is told is the projection of the ideal one, up to the first proof that shows a collision of SHA-256 at a named place.
abbrev pub TellsTrueOutcomes : Asking → Type 0
TellsTrueOutcomes a = let p = a.program.digested in (ms : Messages Reply) → let told = asked_play a ms in TellsTruth sha256 p.program p.digest ms told.coming told.deeds

-- How a play ended: the script was played to its end; or what was told last, the link, the sink or the want of memory ended it before.
abbrev pub PlayEnd : Type 0
PlayEnd = Result (Unit {0}) PlayStop

-- Where the links behind the play are told, those before it are, and there is one more, to the port. On the bytes that came on it the play was
-- played as far as its end says: what was sent on the link, what was written by now, and the state that was told last, where one was. Where the link
-- failed, all was done that is played on the bytes that came until then, up to a request that wasn't sent whole, or to a reply that hadn't come whole;
-- and where the sink failed, up to a line that wasn't written whole, and fewer bytes would not have done.
-- At each read what is played of the bytes that were taken by then had been sent, and no more, and a reply was waited for.
pub record IsPlayedOn (a : Asking) (end : PlayEnd) (links : Option (List Linked)) (after : List Linked) (written written' last : Option (List ℕ)) : Type 0 where
  pub before : List Linked
  pub link : Linked
  pub told : links ≡ Some before
  pub all : after ≡ before ++ link ∷ []
  pub at_port : link.port ≡ a.port
  pub plays : PlaysAs a.program.digested.program a.program.names (λ c. Unit {0}) (Some link.left) (world (Some []) written None)
      (world (Some link.sent) written' last) (asked_play a (messages reply_of (bytes_on link))) end
  pub halts : IfErr end (BreaksAt a.program.digested.program a.program.names (world (Some []) written None) (world (Some link.sent) written' last) (asked_play a) link.given)
  pub prompt : AllByRecursion (IsPromptOn (bytes_on link) (Some []) (asked_play a)) link.reads

-- the counts: that of the links rose where the link failed, that of the sink where a line of the play could not be written
abbrev pub PlayFaults : PlayEnd → NetFaults → NetFaults → Type 0
PlayFaults (Err play_stop.LinkFault) faults faults' =
    Rose faults.links faults'.links × (faults'.listens ≡ faults.listens) × (faults'.accepts ≡ faults.accepts) × (faults'.dials ≡ faults.dials)
PlayFaults end faults faults' = faults' ≡ faults

abbrev pub PlayWrites : PlayEnd → (before now : ℕ) → Type 0
PlayWrites (Err play_stop.WriteFault) before now = Rose before now
PlayWrites end before now = now ≡ before

-- LINES
-- the status by the end of the play
abbrev pub play_status : PlayEnd → Status
play_status (Ok played) = Done
play_status (Err play_stop.Ended) = Rejected
play_status (Err play_stop.LinkFault) = ReadFault
play_status (Err play_stop.WriteFault) = WriteFault
play_status (Err play_stop.NoMemory) = NoMemory

-- How the end is told behind the lines of the play: that the link failed and that memory was wanting by a line, which may fail too; all else by
-- the status alone.
abbrev pub IsEndTold : PlayEnd → (told : Status) → (old new : Option (List ℕ)) → (before now : ℕ) → Type 0
IsEndTold (Err play_stop.LinkFault) told old new before now = TellsText ReadFault link_fault_line told old new before now
IsEndTold (Err play_stop.NoMemory) told old new before now = TellsText NoMemory (codes "no memory\n") told old new before now
IsEndTold end told old new before now = (told ≡ play_status end) × (new ≡ old) × (now ≡ before)

-- STORING
-- The bytes were handed to `store` under a name, whatever it answered; the status is the one before, but where it failed, and its count rose.
pub record IsStateStored (name state : List ℕ) (told ended : Status) (stores stores' : Option Stores) (before now : ℕ) : Type 0 where
  pub handed : AddsStores stores stores' ((name, state) ∷ [])
  pub ended_so : ((ended ≡ told) × (now ≡ before)) ⊎ ((ended ≡ WriteFault) × Rose before now)

-- ENDS
-- The port could not be dialled: no link was made, that is told, and nothing is stored.
pub record FailsToDial (old new : Outside) (net net' : NetSeen) (status : Status) : Type 0 where
  pub rose : Rose net.faults.dials net'.faults.dials
  pub of_links : net'.faults.links ≡ net.faults.links
  pub listens : net'.faults.listens ≡ net.faults.listens
  pub accepts : net'.faults.accepts ≡ net.faults.accepts
  pub links : net'.links ≡ net.links
  pub listened : net'.listened ≡ net.listened
  pub told : TellsText ReadFault link_fault_line status old.written new.written old.write_faults new.write_faults
  pub stores : new.stores ≡ old.stores
  pub store_faults : new.store_faults ≡ old.store_faults
  pub reads : new.read_faults ≡ old.read_faults

-- The script was played on a link, how that ended was told, and the state told last was stored however it ended: the one at which sessions are
-- opened, where no other was told.
pub record EndsPlay (a : Asking) (name : List ℕ) (old new : Outside) (net net' : NetSeen) (status : Status) : Type 0 where
  pub end : PlayEnd
  pub last : Option (List ℕ)
  pub written : Option (List ℕ)
  pub write_faults : ℕ
  pub told : Status
  pub played : ForSome net'.links (λ after. IsPlayedOn a end net.links after old.written written last)
  pub faults : PlayFaults end net.faults net'.faults
  pub writes : PlayWrites end old.write_faults write_faults
  pub is_told : IsEndTold end told written new.written write_faults new.write_faults
  pub stored : IsStateStored name (unwrap_or last a.state) told status old.stores new.stores old.store_faults new.store_faults
  pub listened : net'.listened ≡ net.listened
  pub reads : new.read_faults ≡ old.read_faults

abbrev pub EndsAsking : Asking → (name : List ℕ) → (old new : Outside) → (net net' : NetSeen) → Status → Type 0
EndsAsking a name old new net net' status = FailsToDial old new net net' status ⊎ EndsPlay a name old new net net' status

-- The texts behind the command and the files mean to ask this, and to store the state told last under this name.
abbrev pub MeansAsking : List (List ℕ) → Contents → Asking → (name : List ℕ) → Type 0
MeansAsking (program ∷ state ∷ port ∷ script ∷ out ∷ []) files a name =
    (name ≡ out) × ((go : Asking → Option Answer) → with_asking program state port script files go ≡ go a)
MeansAsking texts files a name = ⊥

-- the steps are those of a script for the program
abbrev pub IsOfScript : NamedProgram → List UserStep → Type 0
IsOfScript p steps = (script : List ℕ) × (script_of p.digested.program p.names script ≡ Steps steps)

-- What is asked has its sources, whatever the files tell: the program is that of a text or of an accepted object, and the steps are those of a
-- script for it.
pub record IsOfSources (a : Asking) : Type 0 where
  pub program : IsOfTextOrObject a.program.digested.program
  pub script : IsOfScript a.program a.steps

-- The texts behind the command call for this to be asked, and for the state told last to be stored under this name: it is what they and the files
-- mean, where the contents are told.
pub record CallsAsk (texts : List (List ℕ)) (contents : Option Contents) (a : Asking) (name : List ℕ) : Type 0 where
  pub means : ForSome contents (λ files. MeansAsking texts files a name)
  pub of_sources : IsOfSources a

-- And, whatever the files tell: the port is the one that the texts tell, and the name is the last text.
abbrev pub IsOfWords : List (List ℕ) → Asking → (name : List ℕ) → Type 0
IsOfWords (program ∷ state ∷ port ∷ script ∷ out ∷ []) a name = (name ≡ out) × TellsPort port a.port
IsOfWords texts a name = ⊥

-- a run that came to dial
pub record IsAsking (texts : List (List ℕ)) (old new : Outside) (net net' : NetSeen) (status : Status) : Type 0 where
  pub asking : Asking
  pub name : List ℕ
  pub calls : CallsAsk texts old.contents asking name
  pub of_words : IsOfWords texts asking name
  pub ends : EndsAsking asking name old new net net' status

-- A run of `ask` with these texts behind the command: it ended as one does that answers without a link, and left the net as it was; or it came
-- to dial.
abbrev pub IsAsk : (texts : List (List ℕ)) → (old new : Outside) → (net net' : NetSeen) → Status → Type 0
IsAsk texts old new net net' status = (EndsAs (answer_with Ask texts) old new status × (net' ≡ net)) ⊎ IsAsking texts old new net net' status
