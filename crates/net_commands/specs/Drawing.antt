-- How `draw` ends, once the words and the files are in order: by the link that was made and the answers that came on it, and by what could be
-- written.
use Rattle.std.specs.Prelude.{◌≡◌, ◌⊎◌, ℕ, true, List, [], ◌∷◌, ◌++◌, codes, Option, Some}
use Rattle.std.specs.List.{concat}
use Rattle.std.specs.Option.{ForSome}
use Rattle.sha2.specs.Sha256.{sha256}
use Rattle.command_words.specs.declared.command.Command.TheVariants.{Draw}
use Rattle.core_terms.specs.Projection.{projection}
use Rattle.core_terms.specs.Roles.{argument_type, role_named}
use Rattle.core_terms.specs.Spelling.{spelling}
use Rattle.core_terms.specs.Values.{Value, IsIdeal}
use Rattle.ideal_meaning.specs.Checked.{Verdict, Accepted}
use Rattle.ideal_meaning.specs.Fetched.{Answered, Got, TrueFromOrSplit, answered, fetched, asking, verdict_from}
use Rattle.ideal_meaning.specs.Frames.{offered_pieces}
use Rattle.ideal_meaning.specs.Headline.{call_values}
use Rattle.ideal_meaning.specs.Ideal.{Outcome}
use Rattle.ideal_meaning.specs.Run.{state_of}
use Rattle.lam_outside.specs.Causes.{Rose}
use Rattle.lam_outside.specs.Links.{Linked}
use Rattle.lam_outside.specs.Told.{Contents}
use Rattle.link_ends.specs.MoreLinks.{bytes_on}
use Rattle.printed_lines.specs.Lines.{link_fault_line}
use Rattle.session_meaning.specs.FetchMessages.{LinkAnswers}
use Rattle.command_parts.specs.Answer.{Drawing, answer_with, with_drawing}
use Rattle.command_parts.specs.AcceptedAnswers.{shallow_told}
use Rattle.command_parts.specs.RoleInputs.{RoleCall}
use Rattle.command_parts.specs.AnswerForms.{Answer}
use Rattle.command_parts.specs.RefusedAnswers.{verdict_answer}
use Rattle.command_parts.specs.Arguments.{fuel_of}
use Rattle.command_parts.specs.Ending.{EndsAs}
use Rattle.command_parts.specs.Outsides.{Outside}
use Rattle.command_parts.specs.RoleCalls.{is_called, kind_called, program_called, result_called}
use Rattle.command_parts.specs.FilePrograms.{IsOfTextOrObject}
use Rattle.command_parts.specs.Telling.{TellsText}
use Rattle.command_parts.specs.declared.status.Status.{Status}
use Rattle.command_parts.specs.declared.status.Status.TheVariants.{NoMemory, ReadFault}
use Rattle.command_parts.specs.declared.roles.Callee.TheVariants.{OfState}
use Rattle.net_commands.specs.Asking.{FailsToDial}
use Rattle.net_commands.specs.OnlineRuns.{NetSeen}
use Rattle.net_commands.specs.ToldNumbers.{TellsPort}

-- VERDICTS
-- the verdict on a call over these answers, in the order in which they came
abbrev pub verdict_on : RoleCall → List Got → Verdict
verdict_on call answers =
    let r = call.role in
    let P = program_called r in
    verdict_from sha256 P (argument_type P r.role) r.role call.state call.argument r.fuel answers

-- Whatever is answered, whoever answers: what is accepted is true. Of whatever ideal state and argument these are the spellings in projection, the
-- pieces that were answered begin with the honest ones and the outcome is the projection of the ideal one, or the first piece that differs from the
-- honest one has its SHA-256 digest, and its place is named.
abbrev pub DrawsTrueOutcomes : RoleCall → Type 0
DrawsTrueOutcomes call =
    let r = call.role in
    let P = program_called r in
    let t = argument_type P r.role in
    (state argument : Value) → IsIdeal P.types P.state state → IsIdeal P.types t argument
    → call.state ≡ spelling (projection sha256 P P.state state) → call.argument ≡ spelling (projection sha256 P t argument)
    → (answers : List Got) (o : Outcome) → verdict_on call answers ≡ Accepted o
    → TrueFromOrSplit sha256 P r.role (result_called r) (call_values state argument) r.fuel (offered_pieces (answered answers))
    (offered_pieces (state_of (fetched sha256 P r.role (call_values (projection sha256 P P.state state) (projection sha256 P t argument)) r.fuel (asking answers))).more) o

-- LINKS
-- Where the links behind it are told, those before it are, and there is one more, to the port.
pub record IsDialled (port : ℕ) (links : Option (List Linked)) (after : List Linked) (link : Linked) : Type 0 where
  pub before : List Linked
  pub told : links ≡ Some before
  pub all : after ≡ before ++ link ∷ []
  pub at_port : link.port ≡ port

-- On it these answers were given, each to the digest then held, up to the end of the run with this verdict: each was asked for by one message, and was
-- the next one of the bytes that came.
pub record IsDrawnOn (port : ℕ) (links : Option (List Linked)) (after : List Linked) (answers : List Got) (verdict : Verdict) : Type 0 where
  pub link : Linked
  pub dialled : IsDialled port links after link
  pub given : Answered sha256 LinkAnswers (record { left = bytes_on link; sent = [] }) answers verdict (record { left = link.left; sent = link.sent })

-- ENDS
-- what is answered for a verdict
abbrev pub drawn_answer : Drawing → Verdict → Answer
drawn_answer d verdict = verdict_answer (shallow_told d.call.role) verdict

-- The call was judged over some answers, those that came on the link where it is told, and the verdict was told, by one line; no count of the net rose.
pub record IsJudged (d : Drawing) (old new : Outside) (net net' : NetSeen) (status : Status) : Type 0 where
  pub answers : List Got
  pub verdict : Verdict
  pub is : verdict_on d.call answers ≡ verdict
  pub drawn : ForSome net'.links (λ after. IsDrawnOn d.port net.links after answers verdict)
  pub told : let a = drawn_answer d verdict in TellsText a.status (concat a.lines) status old.written new.written old.write_faults new.write_faults
  pub faults : net'.faults ≡ net.faults

-- The link failed, and its count of faults rose.
pub record BreaksOff (d : Drawing) (old new : Outside) (net net' : NetSeen) (status : Status) : Type 0 where
  pub made : ForSome net'.links (λ after. (link : Linked) × IsDialled d.port net.links after link)
  pub told : TellsText ReadFault link_fault_line status old.written new.written old.write_faults new.write_faults
  pub rose : Rose net.faults.links net'.faults.links
  pub listens : net'.faults.listens ≡ net.faults.listens
  pub accepts : net'.faults.accepts ≡ net.faults.accepts
  pub dials : net'.faults.dials ≡ net.faults.dials

-- Memory was wanting, for a piece, the run or the line of the outcome.
pub record LacksMemory (d : Drawing) (old new : Outside) (net net' : NetSeen) (status : Status) : Type 0 where
  pub made : ForSome net'.links (λ after. (link : Linked) × IsDialled d.port net.links after link)
  pub told : TellsText NoMemory (codes "no memory\n") status old.written new.written old.write_faults new.write_faults
  pub faults : net'.faults ≡ net.faults

-- The port was dialled, and so it went on. No file is stored, and none is read any more; nothing is listened to.
pub record EndsDrawing (d : Drawing) (old new : Outside) (net net' : NetSeen) (status : Status) : Type 0 where
  pub went : IsJudged d old new net net' status ⊎ (BreaksOff d old new net net' status ⊎ LacksMemory d old new net net' status)
  pub listened : net'.listened ≡ net.listened
  pub stores : new.stores ≡ old.stores
  pub store_faults : new.store_faults ≡ old.store_faults
  pub reads : new.read_faults ≡ old.read_faults

-- The port was dialled, or could not be.
abbrev pub EndsDialled : Drawing → (old new : Outside) → (net net' : NetSeen) → Status → Type 0
EndsDialled d old new net net' status = FailsToDial old new net net' status ⊎ EndsDrawing d old new net net' status

-- The texts behind the command and the files mean this call.
abbrev pub MeansDrawing : List (List ℕ) → Contents → Drawing → Type 0
MeansDrawing (program ∷ role ∷ state ∷ argument ∷ fuel ∷ port ∷ []) files d =
    (go : Drawing → Option Answer) → with_drawing program role state argument fuel port files go ≡ go d
MeansDrawing texts files d = ⊥

-- the texts tell the name of the role, its fuel and the port
abbrev pub IsOfWords : List (List ℕ) → Drawing → Type 0
IsOfWords (program ∷ role ∷ state ∷ argument ∷ fuel ∷ port ∷ []) d =
    (role_named (program_called d.call.role) role ≡ Some d.call.role.role) × (fuel_of fuel ≡ Some d.call.role.fuel) × TellsPort port d.port
IsOfWords texts d = ⊥

-- And, whatever the files tell: the program is that of a text or of an accepted object, the role is the one of its roles that the texts name, and
-- reads a state, and the fuel and the port are those that the texts tell.
pub record IsOfSources (texts : List (List ℕ)) (d : Drawing) : Type 0 where
  pub program : IsOfTextOrObject (program_called d.call.role)
  pub called : is_called OfState (kind_called d.call.role) ≡ true
  pub words : IsOfWords texts d

-- The texts behind the command call for this to be judged: it is what they and the files mean, where the contents are told.
pub record CallsDraw (texts : List (List ℕ)) (contents : Option Contents) (d : Drawing) : Type 0 where
  pub means : ForSome contents (λ files. MeansDrawing texts files d)
  pub of_sources : IsOfSources texts d

-- a run that came to dial
pub record IsDrawing (texts : List (List ℕ)) (old new : Outside) (net net' : NetSeen) (status : Status) : Type 0 where
  pub drawing : Drawing
  pub calls : CallsDraw texts old.contents drawing
  pub ends : EndsDialled drawing old new net net' status

-- A run of `draw` with these texts behind the command: it ended as one does that answers without a link, and left the net as it was; or it came
-- to dial.
abbrev pub IsDraw : (texts : List (List ℕ)) → (old new : Outside) → (net net' : NetSeen) → Status → Type 0
IsDraw texts old new net net' status = (EndsAs (answer_with Draw texts) old new status × (net' ≡ net)) ⊎ IsDrawing texts old new net net' status
