-- How `mirror` ends, once the words and the mirror are in order: by the links that were made and what came on them, and by what could be written.
use Rattle.std.specs.Prelude.{◌≡◌, ◌⊎◌, ◌≤◌, ℕ, Bool, List, [], ◌∷◌, length, codes, Option}
use Rattle.std.specs.Option.{ForSome}
use Rattle.sha2.specs.Sha256.{sha256}
use Rattle.command_words.specs.declared.command.Command.TheVariants.{Mirror}
use Rattle.ideal_meaning.specs.Fetched.{Got}
use Rattle.lam_outside.specs.Links.{Linked}
use Rattle.lam_outside.specs.Told.{Contents}
use Rattle.mirror_links.specs.AnsweredLinks.{AreAnswered, AreAnsweredInPart}
use Rattle.piece_mirror.specs.Answers.{given_by}
use Rattle.printed_lines.specs.Lines.{link_fault_line, listening_line}
use Rattle.command_parts.specs.Answer.{Mirroring, answer_with, with_mirroring}
use Rattle.command_parts.specs.AnswerForms.{Answer}
use Rattle.command_parts.specs.Ending.{EndsAs}
use Rattle.command_parts.specs.Outsides.{Outside}
use Rattle.net_commands.specs.Courses.{AreLinesTold, AreMade, Course, HasCourse, NotListening, NotWritten, Served, WithoutMemory, fault_lines}
use Rattle.net_commands.specs.OnlineRuns.{NetSeen}
use Rattle.net_commands.specs.ToldNumbers.{TellMirrorNumbers}
use Rattle.command_parts.specs.declared.status.Status.{Status}

-- LINKS
-- what the mirror answers to a digest: its first piece that has it
abbrev pub answers_of : Mirroring → List ℕ → Got
answers_of m = given_by sha256 m.pieces

-- On these links the mirror answered, and one of them or an `accept` failed or none did, as the course says; or on the last one memory was wanting.
abbrev pub AnswersOn : Mirroring → Course → (made : List Linked) → (accepts accepts' : ℕ) → Type 0
AnswersOn m NotListening made accepts accepts' = made ≡ []
AnswersOn m NotWritten made accepts accepts' = made ≡ []
AnswersOn m (Served faulted) made accepts accepts' =
    (some_faulted : Bool) × AreAnswered (answers_of m) made some_faulted × AreMade m.links made some_faulted faulted accepts accepts'
AnswersOn m WithoutMemory made accepts accepts' = (length made ≤ m.links) × AreAnsweredInPart (answers_of m) made

-- it went so
abbrev pub HasMirrored : Mirroring → (net net' : NetSeen) → Course → Type 0
HasMirrored m net net' course = HasCourse (AnswersOn m) m.port net net' course

-- LINES
abbrev pub mirroring_lines : (port : ℕ) → Course → List (List ℕ)
mirroring_lines port NotListening = link_fault_line ∷ []
mirroring_lines port NotWritten = listening_line port ∷ []
mirroring_lines port (Served faulted) = listening_line port ∷ fault_lines faulted
mirroring_lines port WithoutMemory = listening_line port ∷ codes "no memory\n" ∷ []

abbrev pub IsMirroringTold : (port : ℕ) → Course → Status → (old new : Option (List ℕ)) → (before now : ℕ) → Type 0
IsMirroringTold port course told old new before now = AreLinesTold port course (mirroring_lines port course) told old new before now

-- ENDS
-- How it ends: its course, and what is written of it. No file is stored, and none is read any more.
pub record EndsMirroring (m : Mirroring) (old new : Outside) (net net' : NetSeen) (status : Status) : Type 0 where
  pub course : Course
  pub gone : HasMirrored m net net' course
  pub told : IsMirroringTold m.port course status old.written new.written old.write_faults new.write_faults
  pub stores : new.stores ≡ old.stores
  pub store_faults : new.store_faults ≡ old.store_faults
  pub reads : new.read_faults ≡ old.read_faults

-- The texts behind the command and the files mean this mirror.
abbrev pub MeansMirroring : List (List ℕ) → Contents → Mirroring → Type 0
MeansMirroring (mirror ∷ port ∷ links ∷ []) files m = (go : Mirroring → Option Answer) → with_mirroring mirror port links files go ≡ go m
MeansMirroring texts files m = ⊥

-- And, whatever the files tell: the port and the number of links are those that the texts tell.
abbrev pub IsOfWords : List (List ℕ) → Mirroring → Type 0
IsOfWords (mirror ∷ port ∷ links ∷ []) m = TellMirrorNumbers port links m.port m.links
IsOfWords texts m = ⊥

-- a run that came to listen
pub record IsMirroring (texts : List (List ℕ)) (old new : Outside) (net net' : NetSeen) (status : Status) : Type 0 where
  pub mirroring : Mirroring
  pub means : ForSome old.contents (λ files. MeansMirroring texts files mirroring)
  pub of_words : IsOfWords texts mirroring
  pub ends : EndsMirroring mirroring old new net net' status

-- A run of `mirror` with these texts behind the command: it ended as one does that answers without a link, and left the net as it was; or it came
-- to listen.
abbrev pub IsMirror : (texts : List (List ℕ)) → (old new : Outside) → (net net' : NetSeen) → Status → Type 0
IsMirror texts old new net net' status = (EndsAs (answer_with Mirror texts) old new status × (net' ≡ net)) ⊎ IsMirroring texts old new net net' status
