-- How `serve` ends, once the words and the files are in order: by the links that were made and what came on them, by what could be written, and
-- by how the last version was stored.
use Rattle.std.specs.Prelude.{◌≡◌, ◌⊎◌, ◌≤◌, ◌<◌, ◌-◌, ℕ, Bool, List, [], ◌∷◌, ◌++◌, length, codes, Option}
use Rattle.std.specs.List.{concat}
use Rattle.std.specs.Option.{ForSome}
use Rattle.std.specs.Io.KnownBytes.{append_known}
use Rattle.sha2.specs.Sha256.{sha256}
use Rattle.command_words.specs.declared.command.Command.TheVariants.{Serve}
use Rattle.core_terms.specs.Limits.{most_file_bytes}
use Rattle.core_terms.specs.Values.{Value}
use Rattle.lam_outside.specs.Causes.{Rose}
use Rattle.lam_outside.specs.Links.{Linked}
use Rattle.lam_outside.specs.Told.{Contents, Stores, AddsStores}
use Rattle.printed_lines.specs.Lines.{link_fault_line, listening_line, refusal_line, versions_line}
use Rattle.printed_lines.specs.declared.refusal.Argument.TheVariants as named
use Rattle.printed_lines.specs.declared.refusal.InputFault.TheVariants.{TooLong}
use Rattle.printed_lines.specs.declared.refusal.Refusal.TheVariants as refusal
use Rattle.serve_links.specs.Connections.{AnyKept}
use Rattle.serve_links.specs.ServedLinks.{AreServed, AreServedInPart}
use Rattle.session_meaning.specs.Calls.{RoleCall}
use Rattle.session_meaning.specs.Server.{Server, begun_server, last_turn, version_at}
use Rattle.command_parts.specs.Answer.{Serving, answer_with, with_serving}
use Rattle.command_parts.specs.OutcomeAnswers.{state_image}
use Rattle.command_parts.specs.AnswerForms.{Answer}
use Rattle.command_parts.specs.Ending.{EndsAs}
use Rattle.command_parts.specs.Outsides.{Outside}
use Rattle.net_commands.specs.Courses.{AreMade, Course, HasCourse, IsListening, NotListening, NotWritten, Served, WithoutMemory, WritesFront, course_status, fault_lines, greeting_of}
use Rattle.net_commands.specs.OnlineRuns.{NetSeen}
use Rattle.net_commands.specs.ToldNumbers.{TellNumbers, numbers_served}
use Rattle.command_parts.specs.declared.status.Status.{Status}
use Rattle.command_parts.specs.declared.status.Status.TheVariants.{Done, InputRefused, ReadFault, WriteFault, NoMemory}

-- LINKS
-- the server before its first connection
abbrev pub first_server : Serving → Server
first_server s = begun_server s.begun

-- `Kept` says how commits are kept where the serving is stopped: those that were told, and all that were made.
module _ (Kept : (told made : List RoleCall) → Type 0) where
  -- The first server served these links, one after another, each by the server that the one before it left, whether one of them ended in a link
  -- fault; and it left this server. `AreServedLacking` are they up to the last one, on which the serving was stopped.
  abbrev pub AreServedOn : Serving → List Linked → (faulted : Bool) → Server → Type 0
  AreServedOn s made faulted server = AreServed sha256 s.program.program s.program.digest (last_turn s.slice) Kept (first_server s) made faulted server

  abbrev pub AreServedLacking : Serving → List Linked → Server → Type 0
  AreServedLacking s made server = AreServedInPart sha256 s.program.program s.program.digest (last_turn s.slice) Kept (first_server s) made server

-- COURSES
module _ (Kept : (told made : List RoleCall) → Type 0) where
  -- These links were made and served, and left this server.
  abbrev pub MakesLinks : Serving → Course → (made : List Linked) → (accepts accepts' : ℕ) → Server → Type 0
  MakesLinks s NotListening made accepts accepts' server = (made ≡ []) × (server ≡ first_server s)
  MakesLinks s NotWritten made accepts accepts' server = (made ≡ []) × (server ≡ first_server s)
  MakesLinks s (Served faulted) made accepts accepts' server =
      (some_faulted : Bool) × AreServedOn Kept s made some_faulted server × AreMade s.links made some_faulted faulted accepts accepts'
  MakesLinks s WithoutMemory made accepts accepts' server =
      (length made ≤ s.links) × (((some_faulted : Bool) × AreServedOn Kept s made some_faulted server) ⊎ AreServedLacking Kept s made server)

  -- The serving went so, and left this server.
  abbrev pub HasGone : Serving → (net net' : NetSeen) → Course → Server → Type 0
  HasGone s net net' course server = HasCourse (λ course made accepts accepts'. MakesLinks s course made accepts accepts' server) s.port net net' course

-- LINES
-- the line of so many versions and commits, and behind it that of a fault; and those that the server has
abbrev pub count_lines : (versions commits : ℕ) → (faulted : Bool) → List (List ℕ)
count_lines versions commits faulted = versions_line versions commits ∷ fault_lines faulted

abbrev pub server_lines : Server → (faulted : Bool) → List (List ℕ)
server_lines server faulted = count_lines (length server.shared.versions) (length server.shared.commits) faulted

-- the lines that are to be written before the last version is stored, as they arise, and the status that stands then
abbrev pub course_lines : Serving → Course → Server → List (List ℕ)
course_lines s NotListening server = link_fault_line ∷ []
course_lines s NotWritten server = listening_line s.port ∷ []
course_lines s (Served faulted) server = listening_line s.port ∷ server_lines server faulted
course_lines s WithoutMemory server = listening_line s.port ∷ codes "no memory\n" ∷ []

-- STORING
-- How the image of the last version was stored: `store` took it, or failed; it was too long to be stored; or memory was wanting for it.
pub data Storage : Type 0 where
  IsStored StoreFails IsTooLong LacksMemory : Storage

-- the last version that the server has, and its image
abbrev pub last_version : Server → Value
last_version server = version_at server.shared.versions (length server.shared.versions - 1)

abbrev pub last_image : Serving → Server → List ℕ
last_image s server = state_image s.program (last_version server)

-- The image was stored so under a name: `store` is handed it, whatever it answers, where the image is no longer than a file may be and memory is
-- found, and else nothing. Its count of faults rose where it failed.
abbrev pub IsStoredBy : Storage → (image name : List ℕ) → (stores stores' : Option Stores) → (before now : ℕ) → Type 0
IsStoredBy IsStored image name stores stores' before now = (length image ≤ most_file_bytes) × AddsStores stores stores' ((name, image) ∷ []) × (now ≡ before)
IsStoredBy StoreFails image name stores stores' before now = (length image ≤ most_file_bytes) × AddsStores stores stores' ((name, image) ∷ []) × Rose before now
IsStoredBy IsTooLong image name stores stores' before now = (most_file_bytes < length image) × AddsStores stores stores' [] × (now ≡ before)
IsStoredBy LacksMemory image name stores stores' before now = AddsStores stores stores' [] × (now ≡ before)

-- the line that follows where this was the status before, and the status at the end: no line follows a fault or the want of memory
abbrev pub storage_lines : Storage → Status → List (List ℕ)
storage_lines IsTooLong Done = refusal_line (refusal.Input (TooLong named.Out)) ∷ []
storage_lines LacksMemory Done = codes "no memory\n" ∷ []
storage_lines storage status = []

abbrev pub storage_status : Storage → Status → Status
storage_status StoreFails status = WriteFault
storage_status IsTooLong Done = InputRefused
storage_status LacksMemory Done = NoMemory
storage_status LacksMemory ReadFault = NoMemory
storage_status storage status = status

-- ENDS
-- the text of all lines
abbrev pub serving_text : Serving → Course → Server → Storage → List ℕ
serving_text s course server storage = concat (course_lines s course server ++ storage_lines storage (course_status course))

-- All lines were written, the sink's count stayed, and the status is that of the course and of the storing.
pub record TellsWhole (s : Serving) (course : Course) (server : Server) (storage : Storage) (old new : Outside) (ended : Status) : Type 0 where
  pub listening : IsListening course
  pub status : ended ≡ storage_status storage (course_status course)
  pub written : new.written ≡ append_known old.written (serving_text s course server storage)
  pub writes : new.write_faults ≡ old.write_faults

-- The sink failed, and a front of their text was written; where links were made, the line that stands before them is in it.
pub record TellsPart (s : Serving) (course : Course) (server : Server) (storage : Storage) (old new : Outside) (ended : Status) : Type 0 where
  pub status : ended ≡ WriteFault
  pub part : WritesFront (length (greeting_of s.port course)) old.written new.written (serving_text s course server storage)
  pub rose : Rose old.write_faults new.write_faults

-- How a serving ends. Its course and its server, what is written of them, and the last version, which is stored however it ended.
pub record EndsServing (s : Serving) (name : List ℕ) (old new : Outside) (net net' : NetSeen) (status : Status) : Type 0 where
  pub course : Course
  pub server : Server
  pub storage : Storage
  pub gone : HasGone AnyKept s net net' course server
  pub told : TellsWhole s course server storage old new status ⊎ TellsPart s course server storage old new status
  pub stored : IsStoredBy storage (last_image s server) name old.stores new.stores old.store_faults new.store_faults
  pub reads : new.read_faults ≡ old.read_faults

-- The texts behind the command and the files mean to serve this, and to store the last version under this name.
abbrev pub MeansServing : List (List ℕ) → Contents → Serving → (name : List ℕ) → Type 0
MeansServing (program ∷ image ∷ port ∷ links ∷ slice ∷ out ∷ []) files s name =
    (name ≡ out) × ((go : Serving → Option Answer) → with_serving program image port links slice files go ≡ go s)
MeansServing texts files s name = ⊥

-- And, whatever the files tell: the port, the number of links and the slice are those that the texts tell, and the name is the last text.
abbrev pub IsOfWords : List (List ℕ) → Serving → (name : List ℕ) → Type 0
IsOfWords (program ∷ image ∷ port ∷ links ∷ slice ∷ out ∷ []) s name = (name ≡ out) × TellNumbers port links slice (numbers_served s)
IsOfWords texts s name = ⊥

-- a run that came to listen
pub record IsServing (texts : List (List ℕ)) (old new : Outside) (net net' : NetSeen) (status : Status) : Type 0 where
  pub serving : Serving
  pub name : List ℕ
  pub means : ForSome old.contents (λ files. MeansServing texts files serving name)
  pub of_words : IsOfWords texts serving name
  pub ends : EndsServing serving name old new net net' status

-- A run of `serve` with these texts behind the command: it ended as one does that answers without a link, and left the net as it was; or it came
-- to listen.
abbrev pub IsServe : (texts : List (List ℕ)) → (old new : Outside) → (net net' : NetSeen) → Status → Type 0
IsServe texts old new net net' status = (EndsAs (answer_with Serve texts) old new status × (net' ≡ net)) ⊎ IsServing texts old new net net' status
