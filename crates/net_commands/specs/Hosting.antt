-- How `host` ends: by the journal with which it begins, by the links that were made and what came on them, by what could be written, and by what the
-- journal keeps in the end.
use Rattle.std.specs.Prelude.{◌≡◌, ◌⊎◌, ◌≤◌, ◌<◌, ◌^◌, ℕ, List, [], ◌∷◌, ◌++◌, length, take, Option, None, ⊤}
use Rattle.std.specs.List.{AllByRecursion}
use Rattle.std.specs.Option.{ForSome}
use Rattle.std.specs.Io.KnownBytes.{append_known}
use Rattle.lam_outside.specs.Causes.{Rose}
use Rattle.images.specs.Images.{Root, image_of}
use Rattle.lam_outside.specs.Disks.{Moments}
use Rattle.lam_outside.specs.Links.{Linked}
use Rattle.lam_outside.specs.Told.{Contents}
use Rattle.printed_lines.specs.Lines.{listening_line}
use Rattle.session_meaning.specs.Begun.{IsBegun}
use Rattle.session_meaning.specs.Calls.{RoleCall}
use Rattle.session_meaning.specs.Server.{Server, version_at}
use Rattle.session_meaning.specs.Beginnings.{IsFront}
use Rattle.version_journal.specs.Gates.{AtLast, LeavesOnly, Passed}
use Rattle.version_journal.specs.Journals.{SpellsJournal}
use Rattle.command_parts.specs.Answer.{Serving, serving_of, with_serving_numbers}
use Rattle.command_parts.specs.FileInputs.{with_program_file}
use Rattle.command_parts.specs.AnswerForms.{Answer}
use Rattle.command_parts.specs.Ending.{EndsAs}
use Rattle.command_parts.specs.Outsides.{Outside}
use Rattle.command_parts.specs.declared.status.Status.{Status}
use Rattle.command_parts.specs.declared.status.Status.TheVariants.{WriteFault}
use Rattle.journal_commands.specs.DisksSeen.{DiskSeen, FromChosen, WritesNothing, file_in, file_on, with_disk}
use Rattle.journal_commands.specs.JournalAnswers.{with_journal}
use Rattle.net_commands.specs.Courses.{AreLinesTold, Course, WithoutMemory}
use Rattle.net_commands.specs.OnlineRuns.{NetSeen}
use Rattle.net_commands.specs.ToldNumbers.{TellNumbers, numbers_served}
use Rattle.net_commands.specs.Serving.{HasGone, course_lines}

-- JOURNALS
-- the journal keeps these commits: all that were told, and none but those that were made
abbrev pub AreKept : List RoleCall → (told made : List RoleCall) → Type 0
AreKept kept told made = IsFront told kept × IsFront kept made

-- an image of the first version with which the serving begins, for which a journal has room
pub record IsFirstImage (s : Serving) (image : List ℕ) : Type 0 where
  pub fits : length image < 2 ^ 32
  pub is : image_of s.program.program s.program.digest image ≡ Root (version_at s.begun.versions 0)

module _ (s : Serving) (server : Server) (kept : List RoleCall) (image : List ℕ) where
  -- The bytes are a journal of the image and of the server's first commits, so many. What such a journal gives is told by the law `ServedJournalsAreReadBack` of journals.
  abbrev pub KeepsFirst : ℕ → List ℕ → Type 0
  KeepsFirst n bytes = SpellsJournal s.program.digest image (take n server.shared.commits) bytes

  -- a crash leaves a journal of the commits with which the serving began, and of the first of those that it keeps
  abbrev pub LeavesFirst : List ℕ → Type 0
  LeavesFirst left = (n : ℕ) × (length s.begun.commits ≤ n) × (n ≤ length kept) × KeepsFirst n left

  -- or one of all of them and of one record more
  abbrev pub LeavesMore : List ℕ → Type 0
  LeavesMore left = LeavesFirst left ⊎ ((call : RoleCall) × SpellsJournal s.program.digest image (take (length kept) server.shared.commits ++ call ∷ []) left)

-- So it was at each moment since the journal was chosen, and the file reads as a journal of all that is kept. Where the disk failed, or memory was wanting
-- to append a record, that record may be left since then.
pub record KeepsJournal (s : Serving) (server : Server) (kept : List RoleCall) (old now : Moments) : Type 0 where
  pub image : List ℕ
  pub is_image : IsFirstImage s image
  pub sound : Moments
  pub each : Passed (LeavesOnly (LeavesFirst s server kept image)) old sound
  pub since : Passed (LeavesOnly (LeavesMore s server kept image)) sound now
  pub reads : AtLast (λ file. KeepsFirst s server kept image (length kept) file.reads) now

-- COURSES
-- How the hosting went: as a serving does; or it was stopped since the disk could not be written as commits were to be kept.
pub data HostCourse : Type 0 where
  Goes : (course : Course) → HostCourse
  NotKept : HostCourse

-- as to the links: where commits were not kept, the serving is stopped as where memory is wanting
abbrev pub links_course : HostCourse → Course
links_course (Goes course) = course
links_course NotKept = WithoutMemory

-- all commits that were made are kept, unless the serving was stopped
abbrev pub KeepsAll : HostCourse → (kept made : List RoleCall) → Type 0
KeepsAll (Goes WithoutMemory) kept made = ⊤
KeepsAll NotKept kept made = ⊤
KeepsAll (Goes course) kept made = kept ≡ made

-- what is said where serving was not stopped, and where it was if the links are told
abbrev pub IfStoppedTold : HostCourse → Option (List Linked) → Type 0 → Type 0
IfStoppedTold (Goes WithoutMemory) links P = ForSome links (λ after. P)
IfStoppedTold NotKept links P = ForSome links (λ after. P)
IfStoppedTold (Goes course) links P = P

-- the counts of the disk: that of writes rose where commits were not kept
abbrev pub DiskFails : HostCourse → (disk disk' : DiskSeen) → Type 0
DiskFails (Goes course) disk disk' = (disk'.read_faults ≡ disk.read_faults) × (disk'.write_faults ≡ disk.write_faults)
DiskFails NotKept disk disk' = (disk'.read_faults ≡ disk.read_faults) × Rose disk.write_faults disk'.write_faults

-- The lines of the course were told, with its status. Where commits were not kept, the line that stands before the links was, and no other.
abbrev pub IsHostTold : Serving → HostCourse → Server → Status → (old new : Option (List ℕ)) → (before now : ℕ) → Type 0
IsHostTold s (Goes course) server ended old new before now = AreLinesTold s.port course (course_lines s course server) ended old new before now
IsHostTold s NotKept server ended old new before now = (ended ≡ WriteFault) × (new ≡ append_known old (listening_line s.port)) × (now ≡ before)

-- ENDS
-- How a hosting ends. On the links was sent what the server sends that began with what the journal kept, and of this nothing before the commits were
-- kept that it tells; these are what the journal keeps.
pub record EndsHosting (s : Serving) (journal : List ℕ) (old new : Outside) (net net' : NetSeen) (disk disk' : DiskSeen) (status : Status) : Type 0 where
  pub course : HostCourse
  pub server : Server
  pub kept : List RoleCall
  pub gone : HasGone (AreKept kept) s net net' (links_course course) server
  pub all : KeepsAll course kept server.shared.commits
  pub keeps : IfStoppedTold course net'.links (FromChosen journal disk disk' (KeepsJournal s server kept))
  pub fails : DiskFails course disk disk'
  pub told : IsHostTold s course server status old.written new.written old.write_faults new.write_faults
  pub stores : new.stores ≡ old.stores
  pub store_faults : new.store_faults ≡ old.store_faults
  pub reads : new.read_faults ≡ old.read_faults

-- Goes on with what the words and the files mean to host, by the bytes of the journal: the program's file, the numbers from left to right, and then the
-- journal are judged.
abbrev pub with_hosting : (program port links slice : List ℕ) → (journal : List ℕ) → Contents → (Serving → Option Answer) → Option Answer
with_hosting program port links slice journal files go =
    with_program_file (files program) (λ p.
    with_serving_numbers port links slice (λ numbers.
    with_journal p.digested journal (λ kept. go (serving_of p.digested numbers kept))))

-- The texts behind the command, the files and the disk's files mean to host this, with the journal of this name.
abbrev pub MeansHosting : List (List ℕ) → Contents → (on_disk : Option Contents) → Serving → (name : List ℕ) → Type 0
MeansHosting (program ∷ journal ∷ port ∷ links ∷ slice ∷ []) files on_disk s name =
    (name ≡ journal) × ((go : Serving → Option Answer) → with_hosting program port links slice (file_in on_disk journal) files go ≡ go s)
MeansHosting texts files on_disk s name = ⊥

-- And, whatever is told: the numbers are those that the texts tell, and the journal is the one of this name.
abbrev pub IsOfHostWords : List (List ℕ) → Serving → (name : List ℕ) → Type 0
IsOfHostWords (program ∷ journal ∷ port ∷ links ∷ slice ∷ []) s name = (name ≡ journal) × TellNumbers port links slice (numbers_served s)
IsOfHostWords texts s name = ⊥

-- a run that came to listen, with versions and commits with which a server may begin
pub record IsHosting (texts : List (List ℕ)) (old new : Outside) (net net' : NetSeen) (disk disk' : DiskSeen) (status : Status) : Type 0 where
  pub serving : Serving
  pub name : List ℕ
  pub means : ForSome disk.contents (λ on_disk. ForSome old.contents (λ files. MeansHosting texts files disk.contents serving name))
  pub of_words : IsOfHostWords texts serving name
  pub begun : IsBegun serving.program.program serving.begun
  pub ends : EndsHosting serving name old new net net' disk disk' status

-- a run that answers without a link: nothing was written on the disk
abbrev pub EndsUnhosted : List (List ℕ) → (old new : Outside) → (disk disk' : DiskSeen) → Status → Type 0
EndsUnhosted (program ∷ journal ∷ port ∷ links ∷ slice ∷ []) old new disk disk' status =
    EndsAs (λ files. with_hosting program port links slice (file_on disk journal) files (λ s. None)) (with_disk disk old) (with_disk disk' new) status
    × WritesNothing journal disk disk'
EndsUnhosted texts old new disk disk' status = ⊥

-- A run of `host` with these texts behind the command: it ended as one does that answers without a link, and left the net as it was; or it came to
-- listen.
abbrev pub IsHost : (texts : List (List ℕ)) → (old new : Outside) → (net net' : NetSeen) → (disk disk' : DiskSeen) → Status → Type 0
IsHost texts old new net net' disk disk' status =
    (EndsUnhosted texts old new disk disk' status × (net' ≡ net)) ⊎ IsHosting texts old new net net' disk disk' status
