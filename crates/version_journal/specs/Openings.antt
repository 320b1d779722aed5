-- What a journal that is opened gives, and its fault.
use Rattle.std.specs.Prelude.{◌≡◌, ℕ, ◌<◌, ◌^◌, List, ◌∷◌, length, Result, Ok, Err, ⊤}
use Rattle.std.specs.List.{AllByRecursion}
use Rattle.core_terms.specs.Formats.{Hash}
use Rattle.core_terms.specs.Terms.{Program}
use Rattle.core_terms.specs.Values.{Value}
use Rattle.images.specs.Images.{Root, Refused, image_of}
use Rattle.images.specs.Images as image
use Rattle.images.specs.Loads.{TellsFault}
use Rattle.images.specs.declared.fault.ImageFault.{ImageFault}
use Rattle.images.specs.declared.fault.ImageFault.TheVariants.{NoMemory as NoImageMemory}
use Rattle.lam_outside.specs.Disks.{DiskFile, Moments}
use Rattle.session_meaning.specs.Begun.{IsBegun}
use Rattle.session_meaning.specs.Server as shared
use Rattle.session_meaning.specs.Within.{IsCallWithin}
use Rattle.session_turns.specs.Sharing.{Shares}
use Rattle.session_turns.specs.declared.shared.Shared.{Shared}
use Rattle.version_journal.specs.AtGates.{IsAt}
use Rattle.version_journal.specs.Gates.{AtLast, IsKept}
use Rattle.version_journal.specs.Journals.{Faulty, Holds, Journal, NoImage, SpellsJournal, journal_front, journal_of}
use Rattle.version_journal.specs.JournalLaws.{AreWritable}
use Rattle.version_journal.specs.Journals as meant
use Rattle.version_journal.specs.declared.fault.DiskCount.TheVariants.{Writes}
use Rattle.version_journal.specs.declared.fault.JournalFault.{JournalFault}
use Rattle.version_journal.specs.declared.fault.JournalFault.TheVariants.{NotEmpty, Magic, Cut, OtherProgram, Image, BadRecord, DiskFault, Failed, NoMemory}
use Rattle.version_journal.specs.declared.opening.Opened.{Opened}
use Rattle.version_journal.specs.declared.opening.Opening.{Opening}
use Rattle.version_journal.specs.Synced.{IsSynced}

-- The fault is one of which this holds; the want of memory is no fault of an image.
abbrev pub TellsImage : (image.ImageFault → Type 0) → ImageFault → Type 0
TellsImage Told NoImageMemory = ⊥
TellsImage Told fault = TellsFault Told fault

-- A journal answers that its image has this fault, but want of memory as its own.
abbrev pub Refuses : ImageFault → JournalFault → Type 0
Refuses NoImageMemory answer = answer ≡ NoMemory
Refuses fault answer = answer ≡ Image fault

-- What a journal answers where its image is refused. Where memory was wanting nothing is said.
abbrev pub RefusesSo : (image.ImageFault → Type 0) → JournalFault → Type 0
RefusesSo Told (Image fault) = TellsImage Told fault
RefusesSo Told NoMemory = ⊤
RefusesSo Told fault = ⊥

-- The fault is that of the journal. Where memory was wanting nothing is said.
abbrev pub TellsJournal : Journal → JournalFault → Type 0
TellsJournal journal Magic = journal ≡ Faulty meant.Magic
TellsJournal journal (Cut bytes) = journal ≡ Faulty (meant.Cut bytes)
TellsJournal journal OtherProgram = journal ≡ Faulty meant.OtherProgram
TellsJournal journal (Image fault) = TellsImage (λ f. journal ≡ Faulty (NoImage f)) fault
TellsJournal journal (BadRecord number) = journal ≡ Faulty (meant.BadRecord number)
TellsJournal journal NoMemory = ⊤
TellsJournal journal fault = ⊥

-- a fault that opening a journal may answer, whatever the disk tells
abbrev pub MayNotOpen : JournalFault → Type 0
MayNotOpen NotEmpty = ⊥
MayNotOpen Failed = ⊥
MayNotOpen fault = ⊤

module _ (hash : Hash) (P : Program) (own : List ℕ) where
  -- The image's value is shared, as the only version, without commits; or the image has this fault.
  abbrev pub IsFirst : (image : List ℕ) → Result Shared JournalFault → Type 0
  IsFirst image (Ok first) = (v : Value) × (image_of P own image ≡ Root v) × Shares hash P first (shared.new_server v).shared
  IsFirst image (Err fault) = RefusesSo (λ f. image_of P own image ≡ Refused f) fault

  -- The bytes hold these versions and commits, which are shared; the commits are calls that may be written and that a message may ask for, and make
  -- these versions; and the gate behind the commits' records is closed.
  pub record Opens (bytes : List ℕ) (opening : Opening) : Type 0 where
    pub image : List ℕ
    pub first : Value
    pub same : shared.Shared
    pub made : List Value
    pub is_image : image_of P own image ≡ Root first
    pub image_fits : length image < 2 ^ 32
    pub versions : same.versions ≡ first ∷ made
    pub written : AreWritable P first same.commits made
    pub asked : AllByRecursion (IsCallWithin P) same.commits
    pub holds : journal_of P own bytes ≡ Holds same.versions same.commits
    pub shares : Shares hash P opening.shared same
    pub spells : SpellsJournal own image same.commits bytes
    pub gate : opening.gate ≡ length (journal_front own image same.commits)
    pub records : opening.records ≡ length same.commits

  -- The bytes give that, or are refused for this fault.
  abbrev pub IsOpening : (bytes : List ℕ) → Result Opening JournalFault → Type 0
  IsOpening bytes (Ok opening) = Opens bytes opening
  IsOpening bytes (Err fault) = TellsJournal (journal_of P own bytes) fault

  -- Versions and commits are shared, the first of an image and the others as the commits make them, with which a server may begin; and the journal
  -- stands behind them.
  pub record Stands (opened : Opened) : Type 0 where
    pub image : List ℕ
    pub first : Value
    pub same : shared.Shared
    pub made : List Value
    pub is_image : image_of P own image ≡ Root first
    pub image_fits : length image < 2 ^ 32
    pub versions : same.versions ≡ first ∷ made
    pub written : AreWritable P first same.commits made
    pub begun : IsBegun P same
    pub shares : Shares hash P opened.shared same
    pub at : IsAt own image same.commits opened.journal

  -- So they are those that the file holds; and every crash leaves that.
  pub record IsOpened (opened : Opened) (file : DiskFile) : Type 0 where
    pub stands : Stands opened
    pub holds : journal_of P own file.reads ≡ Holds stands.same.versions stands.same.commits
    pub kept : IsKept (journal_front own stands.image stands.same.commits) file

  -- So it is at the last moment; or the file has this fault, or the disk failed, or memory was wanting.
  abbrev pub OpensTo : (new : Moments) → Result Opened JournalFault → Type 0
  OpensTo new (Ok opened) = AtLast (IsOpened opened) new
  OpensTo new (Err (DiskFault count)) = ⊤
  OpensTo new (Err fault) = AtLast (λ file. TellsJournal (journal_of P own file.reads) fault) new

-- So it is, whatever is answered, but where the sync failed: then nothing was done.
abbrev pub OnlySynced : (old new : Moments) → Result Opened JournalFault → Type 0
OnlySynced old new (Err (DiskFault Writes)) = new ≡ old
OnlySynced old new result = IsSynced old new
