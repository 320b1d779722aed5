-- How a serving of links goes, by a server of a state or by a mirror: its course, the counts that tell it, and the lines that don't depend on what is
-- served.
use Rattle.std.specs.Prelude.{◌≡◌, ◌⊎◌, ◌≤◌, ◌<◌, ℕ, Bool, true, false, List, [], ◌∷◌, ◌++◌, length, take, Option, Some}
use Rattle.std.specs.List.{AllByRecursion, concat}
use Rattle.std.specs.Option.{ForSome}
use Rattle.std.specs.Io.KnownBytes.{append_known}
use Rattle.lam_outside.specs.Causes.{Rose}
use Rattle.lam_outside.specs.Links.{Linked}
use Rattle.printed_lines.specs.Lines.{link_fault_line, listening_line}
use Rattle.net_commands.specs.NetFaults.{NetFaults}
use Rattle.net_commands.specs.OnlineRuns.{NetSeen}
use Rattle.command_parts.specs.declared.status.Status.{Status}
use Rattle.command_parts.specs.declared.status.Status.TheVariants.{Done, ReadFault, WriteFault, NoMemory}

-- How the serving went: it could not listen; it listened, and the line that says so could not be written; it served links, and whether one of
-- them or an `accept` failed; or memory was wanting, for a connection or for the line behind the last one.
pub data Course : Type 0 where
  NotListening NotWritten WithoutMemory : Course
  Served : (faulted : Bool) → Course

-- Of the links that were made: they are as many as were to be served, and there is a fault where one of them ended in one; or fewer, since an
-- `accept` failed, which is a fault.
abbrev pub AreMade : (links : ℕ) → (made : List Linked) → (some_faulted faulted : Bool) → (accepts accepts' : ℕ) → Type 0
AreMade links made some_faulted faulted accepts accepts' =
    ((length made ≡ links) × (faulted ≡ some_faulted)) ⊎ ((length made < links) × (faulted ≡ true) × Rose accepts accepts')

-- the counts of the net: that of `listen` rose where it could not listen, one of the others exactly where a link or an `accept` failed
abbrev pub HasFaults : Course → NetFaults → NetFaults → Type 0
HasFaults NotListening faults faults' =
    Rose faults.listens faults'.listens × (faults'.links ≡ faults.links) × (faults'.accepts ≡ faults.accepts) × (faults'.dials ≡ faults.dials)
HasFaults NotWritten faults faults' = faults' ≡ faults
HasFaults (Served false) faults faults' = faults' ≡ faults
HasFaults (Served true) faults faults' =
    (Rose faults.links faults'.links ⊎ Rose faults.accepts faults'.accepts) × (faults'.listens ≡ faults.listens) × (faults'.dials ≡ faults.dials)
HasFaults WithoutMemory faults faults' = (faults'.listens ≡ faults.listens) × (faults'.dials ≡ faults.dials)

-- what is listened to
abbrev pub listened_behind : (port : ℕ) → Course → Option ℕ → Option ℕ
listened_behind port NotListening before = before
listened_behind port course before = Some port

-- Where the links behind the serving are told, those before it are; they are these and more, all to the port, of which `Makes` holds.
pub record HasMadeLinks (Makes : List Linked → Type 0) (port : ℕ) (links : Option (List Linked)) (after : List Linked) : Type 0 where
  pub before : List Linked
  pub made : List Linked
  pub told : links ≡ Some before
  pub all : after ≡ before ++ made
  pub at_port : AllByRecursion (λ (link : Linked). link.port ≡ port) made
  pub makes : Makes made

-- The serving went so. What holds of the links that were made depends on the count of failed `accept`s before it and behind it.
pub record HasCourse (Makes : Course → List Linked → (accepts accepts' : ℕ) → Type 0) (port : ℕ) (net net' : NetSeen) (course : Course) : Type 0 where
  pub links : ForSome net'.links (λ after. HasMadeLinks (λ made. Makes course made net.faults.accepts net'.faults.accepts) port net.links after)
  pub listened : net'.listened ≡ listened_behind port course net.listened
  pub faults : HasFaults course net.faults net'.faults

-- LINES
-- the line of a fault
abbrev pub fault_lines : Bool → List (List ℕ)
fault_lines true = link_fault_line ∷ []
fault_lines false = []

-- the line that was written whole before a link was made; none where none was
abbrev pub greeting_of : (port : ℕ) → Course → List ℕ
greeting_of port (Served faulted) = listening_line port
greeting_of port WithoutMemory = listening_line port
greeting_of port NotListening = []
greeting_of port NotWritten = []

-- a front of the text was written, of so many bytes at least
abbrev pub WritesFront : (least : ℕ) → (old new : Option (List ℕ)) → List ℕ → Type 0
WritesFront least old new text = (n : ℕ) × (least ≤ n) × (new ≡ append_known old (take n text))

abbrev pub course_status : Course → Status
course_status NotListening = ReadFault
course_status NotWritten = WriteFault
course_status (Served true) = ReadFault
course_status (Served false) = Done
course_status WithoutMemory = NoMemory

-- the first line could be written, where there was one
abbrev pub IsListening : Course → Type 0
IsListening NotWritten = ⊥
IsListening course = Unit {0}

-- All lines of the course were written, and the status is that of the course; or the sink failed, and a front of their text was written, in which is
-- the line that stands before the links.
abbrev pub AreLinesTold : (port : ℕ) → Course → (lines : List (List ℕ)) → Status → (old new : Option (List ℕ)) → (before now : ℕ) → Type 0
AreLinesTold port course lines told old new before now =
    (IsListening course × (told ≡ course_status course) × (new ≡ append_known old (concat lines)) × (now ≡ before))
    ⊎ ((told ≡ WriteFault) × WritesFront (length (greeting_of port course)) old new (concat lines) × Rose before now)
