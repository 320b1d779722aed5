-- Rows for the courses of a serving: the links that were made, the counts, the lines and the status, and how the last version is stored. What each
-- word takes, and what it refuses.
use Rattle.std.specs.Prelude.{◌≡◌, ◌⊎◌, ◌≤◌, ◌<◌, ℕ, true, false, List, [], ◌∷◌, length, map, codes, Option, Some, None, refl}
use Rattle.std.specs.Fmt.{digits}
use Rattle.std.specs.List.{AllByRecursion}
use Rattle.std.specs.Option.{ForSome}
use Rattle.std.specs.Io.KnownBytes.{append_known}
use Rattle.std.proofs.Common.{arith, inl, inr, lit<, lit≤, ap, sym, ◌∙◌}
use Rattle.sha2.specs.Sha256.{sha256}
use Rattle.core_terms.specs.Values.{UnitV, BoolV}
use Rattle.command_words.specs.declared.command.Command.TheVariants.{Serve}
use Rattle.ideal_meaning.specs.Examples.{unit_program}
use Rattle.images.specs.declared.fault.SaveFault.TheVariants as save_fault
use Rattle.lam_outside.specs.Causes.{Rose}
use Rattle.lam_outside.specs.Links.{Linked}
use Rattle.lam_outside.specs.Told.{Contents, Stores}
use Rattle.session_meaning.specs.MessageRows.{text_digest}
use Rattle.session_meaning.specs.Server.{Server, last_turn, new_server}
use Rattle.serve_core.specs.Serving.{Serves}
use Rattle.serve_core.specs.declared.server.ServeCore.{ServeCore}
use Rattle.link_ends.specs.declared.end.ServingEnd.TheVariants as end
use Rattle.serve_links.specs.Connections.{AnyKept}
use Rattle.serve_links.specs.ServedLinks.{AreServedInPart}
use Rattle.command_parts.specs.Answer.{Serving, answer_with, with_serving}
use Rattle.command_parts.specs.AnswerForms.{Answer}
use Rattle.command_parts.specs.Ending.{EndsAs}
use Rattle.command_parts.specs.Outsides.{Outside}
use Rattle.net_commands.specs.NetFaults.{NetFaults}
use Rattle.net_commands.specs.OnlineRuns.{NetSeen}
use Rattle.net_commands.specs.NetCounts.{CountsBy, ListenCounts}
use Rattle.net_commands.specs.ToldNumbers.{TellNumbers, numbers_served}
use Rattle.net_commands.specs.ServeSteps.{HasMade, IsCourseTold, IsEndTold, IsServer, IsStorageTold, IsUnstoredTold, StoresLast, TellsCourse}
use Rattle.net_commands.specs.Courses.{AreMade, Course, HasFaults, IsListening, WritesFront}
use Rattle.net_commands.specs.Serving.{AreServedLacking, AreServedOn, EndsServing, HasGone, IsOfWords, IsServe, IsServing, IsStoredBy, MakesLinks, MeansServing, Storage, TellsPart, TellsWhole}
use Rattle.net_commands.specs.Courses.{NotListening, NotWritten, Served, WithoutMemory, course_status, listened_behind}
use Rattle.net_commands.specs.Serving.{IsStored, StoreFails, IsTooLong, LacksMemory, course_lines, last_image, last_version, serving_text, storage_lines, storage_status}
use Rattle.command_parts.specs.declared.status.Status.{Status}
use Rattle.command_parts.specs.declared.status.Status.TheVariants.{Done, InputRefused, ReadFault, WriteFault, NoMemory}

-- a serving of so many links, and its server before the first one
abbrev pub serving_of : (links : ℕ) → Serving
serving_of links = record { program = record { program = unit_program; digest = text_digest }; begun = record { versions = UnitV ∷ []; commits = [] }; port = 4711; links = links; slice = 1 }

abbrev pub first : Server
first = new_server UnitV

pub rose : Rose 3 4
rose = lit≤ tt

-- LINKS
pub none_served : (links : ℕ) → AreServedOn AnyKept (serving_of links) [] false first × (AreServedOn AnyKept (serving_of links) [] true first → ⊥)
none_served links = ((refl, refl), (λ are. let e : true ≡ false = are.0 in cc (e)))

pub served_lacking : (made : List Linked) (server : Server) → AreServedInPart sha256 unit_program text_digest (last_turn 1) AnyKept first made server → AreServedLacking AnyKept (serving_of 9) made server
served_lacking made server are = are

-- as many as were to be served; or fewer, behind a failed accept
pub all_are_made : AreMade 0 [] false false 3 3 × AreMade 1 [] false true 3 4
all_are_made = (inl (refl, refl), inr (lit< tt, refl, rose))

pub no_fault_is_made : AreMade 0 [] false true 3 4 → ⊥
no_fault_is_made (inl are) = let e : true ≡ false = are.1 in cc (e)
no_fault_is_made (inr are) = let fewer : 0 < 0 = are.0 in omega (arith, fewer)

abbrev pub Makes : Course → Type 0
Makes course = MakesLinks AnyKept (serving_of 0) course [] 3 3 first

pub makes_links : Makes NotListening × Makes NotWritten × Makes (Served false) × Makes WithoutMemory
makes_links = ((refl, refl), (refl, refl), (false, (refl, refl), inl (refl, refl)), (lit≤ tt, inl (false, (refl, refl))))

pub makes_lacking : (made : List Linked) → length made ≤ 9 → AreServedLacking AnyKept (serving_of 9) made first → MakesLinks AnyKept (serving_of 9) WithoutMemory made 3 3 first
makes_lacking made fewer are = (fewer, inr are)

pub has_made : HasMade AnyKept (serving_of 0) NotListening (Some []) [] 3 3 first
has_made = record { before = []; made = []; told = refl; all = refl; at_port = tt; makes = (refl, refl) }

pub made_at_port : (s : Serving) (course : Course) (links : Option (List Linked)) (after : List Linked) (accepts accepts' : ℕ) (server : Server)
    (h : HasMade AnyKept s course links after accepts accepts' server) → AllByRecursion (λ (link : Linked). link.port ≡ s.port) h.made
made_at_port s course links after accepts accepts' server h = h.at_port

-- COUNTS
abbrev pub faults : (links listens accepts dials : ℕ) → NetFaults
faults links listens accepts dials = record { links = links; listens = listens; accepts = accepts; dials = dials }

-- each course lets the count of its own fault rise, and no other
pub has_faults : HasFaults NotListening (faults 3 3 3 3) (faults 3 4 3 3) × HasFaults NotWritten (faults 3 3 3 3) (faults 3 3 3 3) × HasFaults (Served false) (faults 3 3 3 3) (faults 3 3 3 3)
    × HasFaults (Served true) (faults 3 3 3 3) (faults 4 3 3 3) × HasFaults (Served true) (faults 3 3 3 3) (faults 3 3 4 3) × HasFaults WithoutMemory (faults 3 3 3 3) (faults 4 3 3 3)
has_faults = ((rose, refl, refl, refl), refl, refl, (inl rose, refl, refl), (inr rose, refl, refl), (refl, refl))

pub no_other_faults : HasFaults NotListening (faults 3 3 3 3) (faults 3 4 3 4) → ⊥
no_other_faults h = let e : 4 ≡ 3 = h.3 in omega (arith, e)

pub none_faulted : HasFaults (Served false) (faults 3 3 3 3) (faults 4 3 3 3) → ⊥
none_faulted h = let e : 4 ≡ 3 = ap (λ (f : NetFaults). f.links) h in omega (arith, e)

pub listened : map (λ course. listened_behind 4711 course None) (NotListening ∷ NotWritten ∷ Served true ∷ WithoutMemory ∷ []) ≡ None ∷ Some 4711 ∷ Some 4711 ∷ Some 4711 ∷ []
listened = refl

-- LINES
pub lines : (course_lines (serving_of 0) NotListening first ≡ codes "link fault\n" ∷ []) × (course_lines (serving_of 0) NotWritten first ≡ codes "listening 4711\n" ∷ [])
    × (course_lines (serving_of 0) (Served false) first ≡ codes "listening 4711\n" ∷ codes "versions 1 commits 0\n" ∷ [])
    × (course_lines (serving_of 0) (Served true) first ≡ codes "listening 4711\n" ∷ codes "versions 1 commits 0\n" ∷ codes "link fault\n" ∷ [])
    × (course_lines (serving_of 0) WithoutMemory first ≡ codes "listening 4711\n" ∷ codes "no memory\n" ∷ [])
unfolding digits
lines = (refl, refl, refl, refl, refl)

pub statuses : map course_status (NotListening ∷ NotWritten ∷ Served true ∷ Served false ∷ WithoutMemory ∷ []) ≡ ReadFault ∷ WriteFault ∷ ReadFault ∷ Done ∷ NoMemory ∷ []
statuses = refl

pub front_is_written : WritesFront 2 (Some (5 ∷ [])) (Some (5 ∷ 1 ∷ 2 ∷ [])) (1 ∷ 2 ∷ 3 ∷ [])
front_is_written = (2, lit≤ tt, refl)

pub listening : IsListening NotListening × IsListening (Served true) × IsListening WithoutMemory × (IsListening NotWritten → ⊥)
listening = (tt, tt, tt, (λ l. l))

-- STORING
pub last : last_version (record first { shared = record { versions = UnitV ∷ BoolV true ∷ []; commits = [] } }) ≡ BoolV true
last = refl

abbrev pub IsStoredAs : Storage → (image : List ℕ) → (stores : Stores) → (now : ℕ) → Type 0
IsStoredAs storage image stores now = IsStoredBy storage image (7 ∷ []) (Some []) (Some stores) 3 now

-- an image that is as long as a file may be is stored, or `store` fails at it
pub longest_is_stored : (image : List ℕ) → length image ≡ 67108864
    → IsStoredAs IsStored image ((7 ∷ [], image) ∷ []) 3 × IsStoredAs StoreFails image ((7 ∷ [], image) ∷ []) 4 × (IsStoredAs IsTooLong image [] 3 → ⊥)
longest_is_stored image is = ((omega (arith, is), refl, refl), (omega (arith, is), refl, rose), (λ s. omega (arith, is, s.0)))

-- a longer one is not
pub longer_is_not_stored : (image : List ℕ) → length image ≡ 67108865
    → IsStoredAs IsTooLong image [] 3 × (IsStoredAs IsStored image ((7 ∷ [], image) ∷ []) 3 → ⊥) × (IsStoredAs StoreFails image ((7 ∷ [], image) ∷ []) 4 → ⊥)
longer_is_not_stored image is = ((omega (arith, is), refl, refl), (λ s. omega (arith, is, s.0)), (λ s. omega (arith, is, s.0)))

pub none_is_stored : (image : List ℕ) → IsStoredAs LacksMemory image [] 3
none_is_stored image = (refl, refl)

-- what follows of the storing, by the status before
abbrev pub before_storing : List Status
before_storing = Done ∷ ReadFault ∷ WriteFault ∷ NoMemory ∷ []

pub stored_statuses : (map (storage_status IsStored) before_storing ≡ before_storing) × (map (storage_status StoreFails) before_storing ≡ WriteFault ∷ WriteFault ∷ WriteFault ∷ WriteFault ∷ [])
    × (map (storage_status IsTooLong) before_storing ≡ InputRefused ∷ ReadFault ∷ WriteFault ∷ NoMemory ∷ [])
    × (map (storage_status LacksMemory) before_storing ≡ NoMemory ∷ NoMemory ∷ WriteFault ∷ NoMemory ∷ [])
stored_statuses = (refl, refl, refl, refl)

pub stored_lines : (map (storage_lines IsStored) before_storing ≡ [] ∷ [] ∷ [] ∷ [] ∷ []) × (map (storage_lines StoreFails) before_storing ≡ [] ∷ [] ∷ [] ∷ [] ∷ [])
    × (map (storage_lines IsTooLong) before_storing ≡ (codes "input refused: too long OUT\n" ∷ []) ∷ [] ∷ [] ∷ [] ∷ [])
    × (map (storage_lines LacksMemory) before_storing ≡ (codes "no memory\n" ∷ []) ∷ [] ∷ [] ∷ [] ∷ [])
stored_lines = (refl, refl, refl, refl)

-- STEPS
-- a course is told whole; or the sink failed at a front of its text
pub course_is_told : IsCourseTold (serving_of 0) NotListening first ReadFault (Some []) (Some (codes "link fault\n")) 3 3
    × IsCourseTold (serving_of 0) NotListening first WriteFault (Some []) (Some (codes "link")) 3 4
course_is_told = (inl (tt, refl, refl, refl), inr (refl, (4, lit≤ tt, refl), rose))

-- that the first line couldn't be written is told by a count that rose
pub unwritten_is_not_told : (written : Option (List ℕ)) → IsCourseTold (serving_of 0) NotWritten first WriteFault (Some []) written 3 3 → ⊥
unwritten_is_not_told written (inl told) = told.0
unwritten_is_not_told written (inr told) = let none : 4 ≤ 3 = told.2 in omega (arith, none)

-- so it is behind the last link, of versions and commits, a fault and the want of memory
pub end_is_told : IsEndTold 2 1 (end.Served true) ReadFault (Some []) (Some (codes "versions 2 commits 1\nlink fault\n")) 3 3
    × IsEndTold 2 1 (end.Served false) Done (Some []) (Some (codes "versions 2 commits 1\n")) 3 3 × IsEndTold 2 1 (end.Served false) NoMemory (Some []) (Some (codes "no memory\n")) 3 3
    × IsEndTold 2 1 end.Stopped NoMemory (Some []) (Some (codes "no memory\n")) 3 3
unfolding digits
end_is_told = (inl (inl (refl, refl, refl)), inl (inl (refl, refl, refl)), inr (inl (refl, refl, refl)), inl (refl, refl, refl))

pub storage_is_told : IsStorageTold LacksMemory Done NoMemory (Some []) (Some (codes "no memory\n")) 3 3 × IsStorageTold IsStored ReadFault ReadFault (Some []) (Some []) 3 3
storage_is_told = (inl (refl, refl, refl), inl (refl, refl, refl))

pub unstored_is_told : IsUnstoredTold Done save_fault.TooLong InputRefused (Some []) (Some (codes "input refused: too long OUT\n")) 3 3
    × IsUnstoredTold Done save_fault.TooLong NoMemory (Some []) (Some (codes "no memory\n")) 3 3 × IsUnstoredTold Done save_fault.NoMemory NoMemory (Some []) (Some (codes "no memory\n")) 3 3
unstored_is_told = (inl (inl (refl, refl, refl)), inr (inl (refl, refl, refl)), inl (refl, refl, refl))

pub is_server : {A G : Type 0} (core : ServeCore A G) (server : Server) (i : IsServer core server) → Serves sha256 core server × (0 < length core.shared.versions.items)
is_server core server i = (i.serves, i.some)

-- WHOLE RUNS
module _ (s : Serving) (name : List ℕ) (old new : Outside) (net net' : NetSeen) (status : Status) where
  pub course_of : {A G : Type 0} (core : ServeCore A G) (told : Status) (was is : Option (List ℕ)) (before now : ℕ) (t : TellsCourse s net net' core told was is before now)
      → HasGone AnyKept s net net' t.course t.server × IsServer core t.server × IsCourseTold s t.course t.server told was is before now
  course_of core told was is before now t = (t.gone, t.server_left, t.is_told)

  pub last_is_stored : (server : Server) (told : Status) (was is : Option (List ℕ)) (before now : ℕ)
      (l : StoresLast s server name told status old.stores new.stores old.store_faults new.store_faults was is before now)
      → IsStoredBy l.storage (last_image s server) name old.stores new.stores old.store_faults new.store_faults × IsStorageTold l.storage told status was is before now
  last_is_stored server told was is before now l = (l.stored, l.is_told)

  pub tells_whole : (course : Course) (server : Server) (storage : Storage) (t : TellsWhole s course server storage old new status)
      → IsListening course × (status ≡ storage_status storage (course_status course)) × (new.written ≡ append_known old.written (serving_text s course server storage))
      × (new.write_faults ≡ old.write_faults)
  tells_whole course server storage t = (t.listening, t.status, t.written, t.writes)

  pub tells_part : (course : Course) (server : Server) (storage : Storage) (t : TellsPart s course server storage old new status) → (status ≡ WriteFault) × Rose old.write_faults new.write_faults
  tells_part course server storage t = (t.status, t.rose)

  pub has_gone : (course : Course) (server : Server) (g : HasGone AnyKept s net net' course server)
      → ForSome net'.links (λ after. HasMade AnyKept s course net.links after net.faults.accepts net'.faults.accepts server) × (net'.listened ≡ listened_behind s.port course net.listened)
      × HasFaults course net.faults net'.faults
  has_gone course server g = (g.links, g.listened, g.faults)

  pub ends_serving : (e : EndsServing s name old new net net' status) → HasGone AnyKept s net net' e.course e.server
      × (TellsWhole s e.course e.server e.storage old new status ⊎ TellsPart s e.course e.server e.storage old new status)
      × IsStoredBy e.storage (last_image s e.server) name old.stores new.stores old.store_faults new.store_faults × (new.read_faults ≡ old.read_faults)
  ends_serving e = (e.gone, e.told, e.stored, e.reads)

  pub is_serving : (texts : List (List ℕ)) (i : IsServing texts old new net net' status) → ForSome old.contents (λ files. MeansServing texts files i.serving i.name)
      × IsOfWords texts i.serving i.name × EndsServing i.serving i.name old new net net' status
  is_serving texts i = (i.means, i.of_words, i.ends)

  pub is_serve : (texts : List (List ℕ)) → (EndsAs (answer_with Serve texts) old new status → IsServe texts old new net net status) × (IsServing texts old new net net' status → IsServe texts old new net net' status)
  is_serve texts = ((λ e. inl (e, refl)), (λ i. inr i))

  pub serve_counts : (c : ListenCounts old new net.faults net'.faults status) → CountsBy old new net.faults net'.faults status × (net'.faults.dials ≡ net.faults.dials)
  serve_counts c = (c.by_status, c.dials)

-- a front of the first line was written where no link was made
pub nothing_of_it : (old new : Outside) → old.written ≡ Some [] → new.written ≡ Some [] → Rose old.write_faults new.write_faults
    → TellsPart (serving_of 0) NotWritten first IsStored old new WriteFault
nothing_of_it old new none still rose = record { status = refl; part = (0, lit≤ tt, still ∙ ap (λ o. append_known o []) (sym none)); rose = rose }

-- six texts mean a serving, and its numbers are those of the words
pub means_serving : (program image port links slice out : List ℕ) (files : Contents) (s : Serving) → ((go : Serving → Option Answer) → with_serving program image port links slice files go ≡ go s)
    → MeansServing (program ∷ image ∷ port ∷ links ∷ slice ∷ out ∷ []) files s out × (MeansServing [] files s out → ⊥)
means_serving program image port links slice out files s goes = ((refl, goes), (λ m. m))

pub of_words : (program image port links slice out : List ℕ) (s : Serving) → TellNumbers port links slice (numbers_served s)
    → IsOfWords (program ∷ image ∷ port ∷ links ∷ slice ∷ out ∷ []) s out × (IsOfWords [] s out → ⊥)
of_words program image port links slice out s tells = ((refl, tells), (λ m. m))
