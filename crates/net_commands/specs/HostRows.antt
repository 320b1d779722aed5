-- Rows for a hosting: what a journal keeps, the courses and their lines, the counts, the words, and what stands before a link is made. What each word
-- takes, and what it refuses.
use Rattle.std.specs.Prelude.{◌≡◌, ◌⊎◌, ◌≤◌, ◌<◌, ℕ, true, false, List, [], ◌∷◌, ◌++◌, length, map, take, codes, Option, Some, None, Ok, Err, refl}
use Rattle.std.specs.Fmt.{digits}
use Rattle.std.specs.Option.{ForSome}
use Rattle.std.proofs.Common.{arith, inl, inr, lit≤}
use Rattle.core_terms.specs.Values.{UnitV}
use Rattle.images.specs.Images.{Root, image_of}
use Rattle.lam_outside.specs.Disks.{Moments}
use Rattle.lam_outside.specs.Links.{Linked}
use Rattle.lam_outside.specs.Told.{Contents}
use Rattle.link_ends.specs.declared.end.ServingEnd.TheVariants as end
use Rattle.session_meaning.specs.Begun.{IsBegun}
use Rattle.session_meaning.specs.Calls.{RoleCall}
use Rattle.session_meaning.specs.Server.{Server, version_at}
use Rattle.session_turns.specs.Rows.{AreAlike}
use Rattle.session_turns.specs.Sharing.{IsCommit}
use Rattle.version_journal.specs.AtGates.{IsAt}
use Rattle.version_journal.specs.Gates.{AtLast, LeavesOnly, Passed}
use Rattle.version_journal.specs.Journals.{SpellsJournal}
use Rattle.version_journal.specs.Synced.{IsSynced}
use Rattle.command_parts.specs.Answer.{Serving}
use Rattle.command_parts.specs.AnswerForms.{Answer}
use Rattle.command_parts.specs.Outsides.{Outside}
use Rattle.command_parts.specs.declared.status.Status.{Status}
use Rattle.command_parts.specs.declared.status.Status.TheVariants.{Done, ReadFault, WriteFault, NoMemory}
use Rattle.journal_commands.specs.DisksSeen.{DiskSeen, FromChosen, WritesNothing}
use Rattle.journal_commands.specs.OpenedJournals.{KeepsNow}
use Rattle.journal_commands.specs.declared.stop.DiskStop.TheVariants as stop
use Rattle.net_commands.specs.CourseRows.{first, rose, serving_of}
use Rattle.net_commands.specs.Courses.{Course, NotListening, NotWritten, Served, WithoutMemory}
use Rattle.net_commands.specs.HostCounts.{HostCounts, HostCountsBy}
use Rattle.net_commands.specs.HostReading.{ForBoth, ReadsHost, hosting_of}
use Rattle.net_commands.specs.HostSteps.{Hosts, IsHostEndTold}
use Rattle.net_commands.specs.Hosting.{AreKept, DiskFails, EndsHosting, EndsUnhosted, Goes, HostCourse, IfStoppedTold, IsFirstImage, IsHost, IsHostTold, IsHosting, IsOfHostWords, KeepsAll, KeepsFirst, KeepsJournal, LeavesFirst, LeavesMore, MeansHosting, NotKept, links_course, with_hosting}
use Rattle.net_commands.specs.NetFaults.{NetFaults}
use Rattle.net_commands.specs.OnlineRuns.{NetSeen}
use Rattle.net_commands.specs.PreparedHosts.{IsPreparedHost}
use Rattle.net_commands.specs.PreparedServers.{IsPrepared}
use Rattle.net_commands.specs.ToldNumbers.{TellNumbers, numbers_served}
use Rattle.net_commands.specs.ServeSteps.{KeeperFails, KeepsSoFar, KeptAtStop, ServesNone, ended_course}
use Rattle.net_commands.specs.Serving.{HasGone}
use Rattle.net_commands.specs.declared.hosting.HostWords.{HostWords}
use Rattle.net_commands.specs.declared.hosting.PreparedHost.{PreparedHost}

-- JOURNALS
some_call : (c : RoleCall) (cs : List RoleCall) → [] ≡ c ∷ cs → ⊥
some_call c cs e = cc (e)

-- of two commits that were made the first may be kept alone; but where it was told, it is kept
pub one_is_kept : (a b : RoleCall) → AreKept (a ∷ []) [] (a ∷ b ∷ []) × AreKept (a ∷ []) (a ∷ []) (a ∷ b ∷ []) × (AreKept [] (a ∷ []) (a ∷ b ∷ []) → ⊥)
one_is_kept a b = (((a ∷ [], refl), (b ∷ [], refl)), (([], refl), (b ∷ [], refl)), (λ kept. some_call a kept.0.0 kept.0.1))

-- and none is that was not made
pub no_other_is_kept : (a : RoleCall) → AreKept (a ∷ []) [] [] → ⊥
no_other_is_kept a kept = some_call a kept.1.0 kept.1.1

pub first_image : (s : Serving) (image : List ℕ) (i : IsFirstImage s image) → image_of s.program.program s.program.digest image ≡ Root (version_at s.begun.versions 0)
first_image s image i = i.is

pub keeps_first : (s : Serving) (server : Server) (kept : List RoleCall) (image bytes : List ℕ) (n : ℕ)
    → SpellsJournal s.program.digest image (take n server.shared.commits) bytes → KeepsFirst s server kept image n bytes
keeps_first s server kept image bytes n spells = spells

-- a crash leaves no fewer commits than those with which the serving began, and no more than are kept; or all of these and one record more
pub leaves_first : (s : Serving) (server : Server) (kept : List RoleCall) (image left : List ℕ) (l : LeavesFirst s server kept image left)
    → (length s.begun.commits ≤ l.0) × (l.0 ≤ length kept) × KeepsFirst s server kept image l.0 left
leaves_first s server kept image left l = (l.1, l.2, l.3)

pub leaves_more : (s : Serving) (server : Server) (kept : List RoleCall) (image left : List ℕ) (call : RoleCall)
    → SpellsJournal s.program.digest image (take (length kept) server.shared.commits ++ call ∷ []) left → LeavesMore s server kept image left
leaves_more s server kept image left call spells = inr (call, spells)

pub keeps_journal : (s : Serving) (server : Server) (kept : List RoleCall) (old now : Moments) (k : KeepsJournal s server kept old now)
    → Passed (LeavesOnly (LeavesFirst s server kept k.image)) old k.sound × Passed (LeavesOnly (LeavesMore s server kept k.image)) k.sound now
    × AtLast (λ file. KeepsFirst s server kept k.image (length kept) file.reads) now
keeps_journal s server kept old now k = (k.each, k.since, k.reads)

-- COURSES
pub courses_of_links : map links_course (Goes NotListening ∷ Goes (Served true) ∷ NotKept ∷ []) ≡ NotListening ∷ Served true ∷ WithoutMemory ∷ []
courses_of_links = refl

-- a commit that was made is kept, unless the serving was stopped
pub all_are_kept : (c : RoleCall) → KeepsAll (Goes (Served false)) (c ∷ []) (c ∷ []) × KeepsAll (Goes WithoutMemory) [] (c ∷ []) × KeepsAll NotKept [] (c ∷ [])
    × (KeepsAll (Goes (Served true)) [] (c ∷ []) → ⊥)
all_are_kept c = (refl, tt, tt, (λ e. some_call c [] e))

-- what is said where links are not told: nothing where the serving was stopped
pub if_stopped : IfStoppedTold NotKept None ⊥ × IfStoppedTold (Goes WithoutMemory) None ⊥ × (IfStoppedTold NotKept (Some []) ⊥ → ⊥) × (IfStoppedTold (Goes (Served true)) None ⊥ → ⊥)
if_stopped = ((λ after known. none_is_some after known), (λ after known. none_is_some after known), (λ told. told [] refl), (λ told. told))
  where
    none_is_some : (after : List Linked) → None ≡ Some after → ⊥
    none_is_some after e = cc (e)

-- a disk with these counts
abbrev pub disk_with : (reads writes : ℕ) → DiskSeen
disk_with reads writes = record { contents = None; moments = None; read_faults = reads; write_faults = writes }

pub disk_fails : DiskFails (Goes (Served true)) (disk_with 3 3) (disk_with 3 3) × DiskFails NotKept (disk_with 3 3) (disk_with 3 4)
disk_fails = ((refl, refl), (refl, rose))

pub no_other_fails : (DiskFails (Goes WithoutMemory) (disk_with 3 3) (disk_with 3 4) → ⊥) × (DiskFails NotKept (disk_with 3 3) (disk_with 3 3) → ⊥)
no_other_fails = ((λ f. let e : 4 ≡ 3 = f.1 in omega (arith, e)), (λ f. let e : 4 ≤ 3 = f.1 in omega (arith, e)))

-- LINES
-- where commits were not kept, the first line stands alone, with the status of a fault
pub not_kept_is_told : IsHostTold (serving_of 0) NotKept first WriteFault (Some []) (Some (codes "listening 4711\n")) 3 3
    × IsHostTold (serving_of 0) (Goes (Served false)) first Done (Some []) (Some (codes "listening 4711\nversions 1 commits 0\n")) 3 3
unfolding digits
not_kept_is_told = ((refl, refl, refl), inl (tt, refl, refl, refl))

pub not_kept_is_fault : (old new : Option (List ℕ)) → IsHostTold (serving_of 0) NotKept first NoMemory old new 3 3 → ⊥
not_kept_is_fault old new told = let e : NoMemory ≡ WriteFault = told.0 in cc

-- at the end nothing is told of a disk that failed
pub end_is_told : IsHostEndTold true 2 1 end.Stopped WriteFault (Some []) (Some []) 3 3 × IsHostEndTold false 2 1 end.Stopped NoMemory (Some []) (Some (codes "no memory\n")) 3 3
end_is_told = ((refl, refl, refl), inl (refl, refl, refl))

-- STEPS
pub ended_courses : (ended_course (end.Served true) ≡ Served true) × (ended_course end.Stopped ≡ WithoutMemory)
ended_courses = (refl, refl)

pub none_is_served : ServesNone NotListening × ServesNone NotWritten × (ServesNone (Served false) → ⊥) × (ServesNone WithoutMemory → ⊥)
none_is_served = (tt, tt, (λ n. n), (λ n. n))

pub keeps_so_far : (KeepsSoFar ⊥ (Ok end.Stopped)) × (KeepsSoFar ⊥ (Ok (end.Served true)) → ⊥) × (KeepsSoFar ⊥ (Err WriteFault) → ⊥)
keeps_so_far = (tt, (λ k. k), (λ k. k))

pub keeper_fails : KeeperFails 3 4 false true (Ok end.Stopped) × (KeeperFails 3 4 false true (Ok (end.Served true)) → ⊥) × (KeeperFails 3 4 false true (Err WriteFault) → ⊥)
keeper_fails = (inr (rose, refl), (λ f. let e : 4 ≡ 3 = f.0 in omega (arith, e)), (λ f. let e : 4 ≡ 3 = f.0 in omega (arith, e)))

pub kept_at_stop : (made : List RoleCall) → (KeptAtStop (λ told made. ⊥) (Ok end.Stopped) (Some []) made → ⊥) × KeptAtStop (λ told made. ⊥) (Ok (end.Served true)) (Some []) made
kept_at_stop made = ((λ kept. (kept [] refl).1), tt)

-- COUNTS
module _ (old new : Outside) (net net' : NetFaults) where
  -- a read fault may be one of the disk, and a write fault too
  pub disk_counts : new.write_faults ≡ old.write_faults → HostCountsBy old new net net' (disk_with 3 3) (disk_with 4 3) ReadFault × HostCountsBy old new net net' (disk_with 3 3) (disk_with 3 4) WriteFault
      × HostCountsBy old new net net' (disk_with 3 3) (disk_with 4 3) NoMemory
  disk_counts writes = ((inr (inr rose), writes, refl), inr rose, (writes, refl))

  -- and no fault of it is told as done
  pub none_is_done : (HostCountsBy old new net net' (disk_with 3 3) (disk_with 4 3) Done → ⊥) × (HostCountsBy old new net net' (disk_with 3 3) (disk_with 3 4) Done → ⊥)
      × (HostCountsBy old new net net' (disk_with 3 3) (disk_with 3 4) NoMemory → ⊥)
  none_is_done =
      ((λ c. let e : 4 ≡ 3 = c.2 in omega (arith, e)), (λ c. let e : 4 ≡ 3 = c.4 in omega (arith, e)), (λ c. let e : 4 ≡ 3 = c.1 in omega (arith, e)))

  pub host_counts : (disk disk' : DiskSeen) (status : Status) (c : HostCounts old new net net' disk disk' status) → HostCountsBy old new net net' disk disk' status
      × (new.store_faults ≡ old.store_faults) × (net'.dials ≡ net.dials)
  host_counts disk disk' status c = (c.by_status, c.stores, c.dials)

-- WORDS
-- five texts mean a hosting, and its numbers are those of the words
pub means_hosting : (program journal port links slice : List ℕ) (files : Contents) (s : Serving)
    → ((go : Serving → Option Answer) → with_hosting program port links slice [] files go ≡ go s)
    → MeansHosting (program ∷ journal ∷ port ∷ links ∷ slice ∷ []) files None s journal × (MeansHosting [] files None s journal → ⊥)
means_hosting program journal port links slice files s goes = ((refl, goes), (λ m. m))

pub of_words : (program journal port links slice : List ℕ) (s : Serving) → TellNumbers port links slice (numbers_served s)
    → IsOfHostWords (program ∷ journal ∷ port ∷ links ∷ slice ∷ []) s journal × (IsOfHostWords [] s journal → ⊥)
of_words program journal port links slice s tells = ((refl, tells), (λ m. m))

-- BEFORE A LINK
pub is_prepared : (host : PreparedHost) (s : Serving) (name : List ℕ) (disk disk' : DiskSeen) (i : IsPreparedHost host s name disk disk') → IsPrepared host.server.value s
    × IsBegun s.program.program s.begun × (s.begun.versions ≡ i.first ∷ i.others) × (image_of s.program.program s.program.digest i.image ≡ Root i.first)
    × IsAt s.program.digest i.image s.begun.commits host.journal × AreAlike IsCommit host.server.value.core.shared.commits.items s.begun.commits
    × FromChosen name disk disk' (λ old new. IsSynced old new × AtLast (KeepsNow s.program i.image s.begun) new)
is_prepared host s name disk disk' i = (i.server, i.begun, i.versions, i.is_image, i.at, i.alike, i.told)

-- nothing is said of what was read where the disk could not be written, or the files are not told
pub nothing_is_read : (words : HostWords) (told : Option Contents) (disk disk' : DiskSeen) → ReadsHost words told disk disk' (Err stop.WriteFault)
nothing_is_read words told disk disk' = tt

pub for_both : (files : Contents) → (ForBoth None (Some files) (λ f. ⊥)) × (ForBoth (Some files) (Some files) (λ f. ⊥) → ⊥)
for_both files = ((λ others known seen told. none_is_some others known), (λ both. both files refl files refl))
  where
    none_is_some : (others : Contents) → None ≡ Some others → ⊥
    none_is_some others e = cc (e)

-- WHOLE RUNS
module _ (s : Serving) (name : List ℕ) (old new : Outside) (net net' : NetSeen) (disk disk' : DiskSeen) (status : Status) where
  pub hosts : (middle : DiskSeen) (was is : Option (List ℕ)) (before now : ℕ) (h : Hosts s name net net' disk middle disk' status was is before now)
      → HasGone (AreKept h.kept) s net net' (links_course h.course) h.server × KeepsAll h.course h.kept h.server.shared.commits
      × IfStoppedTold h.course net'.links (FromChosen name disk disk' (KeepsJournal s h.server h.kept)) × DiskFails h.course middle disk'
      × IsHostTold s h.course h.server status was is before now
  hosts middle was is before now h = (h.gone, h.all, h.keeps, h.fails, h.is_told)

  pub ends_hosting : (e : EndsHosting s name old new net net' disk disk' status)
      → HasGone (AreKept e.kept) s net net' (links_course e.course) e.server × KeepsAll e.course e.kept e.server.shared.commits
      × IfStoppedTold e.course net'.links (FromChosen name disk disk' (KeepsJournal s e.server e.kept)) × DiskFails e.course disk disk'
      × IsHostTold s e.course e.server status old.written new.written old.write_faults new.write_faults
      × (new.stores ≡ old.stores) × (new.store_faults ≡ old.store_faults) × (new.read_faults ≡ old.read_faults)
  ends_hosting e = (e.gone, e.all, e.keeps, e.fails, e.told, e.stores, e.store_faults, e.reads)

  pub is_hosting : (texts : List (List ℕ)) (i : IsHosting texts old new net net' disk disk' status)
      → ForSome disk.contents (λ on_disk. ForSome old.contents (λ files. MeansHosting texts files disk.contents i.serving i.name))
      × IsOfHostWords texts i.serving i.name × IsBegun i.serving.program.program i.serving.begun × EndsHosting i.serving i.name old new net net' disk disk' status
  is_hosting texts i = (i.means, i.of_words, i.begun, i.ends)

  pub is_host : (texts : List (List ℕ)) → (EndsUnhosted texts old new disk disk' status → IsHost texts old new net net disk disk' status)
      × (IsHosting texts old new net net' disk disk' status → IsHost texts old new net net' disk disk' status)
  is_host texts = ((λ e. inl (e, refl)), (λ i. inr i))

  -- no such run has no texts
  pub no_texts : EndsUnhosted [] old new disk disk' status → ⊥
  no_texts e = e
