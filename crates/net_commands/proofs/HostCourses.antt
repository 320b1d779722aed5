-- The course of a hosting, from that of a serving whose commits a journal keeps, and from how it was told.
use Rattle.std.proofs.Common.{◌≡◌, ◌⊎◌, inl, inr, ℕ, Bool, true, false, List, [], ◌++◌, length, Option, Some, None, Ok, Err, refl, sym, ◌∙◌, ap, subst, append-nil, append_assoc}
use Rattle.std.specs.Option.{ForSome}
use Rattle.sha2.specs.Sha256.{sha256}
use Rattle.lam_outside.specs.Causes.{Rose}
use Rattle.lam_outside.specs.Links.{Linked}
use Rattle.link_ends.specs.declared.end.ServingEnd.{ServingEnd}
use Rattle.link_ends.specs.declared.end.ServingEnd.TheVariants as end
use Rattle.serve_core.specs.declared.server.ServeCore.{ServeCore}
use Rattle.session_meaning.specs.Calls.{RoleCall}
use Rattle.session_meaning.specs.Server.{Server, last_turn}
use Rattle.session_turns.specs.Keepers.{HasStayed, KeepsBetween}
use Rattle.session_meaning.specs.Beginnings.{IsFront}
use Rattle.session_turns.specs.declared.commit.Commit.{Commit}
use Rattle.version_journal.specs.FoundJournals.{KeepsFound}
use Rattle.version_journal.specs.declared.journal.Journal.{Journal}
use Rattle.command_parts.specs.Answer.{Serving}
use Rattle.command_parts.specs.declared.status.Status.{Status}
use Rattle.journal_commands.specs.DisksSeen.{DiskSeen, FromChosen}
use Rattle.net_commands.specs.Courses.{Course, NotListening, NotWritten, Served, WithoutMemory}
use Rattle.net_commands.specs.Hosting.{AreKept, Goes, IfStoppedTold, IsFirstImage, KeepsAll, KeepsJournal, NotKept}
use Rattle.net_commands.specs.HostSteps.{Hosts, IsHostEndTold}
use Rattle.net_commands.specs.OnlineRuns.{NetSeen}
use Rattle.net_commands.specs.ServeSteps.{HasMade, KeeperFails, KeepsSoFar, ServesCourse}
use Rattle.net_commands.specs.Serving.{AreServedLacking, AreServedOn, HasGone, MakesLinks, first_server}
use Rattle.net_commands.proofs.HostJournals.{OpensSo, found_of, journal_kept, moments_found}
use Rattle.net_commands.proofs.KeptAs.{as_links, gone_as, part_as, part_kept}
use Rattle.net_commands.proofs.ServeCourses.{IsToldOn, end_told, lacking_told}

same_front : {A : Type 0} (xs : List A) → IsFront xs xs
same_front xs = ([], sym (append-nil xs))

-- a front of a front is one of the whole
front_through : {A : Type 0} (xs ys zs : List A) → IsFront xs ys → IsFront ys zs → IsFront xs zs
front_through xs ys zs first then = (first.0 ++ then.0, then.1 ∙ ap (λ l. l ++ then.0) first.1 ∙ append_assoc xs first.0 then.0)

all_kept : (course : Course) (made : List RoleCall) → KeepsAll (Goes course) made made
all_kept NotListening made = refl
all_kept NotWritten made = refl
all_kept (Served faulted) made = refl
all_kept WithoutMemory made = tt

so_kept : (course : Course) (links : Option (List Linked)) (P : Type 0) → P → IfStoppedTold (Goes course) links P
so_kept NotListening links P h = h
so_kept NotWritten links P h = h
so_kept (Served faulted) links P h = h
so_kept WithoutMemory links P h = λ after known. h

module _ (s : Serving) (name image : List ℕ) (is_image : IsFirstImage s image) (first middle behind : DiskSeen) (told : FromChosen name first middle (OpensSo s image)) (journal : Journal)
    (reads : behind.read_faults ≡ middle.read_faults) where
  abbrev Keeps : List Commit → Type 0
  Keeps commits = KeepsFound (found_of s image (moments_found told.0 middle.moments)) journal behind.moments commits

  abbrev Kept : (told made : List RoleCall) → Type 0
  Kept = KeepsBetween Keeps

  module _ {A G : Type 0} (net net' : NetSeen) (core : ServeCore A G) (written written' : Option (List ℕ)) (before now : ℕ) (ended : Status) where
    abbrev Ends : Type 0
    Ends = Hosts s name net net' first middle behind ended written written' before now

    -- where all commits are kept
    hosts_all : behind.write_faults ≡ middle.write_faults → Keeps core.shared.commits.items → IsToldOn Kept s net net' core ended written written' before now → Ends
    hosts_all writes keeps is = record {
      course = Goes is.course;
      server = is.server;
      kept = is.server.shared.commits;
      gone = gone_as Kept (AreKept is.server.shared.commits) s is.server
          (λ told kept. (front_through told kept.calls is.server.shared.commits kept.all_told kept.only_made, same_front is.server.shared.commits)) net net' is.course is.gone;
      all = all_kept is.course is.server.shared.commits;
      keeps = so_kept is.course net'.links (FromChosen name first behind (KeepsJournal s is.server is.server.shared.commits))
          (journal_kept s name image first middle is.server behind journal core.shared.commits.items is.server.shared.commits is_image
          is.server_left.serves.shares.commits (same_front is.server.shared.commits) told keeps);
      fails = (reads, writes);
      is_told = is.is_told;
    }

    -- where no link was made
    pub hosts_unserved : (faulted : Bool) → ServesCourse Kept s net net' core (Err ended) written written' before now → KeepsSoFar (Keeps core.shared.commits.items) (Err ended)
        → KeeperFails middle.write_faults behind.write_faults false faulted (Err ended) → Ends
    hosts_unserved faulted serves keeps fails = hosts_all fails.0 keeps (record {
      course = serves.course;
      server = serves.server;
      gone = serves.gone;
      server_left = serves.server_left;
      is_told = serves.is_told.1;
    })

    module _ (between : Option (List ℕ)) (mid : ℕ) where
      -- where serving was not stopped
      hosts_served : (fault faulted : Bool) → ServesCourse Kept s net net' core (Ok (end.Served fault)) written between before mid → Keeps core.shared.commits.items
          → HasStayed middle.write_faults behind.write_faults false faulted
          → IsHostEndTold faulted (length core.shared.versions.items) (length core.shared.commits.items) (end.Served fault) ended between written' mid now → Ends
      hosts_served fault faulted serves keeps stays is =
          hosts_all stays.0 keeps
          (end_told Kept s net net' core ended written between written' before mid now (end.Served fault) serves
          (subst (λ faulted. IsHostEndTold faulted (length core.shared.versions.items) (length core.shared.commits.items) (end.Served fault) ended between written' mid now) stays.1 is))

      -- Where it was: what was sent on the links and what the journal keeps.
      pub record Stops (server : Server) : Type 0 where
        pub kept : List RoleCall
        pub gone : HasGone (AreKept kept) s net net' WithoutMemory server
        pub keeps : ForSome net'.links (λ after. FromChosen name first behind (KeepsJournal s server kept))

      -- by what a link tells of what is kept
      stops_by : (server : Server) (after : List Linked) → net'.links ≡ Some after → HasGone Kept s net net' WithoutMemory server → (told : List RoleCall) → (k : Kept told server.shared.commits)
          → HasMade (AreKept k.calls) s WithoutMemory net.links after net.faults.accepts net'.faults.accepts server → Stops server
      stops_by server after is gone told_so k made = record {
        kept = k.calls;
        gone = record {
          links = λ other known. let same : after ≡ other = cc in
              subst (λ after. HasMade (AreKept k.calls) s WithoutMemory net.links after net.faults.accepts net'.faults.accepts server) same made;
          listened = gone.listened;
          faults = gone.faults;
        };
        keeps = λ other known. journal_kept s name image first middle server behind journal k.commits k.calls is_image k.alike k.only_made told k.keeps;
      }

      stops_made : (server : Server) (after : List Linked) → net'.links ≡ Some after → HasGone Kept s net net' WithoutMemory server → (told : List RoleCall) × Kept told server.shared.commits
          → HasMade Kept s WithoutMemory net.links after net.faults.accepts net'.faults.accepts server → Stops server
      stops_made server after is gone kept made = by made.makes.1
        where
          made_as : (calls : List RoleCall) → MakesLinks (AreKept calls) s WithoutMemory made.made net.faults.accepts net'.faults.accepts server → HasMade (AreKept calls) s WithoutMemory net.links after net.faults.accepts net'.faults.accepts server
          made_as calls makes = record { before = made.before; made = made.made; told = made.told; all = made.all; at_port = made.at_port; makes = makes }

          by : ((some : Bool) × AreServedOn Kept s made.made some server) ⊎ AreServedLacking Kept s made.made server → Stops server
          by (inl served) =
              let k = kept.1 in
              stops_by server after is gone kept.0 k
              (made_as k.calls (made.makes.0, inl (served.0, as_links Kept (AreKept k.calls) s made.made served.0 server served.1)))
          by (inr lacking) =
              let P = s.program.program in
              let own = s.program.digest in
              let turns = last_turn s.slice in
              let k = part_kept sha256 P own turns Kept Kept (first_server s) made.made server lacking in
              stops_by server after is gone _ k
              (made_as k.calls (made.makes.0, inr (part_as sha256 P own turns Kept (AreKept k.calls) (first_server s) made.made server lacking (k.all_told, k.only_made))))

      stops : (server : Server) → HasGone Kept s net net' WithoutMemory server → ForSome net'.links (λ after. (told : List RoleCall) × Kept told server.shared.commits) → Stops server
      stops server gone kept = by net'.links refl
        where
          by : (o : Option (List Linked)) → net'.links ≡ o → Stops server
          by None none = record {
            kept = server.shared.commits;
            gone = record { links = λ after known. absurd (cc); listened = gone.listened; faults = gone.faults };
            keeps = λ after known. absurd (cc);
          }
          by (Some after) is = stops_made server after is gone (kept after is) (gone.links after is)

      abbrev StopTold : Bool → Type 0
      StopTold faulted = IsHostEndTold faulted (length core.shared.versions.items) (length core.shared.commits.items) end.Stopped ended between written' mid now

      -- it was stopped for want of memory, or since the disk failed
      hosts_stopped : (faulted : Bool) → ServesCourse Kept s net net' core (Ok end.Stopped) written between before mid
          → HasStayed middle.write_faults behind.write_faults false faulted ⊎ (Rose middle.write_faults behind.write_faults × (faulted ≡ true))
          → IsHostEndTold faulted (length core.shared.versions.items) (length core.shared.commits.items) end.Stopped ended between written' mid now → Ends
      hosts_stopped faulted serves fails is = by fails
        where
          stop : Stops serves.server
          stop = stops serves.server (subst (λ course. HasGone Kept s net net' course serves.server) serves.is_told.0 serves.gone) serves.kept

          by : HasStayed middle.write_faults behind.write_faults false faulted ⊎ (Rose middle.write_faults behind.write_faults × (faulted ≡ true)) → Ends
          by (inl stays) = record {
            course = Goes WithoutMemory;
            server = serves.server;
            kept = stop.kept;
            gone = stop.gone;
            all = tt;
            keeps = stop.keeps;
            fails = (reads, stays.0);
            is_told = lacking_told Kept s net net' core ended written between written' before mid now serves.is_told.1 serves.is_told.2 serves.server (subst StopTold stays.1 is);
          }
          by (inr (rose, failed)) = let so = subst StopTold failed is in record {
            course = NotKept;
            server = serves.server;
            kept = stop.kept;
            gone = stop.gone;
            all = tt;
            keeps = stop.keeps;
            fails = (reads, rose);
            is_told = (so.0, so.1 ∙ serves.is_told.1, so.2 ∙ serves.is_told.2);
          }

      -- behind the line that stands before the links
      pub hosts_on : (e : ServingEnd) (faulted : Bool) → ServesCourse Kept s net net' core (Ok e) written between before mid → KeepsSoFar (Keeps core.shared.commits.items) (Ok e)
          → KeeperFails middle.write_faults behind.write_faults false faulted (Ok e)
          → IsHostEndTold faulted (length core.shared.versions.items) (length core.shared.commits.items) e ended between written' mid now → Ends
      hosts_on (end.Served fault) faulted serves keeps fails is = hosts_served fault faulted serves keeps fails is
      hosts_on end.Stopped faulted serves keeps fails is = hosts_stopped faulted serves fails is
