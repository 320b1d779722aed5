-- The course of a serving, from how the serving of the links ended and how that was told.
use Rattle.std.proofs.Common.{◌≡◌, ◌<◌, inl, inr, ℕ, Bool, true, false, List, length, codes, Option, Some, Ok, Err, refl, ap₂, subst, subst₂, arith}
use Rattle.std.specs.List.{concat}
use Rattle.std.specs.Io.KnownBytes.{append_known}
use Rattle.sha2.specs.Sha256.{sha256}
use Rattle.code_gen.specs.Programs.{program_in}
use Rattle.lam_outside.specs.Links.{Linked}
use Rattle.printed_lines.specs.Lines.{listening_line}
use Rattle.serve_core.specs.Serving.{Serves}
use Rattle.serve_core.specs.declared.server.ServeCore.{ServeCore}
use Rattle.link_ends.specs.EndCauses.{ServingCause}
use Rattle.link_ends.specs.declared.end.ServingEnd.{ServingEnd}
use Rattle.link_ends.specs.declared.end.ServingEnd.TheVariants as end
use Rattle.serve_links.specs.ServedLinksInCode.{ServesLinks, StaysOn}
use Rattle.session_meaning.specs.Calls.{RoleCall}
use Rattle.session_meaning.specs.Server.{Server}
use Rattle.session_turns.specs.Sharing.{IsCommit}
use Rattle.session_turns.specs.Versions.{IsVersion}
use Rattle.session_turns.proofs.Rows.{alike_length}
use Rattle.mode_vm.specs.Meanings.{program_of}
use Rattle.value_store.specs.Stores.{nodes_in}
use Rattle.command_parts.specs.Answer.{Serving}
use Rattle.command_parts.specs.ReadPrograms.{digested_of}
use Rattle.net_commands.specs.ServeSteps.{IsCourseTold, IsEndTold, IsServer, ServesCourse, TellsCourse, ended_course}
use Rattle.net_commands.specs.OnlineRuns.{NetSeen}
use Rattle.net_commands.specs.Courses.{Course, HasFaults, Served, WithoutMemory, course_status}
use Rattle.net_commands.specs.Serving.{HasGone, count_lines, course_lines, first_server, server_lines}
use Rattle.command_parts.specs.Telling.{TellsText}
use Rattle.command_parts.specs.declared.status.Status.{Status}
use Rattle.command_parts.specs.declared.status.Status.TheVariants as status
use Rattle.net_commands.proofs.Courses.{course_told}
use Rattle.net_commands.proofs.KeptAs.{any_kept}
use Rattle.net_commands.proofs.OnlineRuns.{same_faults}
use Rattle.net_commands.proofs.ServeGone.{gone_lacking, lacking_left, left_gone, served_left}

-- ---- the serving of the links

module _ (Kept : (told made : List RoleCall) → Type 0) {A G : Type 0} (s : Serving) (net net' : NetSeen) (old core : ServeCore A G) (written between : Option (List ℕ)) (before mid : ℕ)
    (some : 0 < length core.shared.versions.items) (listened : net'.listened ≡ Some s.port) (listens : net'.faults.listens ≡ net.faults.listens) (dials : net'.faults.dials ≡ net.faults.dials)
    (first : between ≡ append_known written (listening_line s.port)) (same : mid ≡ before) (port connections : ℕ) (program : digested_of (program_in old.code) ≡ s.program)
    (slice : old.slice ≡ s.slice) (at : port ≡ s.port) (most : connections ≡ s.links) where
  abbrev Goes : ServingEnd → Type 0
  Goes e = ServesCourse Kept s net net' core (Ok e) written between before mid

  faults_of : (fault : Bool) → ServingCause net.faults.links net'.faults.links net.faults.accepts net'.faults.accepts (end.Served fault) → HasFaults (Served fault) net.faults net'.faults
  faults_of true cause = (cause, listens, dials)
  faults_of false cause =
      same_faults net.faults.links net'.faults.links net.faults.listens net'.faults.listens net.faults.accepts net'.faults.accepts net.faults.dials net'.faults.dials
      cause.0 listens cause.1 dials

  by_end : (e : ServingEnd) → StaysOn sha256 core e → ServesLinks sha256 Kept old core (first_server s) port net.links net'.links connections net.faults.accepts net'.faults.accepts e
      → ServingCause net.faults.links net'.faults.links net.faults.accepts net'.faults.accepts e → Goes e
  by_end (end.Served fault) stays serves cause =
      let left = served_left Kept s old core port connections program slice at most net.links net'.links net.faults.accepts net'.faults.accepts fault stays serves in record {
        course = Served fault;
        server = left.server;
        gone = left_gone Kept s (Served fault) net net' core left listened (faults_of fault cause);
        server_left = record { serves = left.serves; some = some };
        is_told = (refl, first, same);
        kept = tt;
      }
  by_end end.Stopped stays serves cause =
      let stopped = lacking_left Kept s old core port connections program slice at most net.links net'.links net.faults.accepts net'.faults.accepts stays serves in record {
        course = WithoutMemory;
        server = stopped.left.server;
        gone = left_gone Kept s WithoutMemory net net' core stopped.left listened (listens, dials);
        server_left = record { serves = stopped.left.serves; some = some };
        is_told = (refl, first, same);
        kept = stopped.kept;
      }

  -- on a net that listens, and else is as it was
  pub links_served : (links : Option (List Linked)) (faults accepts : ℕ) → links ≡ net.links → faults ≡ net.faults.links → accepts ≡ net.faults.accepts
      → (e : ServingEnd) → StaysOn sha256 core e → ServesLinks sha256 Kept old core (first_server s) port links net'.links connections accepts net'.faults.accepts e
      → ServingCause faults net'.faults.links accepts net'.faults.accepts e → Goes e
  links_served links faults accepts a b c e stays serves cause =
      by_end e stays
      (subst₂ (λ (links : Option (List Linked)) (accepts : ℕ). ServesLinks sha256 Kept old core (first_server s) port links net'.links connections accepts net'.faults.accepts e) a c serves)
      (subst₂ (λ (faults accepts : ℕ). ServingCause faults net'.faults.links accepts net'.faults.accepts e) b c cause)

-- ---- how it ended is told

-- the lines of the core are those of the server that it is
same_lines : {A G : Type 0} (core : ServeCore A G) (server : Server) → Serves sha256 core server → (fault : Bool)
    → count_lines (length core.shared.versions.items) (length core.shared.commits.items) fault ≡ server_lines server fault
same_lines core server serves fault =
    ap₂ (λ versions commits. count_lines versions commits fault)
    (alike_length (IsVersion sha256 (program_of core.code) (nodes_in core.shared.store)) core.shared.versions.items server.shared.versions serves.shares.versions)
    (alike_length IsCommit core.shared.commits.items server.shared.commits serves.shares.commits)

-- the lines of a course were told
pub record IsToldOn (Kept : (told made : List RoleCall) → Type 0) {A G : Type 0} (s : Serving) (net net' : NetSeen) (core : ServeCore A G) (ended : Status)
    (old new : Option (List ℕ)) (before now : ℕ) : Type 0 where
  pub course : Course
  pub server : Server
  pub gone : HasGone Kept s net net' course server
  pub server_left : IsServer core server
  pub is_told : IsCourseTold s course server ended old new before now

module _ (Kept : (told made : List RoleCall) → Type 0) {A G : Type 0} (s : Serving) (net net' : NetSeen) (core : ServeCore A G) (ended : Status) (written between written' : Option (List ℕ))
    (before mid now : ℕ) (first : between ≡ append_known written (listening_line s.port)) (same : mid ≡ before) where
  abbrev Told : Type 0
  Told = IsToldOn Kept s net net' core ended written written' before now

  -- all of it was told
  told_whole : (fault : Bool) (server : Server) → HasGone Kept s net net' (Served fault) server → IsServer core server
      → TellsText (course_status (Served fault)) (concat (count_lines (length core.shared.versions.items) (length core.shared.commits.items) fault)) ended between written' mid now
      → Told
  told_whole fault server gone is told = record {
    course = Served fault;
    server = server;
    gone = gone;
    server_left = is;
    is_told = course_told s.port (Served fault) (course_lines s (Served fault) server) (listening_line s.port) (concat (server_lines server fault)) refl tt (omega arith) ended written between written' before mid now first same
        (subst (λ (lines : List (List ℕ)). TellsText (course_status (Served fault)) (concat lines) ended between written' mid now) (same_lines core server is.serves fault) told);
  }

  -- memory was wanting
  pub lacking_told : (server : Server) → TellsText status.NoMemory (codes "no memory\n") ended between written' mid now
      → IsCourseTold s WithoutMemory server ended written written' before now
  lacking_told server told =
      course_told s.port WithoutMemory (course_lines s WithoutMemory server) (listening_line s.port) (codes "no memory\n") refl tt (omega arith) ended written between written' before mid now first same told

  told_lacking : (server : Server) → HasGone Kept s net net' WithoutMemory server → IsServer core server
      → TellsText status.NoMemory (codes "no memory\n") ended between written' mid now → Told
  told_lacking server gone is told = record {
    course = WithoutMemory;
    server = server;
    gone = gone;
    server_left = is;
    is_told = lacking_told server told;
  }

  by_told : (e : ServingEnd) (server : Server) → HasGone Kept s net net' (ended_course e) server → IsServer core server
      → IsEndTold (length core.shared.versions.items) (length core.shared.commits.items) e ended between written' mid now → Told
  by_told (end.Served fault) server gone is (inl told) = told_whole fault server gone is told
  by_told (end.Served fault) server gone is (inr told) = told_lacking server (gone_lacking Kept s fault net net' server gone) is told
  by_told end.Stopped server gone is told = told_lacking server gone is told

-- behind the line that stands before the links
pub end_told : (Kept : (told made : List RoleCall) → Type 0) {A G : Type 0} (s : Serving) (net net' : NetSeen) (core : ServeCore A G) (ended : Status) (written between written' : Option (List ℕ))
    (before mid now : ℕ) (e : ServingEnd) → ServesCourse Kept s net net' core (Ok e) written between before mid
    → IsEndTold (length core.shared.versions.items) (length core.shared.commits.items) e ended between written' mid now
    → IsToldOn Kept s net net' core ended written written' before now
end_told Kept s net net' core ended written between written' before mid now e serves told =
    by_told Kept s net net' core ended written between written' before mid now serves.is_told.1 serves.is_told.2 e serves.server
    (subst (λ course. HasGone Kept s net net' course serves.server) serves.is_told.0 serves.gone) serves.server_left told

-- ---- a serving without a keeper

pub tells_served : (Kept : (told made : List RoleCall) → Type 0) {A G : Type 0} (s : Serving) (net net' : NetSeen) (core : ServeCore A G) (ended : Status) (written between written' : Option (List ℕ))
    (before mid now : ℕ) (e : ServingEnd) → ServesCourse Kept s net net' core (Ok e) written between before mid
    → IsEndTold (length core.shared.versions.items) (length core.shared.commits.items) e ended between written' mid now
    → TellsCourse s net net' core ended written written' before now
tells_served Kept s net net' core ended written between written' before mid now e serves told =
    let is = end_told Kept s net net' core ended written between written' before mid now e serves told in record {
      course = is.course;
      server = is.server;
      gone = any_kept Kept s net net' is.course is.server is.gone;
      server_left = is.server_left;
      is_told = is.is_told;
    }

pub tells_unserved : (Kept : (told made : List RoleCall) → Type 0) {A G : Type 0} (s : Serving) (net net' : NetSeen) (core : ServeCore A G) (ended : Status) (written written' : Option (List ℕ))
    (before now : ℕ) → ServesCourse Kept s net net' core (Err ended) written written' before now → TellsCourse s net net' core ended written written' before now
tells_unserved Kept s net net' core ended written written' before now serves = record {
  course = serves.course;
  server = serves.server;
  gone = any_kept Kept s net net' serves.course serves.server serves.gone;
  server_left = serves.server_left;
  is_told = serves.is_told.1;
}
