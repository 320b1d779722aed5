-- How a serving went, by what `listen` and the serving of links left.
use Rattle.std.proofs.Common.{◌≡◌, ◌≤◌, inl, inr, ℕ, Bool, true, false, List, [], length, Option, Some, None, append-nil, refl, ap, sym, ◌∙◌, subst, subst₂, arith}
use Rattle.std.specs.List.{AllByRecursion}
use Rattle.std.specs.Option.{ForSome}
use Rattle.sha2.specs.Sha256.{sha256}
use Rattle.lam_outside.specs.Causes.{Rose}
use Rattle.lam_outside.specs.Links.{Linked}
use Rattle.session_meaning.specs.Calls.{RoleCall}
use Rattle.session_meaning.specs.Server.{Server, last_turn}
use Rattle.serve_core.specs.Serving.{Serves}
use Rattle.serve_core.specs.declared.server.ServeCore.{ServeCore}
use Rattle.link_ends.specs.MoreLinks.{AreMore}
use Rattle.link_ends.specs.declared.end.ServingEnd.TheVariants as end
use Rattle.serve_links.specs.HistoriesInCode.{own_digest, program_served, turns_of}
use Rattle.code_gen.specs.Programs.{program_in}
use Rattle.serve_links.specs.ServedLinks.{AreServed, AreServedInPart}
use Rattle.serve_links.specs.ServedLinksInCode.{AreCounted, AreMoreInPart, ServesLinks, StaysOn}
use Rattle.command_parts.specs.Answer.{Serving}
use Rattle.command_parts.specs.FueledRoles.{DigestedProgram}
use Rattle.command_parts.specs.ReadPrograms.{digested_of}
use Rattle.net_commands.specs.NetFaults.{NetFaults}
use Rattle.net_commands.specs.OnlineRuns.{NetSeen}
use Rattle.net_commands.specs.Courses.{AreMade, Course, HasFaults, NotListening, NotWritten, Served, WithoutMemory, listened_behind}
use Rattle.net_commands.specs.Serving.{AreServedLacking, AreServedOn, HasGone, MakesLinks, first_server}
use Rattle.net_commands.specs.ServeSteps.{HasMade}
use Rattle.net_commands.proofs.Courses.{are_made}

-- no link was made
made_none : (Kept : (told made : List RoleCall) → Type 0) (s : Serving) (links links' : Option (List Linked)) (accepts accepts' : ℕ) → links' ≡ links → ForSome links' (λ after. HasMade Kept s NotWritten links after accepts accepts' (first_server s))
made_none Kept s links links' accepts accepts' same = λ after known. record {
  before = after;
  made = [];
  told = sym same ∙ known;
  all = sym (append-nil after);
  at_port = tt;
  makes = (refl, refl);
}

made_unheard : (Kept : (told made : List RoleCall) → Type 0) (s : Serving) (links links' : Option (List Linked)) (accepts accepts' : ℕ) → links' ≡ links → ForSome links' (λ after. HasMade Kept s NotListening links after accepts accepts' (first_server s))
made_unheard Kept s links links' accepts accepts' same = λ after known. record {
  before = after;
  made = [];
  told = sym same ∙ known;
  all = sym (append-nil after);
  at_port = tt;
  makes = (refl, refl);
}

module _ (Kept : (told made : List RoleCall) → Type 0) (s : Serving) (net net' : NetSeen) (links : net'.links ≡ net.links) where
  -- it could not listen
  pub not_listening : net'.listened ≡ net.listened → Rose net.faults.listens net'.faults.listens → net'.faults.links ≡ net.faults.links → net'.faults.accepts ≡ net.faults.accepts
      → net'.faults.dials ≡ net.faults.dials → HasGone Kept s net net' NotListening (first_server s)
  not_listening listened rose of_links accepts dials = record {
    links = made_unheard Kept s net.links net'.links net.faults.accepts net'.faults.accepts links;
    listened = listened;
    faults = (rose, of_links, accepts, dials);
  }

  -- the line that says so could not be written
  pub not_written : net'.listened ≡ Some s.port → net'.faults ≡ net.faults → HasGone Kept s net net' NotWritten (first_server s)
  not_written listened same = record {
    links = made_none Kept s net.links net'.links net.faults.accepts net'.faults.accepts links;
    listened = listened;
    faults = same;
  }

-- ---- links were served

-- The core is a server that is left by a course.
pub record IsLeft (Kept : (told made : List RoleCall) → Type 0) (s : Serving) (course : Course) (links links' : Option (List Linked)) (accepts accepts' : ℕ) {A G : Type 0} (core : ServeCore A G) : Type 0 where
  pub server : Server
  pub made : ForSome links' (λ after. HasMade Kept s course links after accepts accepts' server)
  pub serves : Serves sha256 core server

-- The same where serving was stopped, and its commits are kept so.
pub record IsStoppedLeft (Kept : (told made : List RoleCall) → Type 0) (s : Serving) (links links' : Option (List Linked)) (accepts accepts' : ℕ) {A G : Type 0} (core : ServeCore A G) : Type 0 where
  pub left : IsLeft Kept s WithoutMemory links links' accepts accepts' core
  pub kept : ForSome links' (λ after. (told : List RoleCall) × Kept told left.server.shared.commits)

module _ (Kept : (told made : List RoleCall) → Type 0) {A G : Type 0} (s : Serving) (old core : ServeCore A G) (port connections : ℕ) (program : digested_of (program_in old.code) ≡ s.program) (slice : old.slice ≡ s.slice) (at : port ≡ s.port)
    (most : connections ≡ s.links) (links links' : Option (List Linked)) (accepts accepts' : ℕ) where
  abbrev Left : Course → Type 0
  Left course = IsLeft Kept s course links links' accepts accepts' core

  as_served : (made : List Linked) (faulted : Bool) (behind : Server)
      → AreServed sha256 (program_served old) (own_digest old) (turns_of old) Kept (first_server s) made faulted behind → AreServedOn Kept s made faulted behind
  as_served made faulted behind h =
      subst₂ (λ (p : DigestedProgram) (k : ℕ). AreServed sha256 p.program p.digest (last_turn k) Kept (first_server s) made faulted behind) program slice h

  as_lacking : (made : List Linked) (behind : Server)
      → AreServedInPart sha256 (program_served old) (own_digest old) (turns_of old) Kept (first_server s) made behind → AreServedLacking Kept s made behind
  as_lacking made behind h =
      subst₂ (λ (p : DigestedProgram) (k : ℕ). AreServedInPart sha256 p.program p.digest (last_turn k) Kept (first_server s) made behind) program slice h

  made_of : (course : Course) (after more : List Linked) (behind : Server) → AreMore port links after more → MakesLinks Kept s course more accepts accepts' behind
      → HasMade Kept s course links after accepts accepts' behind
  made_of course after more behind are makes = record {
    before = are.before;
    made = more;
    told = are.told;
    all = are.all;
    at_port = subst (λ n. AllByRecursion (λ (link : Linked). link.port ≡ n) more) at are.at_port;
    makes = makes;
  }

  -- where the links behind are told, they are these
  for_told : (course : Course) (after : List Linked) (behind : Server) → links' ≡ Some after → HasMade Kept s course links after accepts accepts' behind
      → ForSome links' (λ after. HasMade Kept s course links after accepts accepts' behind)
  for_told course after behind told made = λ other known. let same : after ≡ other = cc in subst (λ after. HasMade Kept s course links after accepts accepts' behind) same made

  not_told : (course : Course) (behind : Server) → links' ≡ None → ForSome links' (λ after. HasMade Kept s course links after accepts accepts' behind)
  not_told course behind none = λ after known. absurd (cc)

  counted_left : (fault : Bool) (after : List Linked) → links' ≡ Some after → AreCounted sha256 Kept old core (first_server s) port links after connections fault accepts accepts' → Left (Served fault)
  counted_left fault after told h = record {
    server = h.served.behind;
    made = for_told (Served fault) after h.served.behind told
        (made_of (Served fault) after h.served.more h.served.behind h.served.are (h.faulted, as_served h.served.more h.faulted h.served.behind h.served.served, number));
    serves = h.served.serves;
  }
    where
      number : AreMade s.links h.served.more h.faulted fault accepts accepts'
      number = are_made connections s.links h.count h.served.more h.faulted fault accepts accepts' h.served.number most h.number

  part_left : (after : List Linked) → links' ≡ Some after → AreMoreInPart sha256 Kept old core (first_server s) port links after connections → Left WithoutMemory
  part_left after told h = record {
    server = h.behind;
    made = for_told WithoutMemory after h.behind told
        (made_of WithoutMemory after h.more h.behind h.are (within h.number, inr (as_lacking h.more h.behind h.served)));
    serves = h.serves;
  }
    where
      within : length h.more ≤ connections → length h.more ≤ s.links
      within few = omega (arith, few, most)

  -- by how the serving of the links ended
  pub served_left : (fault : Bool) → StaysOn sha256 core (end.Served fault) → ServesLinks sha256 Kept old core (first_server s) port links links' connections accepts accepts' (end.Served fault)
      → Left (Served fault)
  served_left fault stays serves = by links' refl
    where
      by : (o : Option (List Linked)) → links' ≡ o → Left (Served fault)
      by None none = record { server = stays.server; made = not_told (Served fault) stays.server none; serves = stays.serves }
      by (Some after) told = counted_left fault after told (serves after told)

  pub lacking_left : StaysOn sha256 core end.Stopped → ServesLinks sha256 Kept old core (first_server s) port links links' connections accepts accepts' end.Stopped
      → IsStoppedLeft Kept s links links' accepts accepts' core
  unfolding part_left
  lacking_left stays serves = by links' refl
    where
      by : (o : Option (List Linked)) → links' ≡ o → IsStoppedLeft Kept s links links' accepts accepts' core
      by None none = record {
        left = record { server = stays.0; made = not_told WithoutMemory stays.0 none; serves = stays.1 };
        kept = λ after known. absurd (cc);
      }
      by (Some after) told =
          let part = serves after told in
          record { left = part_left after told part; kept = λ other known. (_, part.served.broken.served.3) }

-- where memory is wanting for the line behind all of them
pub gone_lacking : (Kept : (told made : List RoleCall) → Type 0) (s : Serving) (fault : Bool) (net net' : NetSeen) (server : Server) → HasGone Kept s net net' (Served fault) server
    → HasGone Kept s net net' WithoutMemory server
gone_lacking Kept s fault net net' server gone = record {
  links = λ after known. let made = gone.links after known in record {
    before = made.before;
    made = made.made;
    told = made.told;
    all = made.all;
    at_port = made.at_port;
    makes = (within made.made made.makes.0 made.makes.2, inl (made.makes.0, made.makes.1));
  };
  listened = gone.listened;
  faults = faults_lacking fault gone.faults;
}
  where
    within : (made : List Linked) (some : Bool) → AreMade s.links made some fault net.faults.accepts net'.faults.accepts → length made ≤ s.links
    within made some (inl (all, same)) = omega (arith, all)
    within made some (inr (few, is, rose)) = omega (arith, few)

    faults_lacking : (fault : Bool) → HasFaults (Served fault) net.faults net'.faults → HasFaults WithoutMemory net.faults net'.faults
    faults_lacking true has = (has.1, has.2)
    faults_lacking false has = (ap (λ (f : NetFaults). f.listens) has, ap (λ (f : NetFaults). f.dials) has)

-- what was listened to and the counts stand so behind it
pub left_gone : (Kept : (told made : List RoleCall) → Type 0) {A G : Type 0} (s : Serving) (course : Course) (net net' : NetSeen) (core : ServeCore A G) (left : IsLeft Kept s course net.links net'.links net.faults.accepts net'.faults.accepts core)
    → net'.listened ≡ listened_behind s.port course net.listened → HasFaults course net.faults net'.faults → HasGone Kept s net net' course left.server
left_gone Kept s course net net' core left listened faults = record { links = left.made; listened = listened; faults = faults }
