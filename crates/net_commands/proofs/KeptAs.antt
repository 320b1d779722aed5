-- How commits are kept counts only where serving is stopped: links that were served otherwise are served so, whatever is said of it.
use Rattle.std.proofs.Common.{◌≡◌, ℕ, Bool, List, [], ◌∷◌, inl, inr, refl}
use Rattle.sha2.specs.Sha256.{sha256}
use Rattle.core_terms.specs.Formats.{Hash}
use Rattle.core_terms.specs.Terms.{Program}
use Rattle.lam_outside.specs.Links.{Linked}
use Rattle.link_ends.specs.MoreLinks.{bytes_on}
use Rattle.link_ends.specs.declared.end.ConnectionEnd.{ConnectionEnd}
use Rattle.link_ends.specs.declared.end.ConnectionEnd.TheVariants as connection
use Rattle.session_meaning.specs.Calls.{RoleCall}
use Rattle.session_meaning.specs.Server.{Server, last_turn, server_after}
use Rattle.serve_links.specs.Connections.{AnyKept, IsServed}
use Rattle.serve_links.specs.ServedLinks.{AreServed, AreServedInPart}
use Rattle.command_parts.specs.Answer.{Serving}
use Rattle.net_commands.specs.OnlineRuns.{NetSeen}
use Rattle.net_commands.specs.Courses.{Course, NotListening, NotWritten, Served, WithoutMemory}
use Rattle.net_commands.specs.Serving.{AreServedOn, HasGone, MakesLinks, first_server}

module _ (hash : Hash) (P : Program) (own : List ℕ) (ending : ℕ → ℕ) (Kept Other : (told made : List RoleCall) → Type 0) where
  link_as : (server : Server) (bytes taken sent : List ℕ) (end : ConnectionEnd) (behind : Server) → (end ≡ connection.Stopped → ⊥)
      → IsServed hash P own ending Kept server bytes taken sent end behind → IsServed hash P own ending Other server bytes taken sent end behind
  link_as server bytes taken sent connection.Over behind goes served = served
  link_as server bytes taken sent connection.LinkFault behind goes served = served
  link_as server bytes taken sent connection.Stopped behind goes served = absurd (goes refl)

  -- links that were not stopped
  pub served_as : (server : Server) (links : List Linked) (faulted : Bool) (behind : Server) → AreServed hash P own ending Kept server links faulted behind
      → AreServed hash P own ending Other server links faulted behind
  served_as server [] faulted behind are = are
  served_as server (link ∷ links) faulted behind (first, others, next, is, are, e) = (
    first,
    others,
    next,
    record {
      end = is.end;
      served = record { served = link_as server (bytes_on link) link.given link.sent is.end next is.unstopped is.served.served; prompt = is.served.prompt };
      unstopped = is.unstopped;
      fault = is.fault;
    },
    served_as next links others behind are,
    e,
  )

  -- the commits that were told on the last of links that were stopped on it
  abbrev pub told_on : (server : Server) (links : List Linked) (behind : Server) → AreServedInPart hash P own ending Kept server links behind → List RoleCall
  told_on server links behind are = (server_after hash P own ending are.next are.broken.served.0).shared.commits

  -- on the last of which the commits are kept so too
  pub part_as : (server : Server) (links : List Linked) (behind : Server) (are : AreServedInPart hash P own ending Kept server links behind)
      → Other (told_on server links behind are) behind.shared.commits → AreServedInPart hash P own ending Other server links behind
  part_as server links behind are kept = record {
    before = are.before;
    last = are.last;
    all = are.all;
    faulted = are.faulted;
    next = are.next;
    served = served_as server are.before are.faulted are.next are.served;
    broken = record { served = (are.broken.served.0, are.broken.served.1, are.broken.served.2, kept); prompt = are.broken.prompt };
  }

  pub part_kept : (server : Server) (links : List Linked) (behind : Server) (are : AreServedInPart hash P own ending Kept server links behind)
      → Kept (told_on server links behind are) behind.shared.commits
  part_kept server links behind are = are.broken.served.3

-- ---- a course

module _ (Kept Other : (told made : List RoleCall) → Type 0) (s : Serving) where
  pub as_links : (made : List Linked) (faulted : Bool) (server : Server) → AreServedOn Kept s made faulted server → AreServedOn Other s made faulted server
  as_links made faulted server are =
      served_as sha256 s.program.program s.program.digest (last_turn s.slice) Kept Other (first_server s) made faulted server are

  -- where the commits of the server are kept otherwise, if they are kept so
  module _ (server : Server) (weaker : (told : List RoleCall) → Kept told server.shared.commits → Other told server.shared.commits) where
    makes_as : (course : Course) (made : List Linked) (accepts accepts' : ℕ) → MakesLinks Kept s course made accepts accepts' server
        → MakesLinks Other s course made accepts accepts' server
    makes_as NotListening made accepts accepts' makes = makes
    makes_as NotWritten made accepts accepts' makes = makes
    makes_as (Served faulted) made accepts accepts' makes = (makes.0, as_links made makes.0 server makes.1, makes.2)
    makes_as WithoutMemory made accepts accepts' (few, inl served) = (few, inl (served.0, as_links made served.0 server served.1))
    makes_as WithoutMemory made accepts accepts' (few, inr lacking) =
        let P = s.program.program in
        let own = s.program.digest in
        let turns = last_turn s.slice in (
          few,
          inr (part_as sha256 P own turns Kept Other (first_server s) made server lacking (weaker _ (part_kept sha256 P own turns Kept Other (first_server s) made server lacking))),
        )

    pub gone_as : (net net' : NetSeen) (course : Course) → HasGone Kept s net net' course server → HasGone Other s net net' course server
    gone_as net net' course gone = record {
      links = λ after known. let made = gone.links after known in record {
        before = made.before;
        made = made.made;
        told = made.told;
        all = made.all;
        at_port = made.at_port;
        makes = makes_as course made.made net.faults.accepts net'.faults.accepts made.makes;
      };
      listened = gone.listened;
      faults = gone.faults;
    }

pub any_kept : (Kept : (told made : List RoleCall) → Type 0) (s : Serving) (net net' : NetSeen) (course : Course) (server : Server) → HasGone Kept s net net' course server
    → HasGone AnyKept s net net' course server
any_kept Kept s net net' course server gone = gone_as Kept AnyKept s server (λ told kept. tt) net net' course gone
