-- A serving leaves a history, since its links do.
use Rattle.std.proofs.Common.{inl, inr, ℕ, true, false, List, sym, subst}
use Rattle.sha2.specs.Sha256.{sha256}
use Rattle.session_meaning.specs.Server.{Server as TheServer, last_turn}
use Rattle.serve_links.specs.LinkLaws.{KeepsHistory, LinksKeepHistory, PartsKeepHistory}
use Rattle.command_parts.specs.Answer.{Serving as TheServing}
use Rattle.auth_cli.specs.ServedHistories.{VersionsAreServed}
use Rattle.net_commands.specs.Courses.{NotListening, NotWritten, Served, WithoutMemory}
use Rattle.net_commands.specs.Serving.{first_server}

pub versions_are_served : LinksKeepHistory → PartsKeepHistory → VersionsAreServed
versions_are_served links parts s NotListening made accepts accepts' server begun m = subst (KeepsHistory s.program.program) (sym m.1) begun
versions_are_served links parts s NotWritten made accepts accepts' server begun m = subst (KeepsHistory s.program.program) (sym m.1) begun
versions_are_served links parts s (Served faulted) made accepts accepts' server begun m =
    links sha256 s.program.program s.program.digest (last_turn s.slice) (first_server s) made m.0 server begun m.1
versions_are_served links parts s WithoutMemory made accepts accepts' server begun (few, inl served) =
    links sha256 s.program.program s.program.digest (last_turn s.slice) (first_server s) made served.0 server begun served.1
versions_are_served links parts s WithoutMemory made accepts accepts' server begun (few, inr lacking) =
    parts sha256 s.program.program s.program.digest (last_turn s.slice) (first_server s) made server begun lacking
