-- What a serving leaves of the versions of a state.
use Rattle.std.specs.Prelude.{ℕ, List}
use Rattle.lam_outside.specs.Links.{Linked}
use Rattle.serve_links.specs.Connections.{AnyKept}
use Rattle.session_meaning.specs.Server.{Server}
use Rattle.session_meaning.specs.ServedHistories.{IsHistory}
use Rattle.command_parts.specs.Answer.{Serving}
use Rattle.net_commands.specs.Courses.{Course}
use Rattle.net_commands.specs.Serving.{MakesLinks}

-- Whatever course a serving takes, and whatever comes on its links: each version that the server has in the end, but the first, is what the ideal
-- run of an update makes of the one before it, which its commit names, where it began so, as with a first version or with what a journal keeps, and
-- whatever more is said of how commits are kept. So the last one is made by all of them in turn.
abbrev pub VersionsAreServed : Type 0
VersionsAreServed = (s : Serving) (course : Course) (made : List Linked) (accepts accepts' : ℕ) (server : Server)
    → IsHistory s.program.program s.begun.versions s.begun.commits → MakesLinks AnyKept s course made accepts accepts' server
    → IsHistory s.program.program server.shared.versions server.shared.commits
