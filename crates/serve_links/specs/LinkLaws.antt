-- What links leave of a server's versions.
use Rattle.std.specs.Prelude.{ℕ, Bool, List}
use Rattle.core_terms.specs.Formats.{Hash}
use Rattle.core_terms.specs.Terms.{Program}
use Rattle.lam_outside.specs.Links.{Linked}
use Rattle.session_meaning.specs.Server.{Server}
use Rattle.session_meaning.specs.ServedHistories.{IsHistory}
use Rattle.serve_links.specs.Connections.{AnyKept}
use Rattle.serve_links.specs.ServedLinks.{AreServed, AreServedInPart}

-- each version of the server but the first is made of the one before it by its commit
abbrev pub KeepsHistory : Program → Server → Type 0
KeepsHistory P server = IsHistory P server.shared.versions server.shared.commits

-- So it is behind any links that it served, whatever came on them, however they ended, and whatever more is said of how commits are kept.
abbrev pub LinksKeepHistory : Type 0
LinksKeepHistory = (hash : Hash) (P : Program) (own : List ℕ) (ending : ℕ → ℕ) (server : Server) (links : List Linked) (faulted : Bool) (behind : Server)
    → KeepsHistory P server → AreServed hash P own ending AnyKept server links faulted behind → KeepsHistory P behind

-- And so it is where serving was stopped on the last of them.
abbrev pub PartsKeepHistory : Type 0
PartsKeepHistory = (hash : Hash) (P : Program) (own : List ℕ) (ending : ℕ → ℕ) (server : Server) (links : List Linked) (behind : Server)
    → KeepsHistory P server → AreServedInPart hash P own ending AnyKept server links behind → KeepsHistory P behind
