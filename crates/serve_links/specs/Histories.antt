-- Servers that began as they may, and heard requests that are messages.
use Rattle.std.specs.Prelude.{◌≡◌, ℕ, List}
use Rattle.std.specs.List.{AllByRecursion}
use Rattle.core_terms.specs.Formats.{Hash}
use Rattle.core_terms.specs.Terms.{Program}
use Rattle.session_meaning.specs.Begun.{IsBegun}
use Rattle.session_meaning.specs.ReplyLaws.{IsHeard}
use Rattle.session_meaning.specs.Server.{Server, Shared, Heard, begun_server, server_after}

-- The server is the one behind these heard messages: it began with versions and commits as a server may, and each request that it heard is a message.
pub record HasHistory (hash : Hash) (P : Program) (own : List ℕ) (ending : ℕ → ℕ) (server : Server) : Type 0 where
  pub begun : Shared
  pub before : List Heard
  pub begins : IsBegun P begun
  pub messages : AllByRecursion IsHeard before
  pub is : server ≡ server_after hash P own ending (begun_server begun) before
