-- Links that a server serves one after another.
use Rattle.std.specs.Prelude.{◌≡◌, ℕ, Bool, false, ◌||◌, List, [], ◌∷◌, ◌++◌, Some}
use Rattle.std.specs.List.{AllByRecursion}
use Rattle.core_terms.specs.Formats.{Hash}
use Rattle.core_terms.specs.Terms.{Program}
use Rattle.lam_outside.specs.Links.{Linked}
use Rattle.session_meaning.specs.Calls.{RoleCall}
use Rattle.session_meaning.specs.Server.{Server}
use Rattle.link_ends.specs.Ends.{is_fault}
use Rattle.link_ends.specs.MoreLinks.{bytes_on}
use Rattle.link_ends.specs.declared.end.ConnectionEnd.{ConnectionEnd}
use Rattle.link_ends.specs.declared.end.ConnectionEnd.TheVariants as connection
use Rattle.link_ends.specs.declared.end.ServingEnd.TheVariants.{Stopped}
use Rattle.serve_links.specs.Connections.{IsServed}
use Rattle.serve_links.specs.Prompt.{IsPrompt}

-- `Kept` says how commits are kept where serving is stopped.
module _ (hash : Hash) (P : Program) (own : List ℕ) (ending : ℕ → ℕ) (Kept : (told made : List RoleCall) → Type 0) where
  -- This link was served, and ended so; and at each read all that is replied to the messages of the bytes that were taken by then had been sent, and
  -- no more.
  pub record IsServedOn (server : Server) (link : Linked) (end : ConnectionEnd) (behind : Server) : Type 0 where
    pub served : IsServed hash P own ending Kept server (bytes_on link) link.given link.sent end behind
    pub prompt : AllByRecursion (IsPrompt hash P own ending server (bytes_on link) (Some [])) link.reads

  -- a link was served and not stopped
  pub record IsLinkServed (server : Server) (link : Linked) (faulted : Bool) (behind : Server) : Type 0 where
    pub end : ConnectionEnd
    pub served : IsServedOn server link end behind
    pub unstopped : end ≡ connection.Stopped → ⊥
    pub fault : faulted ≡ is_fault end

  -- These links were served one after another, each by the server that the one before it left; whether one of them ended in a link
  -- fault, and the server behind them.
  abbrev pub AreServed : Server → List Linked → (faulted : Bool) → (behind : Server) → Type 0
  AreServed server [] faulted behind = (faulted ≡ false) × (behind ≡ server)
  AreServed server (link ∷ links) faulted behind =
      (first others : Bool) × (next : Server) × IsLinkServed server link first next × AreServed next links others behind × (faulted ≡ first || others)

  -- The same of these links, but that serving was stopped on the last one.
  pub record AreServedInPart (server : Server) (links : List Linked) (behind : Server) : Type 0 where
    pub before : List Linked
    pub last : Linked
    pub all : links ≡ before ++ last ∷ []
    pub faulted : Bool
    pub next : Server
    pub served : AreServed server before faulted next
    pub broken : IsServedOn next last connection.Stopped behind
