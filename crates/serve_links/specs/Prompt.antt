-- What a server had sent by the time at which it waits for bytes.
use Rattle.std.specs.Prelude.{◌≡◌, ℕ, List, [], ◌∷◌, Option}
use Rattle.std.specs.Io.KnownBytes.{append_known}
use Rattle.core_terms.specs.Formats.{Hash}
use Rattle.core_terms.specs.Terms.{Program}
use Rattle.lam_outside.specs.Moments.{Moment}
use Rattle.session_meaning.specs.Connections.{bytes_sent}
use Rattle.session_meaning.specs.Server.{Server, HearsEnd}
use Rattle.link_ends.specs.MoreLinks.{TakesBytes}
use Rattle.serve_links.specs.Connections.{heard_in}

-- A message is waited for: of those that were taken of these bytes none can be read yet, and no more had been sent than this.
abbrev pub WaitsForOne : List ℕ → Option (List ℕ) → Moment → Type 0
WaitsForOne bytes sent moment = (moment.sent ≡ sent) × ((taken : List ℕ) × TakesBytes bytes taken moment.left × (heard_in taken ≡ HearsEnd ∷ []))

-- On a link on which these bytes come, what the server replies to the messages of those that had been taken by then had been sent, behind this,
-- and no more.
abbrev pub IsPrompt : Hash → Program → (own : List ℕ) → (ending : ℕ → ℕ) → Server → List ℕ → Option (List ℕ) → Moment → Type 0
IsPrompt hash P own ending server bytes sent moment =
    (taken : List ℕ) × TakesBytes bytes taken moment.left × (moment.sent ≡ append_known sent (bytes_sent hash P own ending server taken))
