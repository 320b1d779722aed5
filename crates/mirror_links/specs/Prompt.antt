-- What a mirror had sent by the time at which it waits for bytes.
use Rattle.std.specs.Prelude.{◌≡◌, ℕ, List, Option}
use Rattle.std.specs.Io.KnownBytes.{append_known}
use Rattle.lam_outside.specs.Moments.{Moment}
use Rattle.ideal_meaning.specs.Fetched.{Got}
use Rattle.session_meaning.specs.FetchMessages.{answers_sent, fetches_limit}
use Rattle.link_ends.specs.MoreLinks.{TakesBytes}

-- On a link on which these bytes come, what is answered to what is asked for in those that had been taken by then had been sent, behind this,
-- and no more.
abbrev pub IsPrompt : (get : List ℕ → Got) → (bytes : List ℕ) → (sent : Option (List ℕ)) → Moment → Type 0
IsPrompt get bytes sent moment =
    (taken : List ℕ) × TakesBytes bytes taken moment.left × (moment.sent ≡ append_known sent (answers_sent fetches_limit get taken))
