-- A connection of a mirror, also one that breaks off: what was sent on it.
use Rattle.std.specs.Prelude.{◌≡◌, ◌≤◌, ℕ, List, length, take}
use Rattle.ideal_meaning.specs.Fetched.{Got}
use Rattle.session_meaning.specs.FetchMessages.{answers_sent, answers_to, asked_in, fetches_limit}
use Rattle.link_ends.specs.MoreLinks.{but_last}
use Rattle.link_ends.specs.declared.end.ConnectionEnd.{ConnectionEnd}
use Rattle.link_ends.specs.declared.end.ConnectionEnd.TheVariants.{Over, LinkFault, Stopped}

module _ (get : List ℕ → Got) where
  -- all that is answered to these digests but the last was sent, and of the answer to the last a front
  abbrev pub IsSentPart : (digests : List (List ℕ)) → (sent : List ℕ) → Type 0
  IsSentPart digests sent =
      (n : ℕ) × (length (answers_to get (but_last digests)) ≤ n) × (n ≤ length (answers_to get digests)) × (sent ≡ take n (answers_to get digests))

  -- On a link on which these bytes come a mirror took a front of them and sent this, and the connection ended so. Where it is over, all was
  -- sent that is answered to what is asked for in the bytes. Where the link failed or it was stopped, each digest that is asked for in the
  -- bytes that were taken was answered, the last one perhaps in part.
  abbrev pub IsAnswered : (bytes taken sent : List ℕ) → ConnectionEnd → Type 0
  IsAnswered bytes taken sent Over = sent ≡ answers_sent fetches_limit get bytes
  IsAnswered bytes taken sent LinkFault = IsSentPart (asked_in fetches_limit taken) sent
  IsAnswered bytes taken sent Stopped = IsSentPart (asked_in fetches_limit taken) sent
