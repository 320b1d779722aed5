-- The numbers of sessions.
use Rattle.std.proofs.Common.{◌≡◌, ℕ, ◌≤◌, Bool, true, false, List, Option, Some, None, if◌then◌else◌, refl, subst, leb-true}
use Rattle.std.specs.Prelude.{nat_le}
use Rattle.std.specs.Option.{option_and_then}
use Rattle.number_words.specs.Numbers.{number_within}
use Rattle.number_words.proofs.Numbers.{number_at_most}
use Rattle.ask_script.specs.Scripts.{most_session, session_in}

-- a session that a word tells is 1 to 65,535
pub session_fits : (word : List ℕ) (n : ℕ) → session_in word ≡ Some n → (1 ≤ n) × (n ≤ most_session)
session_fits word n told = by (number_within most_session word) refl told
  where
    at_number : (k : ℕ) → k ≤ most_session → (t : Bool) → nat_le 1 k ≡ t → (if t then Some k else None) ≡ Some n → (1 ≤ n) × (n ≤ most_session)
    at_number k most true one e =
        let same : k ≡ n = cc in subst (λ i. (1 ≤ i) × (i ≤ most_session)) same (leb-true 1 k one, most)
    at_number k most false one e = absurd (cc)

    by : (o : Option ℕ) → number_within most_session word ≡ o
        → option_and_then (λ number. if nat_le 1 number then Some number else None) o ≡ Some n → (1 ≤ n) × (n ≤ most_session)
    by None is e = absurd (cc)
    by (Some k) is e = at_number k (number_at_most most_session word k is) (nat_le 1 k) refl e
