-- Rows for what is true of a play.
use Rattle.std.specs.Prelude.{◌≡◌, ℕ, List, []}
use Rattle.core_terms.specs.Roles.{Role}
use Rattle.session_meaning.specs.Client.{Answer}
use Rattle.session_meaning.specs.Messages.{Hello, Call, Bye, Go, Stop, Request}
use Rattle.script_play.specs.PlayRuns.{IsOfNone}
use Rattle.script_play.specs.Plays.{Sends, Tells, Stops}

-- GO and the end of replies come of no event, and nothing else does
pub of_none : (rounds : ℕ) (stop : Stop) → IsOfNone (Sends (Go rounds)) × IsOfNone (Stops stop)
of_none rounds stop = (tt, tt)

pub of_one : (session n role fuel : ℕ) (called : Role) (answer : Answer) (program state : List ℕ) → (IsOfNone (Tells session called answer) → ⊥) × (IsOfNone (Sends (Hello session program n state)) → ⊥)
    × (IsOfNone (Sends (Call session role fuel state)) → ⊥) × (IsOfNone (Sends (Bye session)) → ⊥)
of_one session n role fuel called answer program state = ((λ d. d), (λ d. d), (λ d. d), (λ d. d))
