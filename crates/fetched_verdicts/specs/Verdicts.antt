-- The verdict of a verifier that gets its pieces of a store: the next piece is what the store answers to the digest that is held. There is no
-- header, and no byte is left over.
use Rattle.std.specs.Prelude.{◌≡◌, ℕ, List, [], ◌∷◌}
use Rattle.core_terms.specs.Formats.{Hash}
use Rattle.core_terms.specs.Reading.{Read, Good, BadAt}
use Rattle.core_terms.specs.Projection.{read_at}
use Rattle.core_terms.specs.Terms.{Program}
use Rattle.core_terms.specs.Types.{Ty}
use Rattle.core_terms.specs.Values.{Value, Values, NoV, AndV}
use Rattle.ideal_meaning.specs.Checked.{Cause, Taking, Verdict, BadState, BadArgument, checked_mode_as, digest_in, take_as}
use Rattle.ideal_meaning.specs.Fetched.{Got, Answered, answered, asking, ended}
use Rattle.ideal_meaning.specs.PieceForms.{as_whole}
use Rattle.ideal_meaning.specs.Run.{Mode, Run}
use Rattle.ideal_meaning.specs.Called.{call_from}

module _ (hash : Hash) (P : Program) (get : List ℕ → Got) where
  -- the checked mode, where the next piece is the answer to the digest that is held
  abbrev pub mode_over : Mode Cause Taking
  mode_over = record {
    auth = (checked_mode_as hash P (as_whole hash P)).auth;
    unauth = λ t v w. take_as hash P (as_whole hash P) t (digest_in v) w.place (answered (get (digest_in v) ∷ [])) w;
  }

  -- a run of function f on shallow values with fuel k
  abbrev pub run_over : ℕ → Values → ℕ → Run Cause Taking Value
  run_over f args k = call_from P mode_over f args k (asking [])

  -- in this order: the state, the argument, the run
  abbrev pub over_argument : Value → Read Value → ℕ → ℕ → Verdict
  over_argument s (BadAt offset) f k = BadArgument offset
  over_argument s (Good a rest end) f k = ended (run_over f (AndV s (AndV a NoV)) k)

  abbrev pub over_state : Ty → Read Value → List ℕ → ℕ → ℕ → Verdict
  over_state t (BadAt offset) argument f k = BadState offset
  over_state t (Good s rest end) argument f k = over_argument s (read_at P t argument) f k

  abbrev pub verdict_over : Ty → ℕ → List ℕ → List ℕ → ℕ → Verdict
  verdict_over t f state argument k = over_state t (read_at P P.state state) argument f k

-- The store gives these answers, one after another, each to the digest then held, up to the end of the run with this verdict.
abbrev pub AreAnswersOf : Hash → (List ℕ → Got) → List Got → Verdict → Type 0
AreAnswersOf hash get answers verdict = Answered {A = Unit {0}} hash (λ old d a new. a ≡ get d) tt answers verdict tt
