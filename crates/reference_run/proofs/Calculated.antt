-- Operations on operands that were told.
use Rattle.std.proofs.Common.{◌≡◌, ℕ, List, Result, Ok, sym, subst}
use Rattle.core_terms.specs.Values.{Value}
use Rattle.ideal_meaning.specs.Run.{then_run}
use Rattle.ideal_meaning.specs.Ideal.{Opened}
use Rattle.reference_run.specs.PlainValues.{plain_of}
use Rattle.reference_run.specs.Telling.{Evaluation, TellsBehind, Tells}
use Rattle.reference_run.specs.declared.stop.Stop.{Stop}
use Rattle.reference_run.specs.declared.values.Plain.{Plain}

-- what is told of what goes on behind operands that are there goes on behind every run that they tell
pub behind : {R A : Type 0} (of : R → A) (go : A → ℕ → List Opened → Evaluation Value) (operands : Result R Stop) (given : R) (result : Result Plain Stop) → operands ≡ Ok given
    → ((k : ℕ) (seen : List Opened) → Tells plain_of k result (go (of given) k seen)) → TellsBehind of go operands result
behind of go operands given result is on k run h =
    let told : Tells of k (Ok given) run = subst (λ o. Tells of k o run) is h in
    subst (λ run. Tells plain_of k result (then_run run go)) (sym told.1) (on k told.0)
