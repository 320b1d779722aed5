-- What a result tells of a run goes on behind it.
use Rattle.std.proofs.Common.{◌≡◌, ℕ, Bool, true, false, List, [], ◌∷◌, ◌++◌, Result, Ok, Err, refl, sym, ap, subst}
use Rattle.std.specs.Result.{IsErrAnd}
use Rattle.core_terms.specs.Types.{Ty}
use Rattle.core_terms.specs.Values.{Value, Values}
use Rattle.ideal_meaning.specs.Run.{Gives, Ends, then_run, choose}
use Rattle.ideal_meaning.specs.Ideal.{Opened}
use Rattle.reference_run.specs.PlainValues.{plain_of}
use Rattle.reference_run.specs.Telling.{Evaluation, Tells}
use Rattle.reference_run.specs.declared.stop.Stop.{Stop}
use Rattle.reference_run.specs.declared.stop.Stop.TheVariants.{Trapped, Out, NoMemory}
use Rattle.reference_run.specs.declared.values.Plain.{Plain}

-- a run that is over is over with whatever goes on behind it
pub ended : {R S A B : Type 0} (of : R → A) (into : S → B) (k : ℕ) (stop : Stop) (run : Evaluation A) (go : A → ℕ → List Opened → Evaluation B)
    → Tells of k (Err stop) run → Tells into k (Err stop) (then_run run go)
ended of into k (Trapped trap) run go h = (h.0, ap (λ run. then_run run go) h.1)
ended of into k Out run go h = (h.0, ap (λ run. then_run run go) h.1)
ended of into k NoMemory run go h = tt

-- what is told of what goes on behind a value is told of the whole
pub goes_on : {S A B : Type 0} (into : S → B) (v : A) (k m : ℕ) (seen : List Opened) (run : Evaluation A) (go : A → ℕ → List Opened → Evaluation B) (result : Result S Stop)
    → run ≡ Gives v k seen → Tells into m result (go v k seen) → Tells into m result (then_run run go)
goes_on into v k m seen run go result e h = subst (λ run. Tells into m result (then_run run go)) (sym e) h

-- where memory was wanting nothing is told
pub untold : {S B : Type 0} (into : S → B) (m : ℕ) (stop : Stop) (run : Evaluation B) → stop ≡ NoMemory → Tells into m (Err stop) run
untold into m stop run e = subst (λ stop. Tells into m (Err stop) run) (sym e) tt

-- what is authenticated is its value, and what is opened is noted
pub authenticated : (m : ℕ) (result : Result Plain Stop) (run : Evaluation Value) → Tells plain_of m result run → Tells plain_of m result (then_run run (λ v k seen. Gives v k seen))
authenticated m (Ok v) run h = (h.0, ap (λ run. then_run run (λ v k seen. Gives v k seen)) h.1)
authenticated m (Err stop) run h = ended plain_of plain_of m stop run (λ v k seen. Gives v k seen) h

pub opened : (t : Ty) (m : ℕ) (result : Result Plain Stop) (run : Evaluation Value) → Tells plain_of m result run
    → Tells plain_of m result (then_run run (λ v k seen. Gives v k (seen ++ record { ty = t; value = v } ∷ [])))
opened t m (Ok v) run h =
    (h.0 ++ record { ty = t; value = plain_of v } ∷ [], ap (λ run. then_run run (λ v k seen. Gives v k (seen ++ record { ty = t; value = v } ∷ []))) h.1)
opened t m (Err stop) run h = ended plain_of plain_of m stop run (λ v k seen. Gives v k (seen ++ record { ty = t; value = v } ∷ [])) h

-- two values, and what goes on behind them
inner : (u : Value) (run : Evaluation Value) (go : Value × Value → ℕ → List Opened → Evaluation Value)
    → then_run (then_run run (λ v k seen. Gives (u, v) k seen)) go ≡ then_run run (λ v k seen. go (u, v) k seen)
inner u (Gives v k seen) go = refl
inner u (Ends stop k seen) go = refl

pub pair_then : (run : Evaluation Value) (next : ℕ → List Opened → Evaluation Value) (go : Value × Value → ℕ → List Opened → Evaluation Value)
    → then_run (then_run run (λ u k seen. then_run (next k seen) (λ v k seen. Gives (u, v) k seen))) go
    ≡ then_run run (λ u k seen. then_run (next k seen) (λ v k seen. go (u, v) k seen))
pair_then (Gives u k seen) next go = inner u (next k seen) go
pair_then (Ends stop k seen) next go = refl

-- one of two ways to go on
pub chosen_first : (b : Bool) (first other : Values → ℕ → List Opened → Evaluation Value) (env : Values) (k m : ℕ) (seen : List Opened) (result : Result Plain Stop)
    → b ≡ true → Tells plain_of m result (first env k seen) → Tells plain_of m result (choose b first other env k seen)
chosen_first b first other env k m seen result e h = subst (λ b. Tells plain_of m result (choose b first other env k seen)) (sym e) h

pub chosen_other : (b : Bool) (first other : Values → ℕ → List Opened → Evaluation Value) (env : Values) (k m : ℕ) (seen : List Opened) (result : Result Plain Stop)
    → b ≡ false → Tells plain_of m result (other env k seen) → Tells plain_of m result (choose b first other env k seen)
chosen_other b first other env k m seen result e h = subst (λ b. Tells plain_of m result (choose b first other env k seen)) (sym e) h

-- a stop that is handed on tells what it told
pub handed_on : {S B : Type 0} (into : S → B) (m : ℕ) (result : Result S Stop) (stop : Stop) (run : Evaluation B) → IsErrAnd result (λ s. s ≡ stop) → Tells into m (Err stop) run
    → Tells into m result run
handed_on into m (Ok v) stop run e h = elim e [ ]
handed_on into m (Err s) stop run e h = subst (λ s. Tells into m (Err s) run) (sym e) h
