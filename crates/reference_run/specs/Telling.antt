-- How the results of the code tell an ideal run.
use Rattle.std.specs.Prelude.{◌≡◌, ℕ, ℤ, List, Option, Some, None, Result, Ok, Err, ⊤, Vec}
use Rattle.std.specs.declared.alloc.Global.{Global}
use Rattle.core_terms.specs.Types.{Ty}
use Rattle.core_terms.specs.Values.{Value, IntV, Values, IsIdeal, AreIdeal, AuthWithin, AuthWithinAll}
use Rattle.core_terms.specs.Terms.{Program, function_at}
use Rattle.core_terms.specs.Projection.{Fits, AllFit}
use Rattle.core_terms.specs.declared.outcome.Trap.{Trap}
use Rattle.core_terms.specs.declared.outcome.Outcome.{Outcome}
use Rattle.core_terms.specs.declared.outcome.Outcome.TheVariants as told
use Rattle.ideal_meaning.specs.Run.{Run, Gives, Ends, Traps, Index, IsOut, then_run}
use Rattle.ideal_meaning.specs.Ideal as ideal
use Rattle.ideal_meaning.specs.Told.{trap_told}
use Rattle.reference_run.specs.PlainValues.{plain_of, plains_of}
use Rattle.reference_run.specs.declared.values.Plain.{Plain}
use Rattle.reference_run.specs.declared.stop.Stop.{Stop}
use Rattle.reference_run.specs.declared.stop.Stop.TheVariants.{Trapped, Out, NoMemory}

-- an ideal run so far, that gives something
abbrev pub Evaluation : Type 0 → Type 0
Evaluation A = Run ⊥ (List ideal.Opened) A

-- The result tells the run, which leaves so much fuel, whatever it opened; where memory was wanting it tells nothing. `of` is what a
-- value of the code stands for.
module _ {R A : Type 0} (of : R → A) (k : ℕ) where
  abbrev pub Tells : Result R Stop → Evaluation A → Type 0
  Tells (Ok v) run = (seen : List ideal.Opened) × (run ≡ Gives (of v) k seen)
  Tells (Err (Trapped trap)) run = (seen : List ideal.Opened) × (run ≡ Ends (Traps (trap_told trap)) k seen)
  Tells (Err Out) run = (seen : List ideal.Opened) × (run ≡ Ends IsOut k seen)
  Tells (Err NoMemory) run = ⊤

-- Whatever run the operands tell, the result tells that run with this behind it.
abbrev pub TellsBehind : {R A : Type 0} → (R → A) → (A → ℕ → List ideal.Opened → Evaluation Value) → Result R Stop → Result Plain Stop → Type 0
TellsBehind of go operands result = (k : ℕ) (run : Evaluation _) → Tells of k operands run → Tells plain_of k result (then_run run go)

-- two values, values in a row, what a calculation on ints gives, and what goes on at the place of an element
abbrev pub pair_values : Plain × Plain → Value × Value
pair_values operands = (plain_of operands.0, plain_of operands.1)

abbrev pub row_values : Vec Plain Global → Values
row_values operands = plains_of operands.items

abbrev pub calculation_of : {C W : Type 0} → Result ℤ Trap → ℕ → W → Run C W Value
calculation_of (Ok z) k w = Gives (IntV z) k w
calculation_of (Err trap) k w = Ends (Traps (trap_told trap)) k w

abbrev pub at_place : {C W : Type 0} → Option ℕ → (ℕ → ℕ → W → Run C W Value) → ℕ → W → Run C W Value
at_place (Some i) go k w = go i k w
at_place None go k w = Ends (Traps Index) k w

-- an outcome as one of the definitions
abbrev pub plain_outcome_of : Outcome Plain → ideal.Outcome
plain_outcome_of (told.Done v) = ideal.Done (plain_of v)
plain_outcome_of (told.Trapped trap) = ideal.Trapped (trap_told trap)
plain_outcome_of told.Out = ideal.Out

-- The value of the outcome, if it has one, is an ideal value of this type within the limits, and so is each authenticated value in it.
abbrev pub IsPlainOf : Program → Ty → Outcome Plain → Type 0
IsPlainOf P t (told.Done v) = IsIdeal P.types t (plain_of v) × Fits P t (plain_of v) × AuthWithin P.format.limit P.types t (plain_of v)
IsPlainOf P t (told.Trapped trap) = Unit {0}
IsPlainOf P t told.Out = Unit {0}

-- The arguments are ideal values of the function's parameters within the limits, and so is each authenticated value in them.
abbrev pub AreArguments : Program → ℕ → Values → Type 0
AreArguments P f vs = AreIdeal P.types (function_at P f).parameters vs × AllFit P (function_at P f).parameters vs
    × AuthWithinAll P.format.limit P.types (function_at P f).parameters vs
