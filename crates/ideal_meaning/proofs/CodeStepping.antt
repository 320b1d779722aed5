-- Code goes on by the steps of its mode: how its state moves at each opening, it moves from beginning to end.
use Rattle.std.proofs.Common.{ℕ, zero, suc, List, [], Option, Some, None, refl}
use Rattle.core_terms.specs.Types.{Ty}
use Rattle.core_terms.specs.Values.{Value, Values}
use Rattle.core_terms.specs.Instructions.{Instruction}
use Rattle.core_terms.specs.Bodies.{Body, code_at}
use Rattle.core_terms.specs.Terms.{Program, body_of}
use Rattle.ideal_meaning.specs.Run.{Mode, Run, Gives, Ends, with_fuel, state_of}
use Rattle.ideal_meaning.specs.Execution.{Coded, Ran, Stuck, then_code, then_coded, Held, tie, exec, call_code}
use Rattle.ideal_meaning.specs.Called.{ran, call_as, call_from}
use Rattle.ideal_meaning.proofs.RelatedCode.{related}
use Rattle.ideal_meaning.proofs.Stepping.{goes_call}

module _ (C W : Type 0) (mode : Mode C W) (Goes : W → W → Type 0) (stays : (w : W) → Goes w w) (goes_on : (a b c : W) → Goes a b → Goes b c → Goes a c)
    (opens : (k : ℕ) (t : Ty) (v : Value) (w : W) → Goes w (state_of (with_fuel k (mode.unauth t v w)))) where
  -- the state has moved so to that in which code ends, where it isn't stuck
  abbrev pub Moves : W → Coded C W → Type 0
  Moves w (Ran r) = Goes w (state_of r)
  Moves w Stuck = Unit {0}

  -- of a computation alone: it is related to itself where it moves so
  abbrev Runs : (ℕ → W → Run C W Value) → (ℕ → W → Run C W Value) → Type 0
  Runs r q = (k : ℕ) (w : W) → Goes w (state_of (r k w))

  abbrev Codes : (ℕ → W → Coded C W) → (ℕ → W → Coded C W) → Type 0
  Codes c d = (k : ℕ) (w : W) → Moves w (c k w)

  further : (w v : W) → Goes w v → (c : Coded C W) → Moves v c → Moves w c
  further w v e (Ran r) g = goes_on w v (state_of r) e g
  further w v e Stuck g = tt

  then_moves : (w : W) (r : Run C W Value) (f g : Value → ℕ → W → Coded C W) → Goes w (state_of r) → ((v : Value) → Codes (f v) (g v)) → Moves w (then_code r f)
  then_moves w (Gives v k t) f g h on = further w t h (f v k t) (on v k t)
  then_moves w (Ends stop k t) f g h on = h

  coded_moves : (w : W) (c : Coded C W) (f g : Value → ℕ → W → Coded C W) → Moves w c → ((v : Value) → Codes (f v) (g v)) → Moves w (then_coded c f)
  coded_moves w (Ran r) f g h on = then_moves w r f g h on
  coded_moves w Stuck f g h on = tt

  pub moves_behind : (B : Body) (called : ℕ → Values → ℕ → W → Coded C W) → ((f : ℕ) (vs : Values) (k : ℕ) (w : W) → Moves w (called f vs k w))
      → (is : List Instruction) (skip : ℕ) (env ops : List Held) (k : ℕ) (w : W) → Moves w (exec B mode called is skip env ops k w)
  moves_behind B called calls is skip env ops =
      related C W C W Runs Codes (λ v k w. stays w) (λ trap k w. stays w) (λ k w. tt) (λ v k w. stays w) (λ r q f g runs on k w. then_moves w (r k w) f g (runs k w) on)
      (λ c d f g codes on k w. coded_moves w (c k w) f g (codes k w) on) B mode mode (λ t v. refl) (λ t v k w. opens k t v w) called called calls is skip env ops

  -- a call of code
  pub moves_call : (B : Body) (n f : ℕ) (args : Values) (k : ℕ) (w : W) → Moves w (call_code B mode n f args k w)
  moves_call B zero f args k w = stays w
  moves_call B (suc n) f args zero w = stays w
  moves_call B (suc n) f args (suc k) w = moves_behind B (call_code B mode n) (moves_call B n) (code_at B f).code 0 (tie (code_at B f).parameters args) [] k w

  ran_moves : (k : ℕ) (w : W) (c : Coded C W) → Moves w c → Goes w (state_of (ran k w c))
  ran_moves k w (Ran r) h = h
  ran_moves k w Stuck h = stays w

  -- a call of a program, written or compiled
  pub call_moves : (P : Program) (f : ℕ) (args : Values) (k : ℕ) (w : W) → Goes w (state_of (call_from P mode f args k w))
  call_moves P f args k w = by P.code
    where
      by : (o : Option (List (List Instruction))) → Goes w (state_of (call_as P o mode k f args k w))
      by None = (goes_call C W mode Goes stays goes_on opens P k f args k w).moves
      by (Some codes) = ran_moves k w (call_code (body_of P codes) mode k f args k w) (moves_call (body_of P codes) k f args k w)
