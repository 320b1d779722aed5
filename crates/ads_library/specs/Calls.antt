-- What the call of a function gives, and how much fuel is enough for it.
use Rattle.std.specs.Prelude.{◌≡◌, ◌⊎◌, ℕ, ◌≤◌}
use Rattle.core_terms.specs.Values.{Value, Values}
use Rattle.core_terms.specs.Terms.{Program}
use Rattle.ideal_meaning.specs.Ideal.{Done, Out, ideal, outcome}

module _ (P : Program) (f : ℕ) (args : Values) (v : Value) where
  -- Whatever fuel the call has, it is done with this value or out of fuel. So it never traps, and is never done with another value.
  abbrev pub GivesOnly : Type 0
  GivesOnly = (k : ℕ) → (outcome (ideal P f args k) ≡ Done v) ⊎ (outcome (ideal P f args k) ≡ Out)

  -- with so much fuel or more the call is done with this value
  abbrev pub GivesWith : ℕ → Type 0
  GivesWith enough = (k : ℕ) → enough ≤ k → outcome (ideal P f args k) ≡ Done v

  -- both: the call gives this value and nothing else, and so much fuel is enough for it
  abbrev pub Computes : ℕ → Type 0
  Computes enough = GivesOnly × GivesWith enough
