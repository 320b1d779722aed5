-- Calls of a program's functions, written or compiled.
use Rattle.std.specs.Prelude.{ℕ, List, Option, Some, None}
use Rattle.core_terms.specs.Instructions.{Instruction}
use Rattle.core_terms.specs.Values.{Value, Values}
use Rattle.core_terms.specs.Terms.{Program, body_of}
use Rattle.ideal_meaning.specs.Run.{Run, Ends, IsOut, Mode, call}
use Rattle.ideal_meaning.specs.Execution.{Coded, Ran, Stuck, call_code}

-- Code as a run. Accepted code is never stuck; what is stuck would be out of fuel.
abbrev pub ran : {C W : Type 0} → ℕ → W → Coded C W → Run C W Value
ran k w (Ran r) = r
ran k w Stuck = Ends IsOut k w

module _ (P : Program) where
  -- A call in which calls nest at most so deep: of a written function its body is run, of a compiled one its code.
  abbrev pub call_as : {C W : Type 0} → Option (List (List Instruction)) → Mode C W → ℕ → ℕ → Values → ℕ → W → Run C W Value
  call_as None mode nesting f args k w = call P mode nesting f args k w
  call_as (Some codes) mode nesting f args k w = ran k w (call_code (body_of P codes) mode nesting f args k w)

  abbrev pub call_within : {C W : Type 0} → Mode C W → ℕ → ℕ → Values → ℕ → W → Run C W Value
  call_within mode nesting f args k w = call_as P.code mode nesting f args k w

  -- A call with all its fuel. The bound on nesting starts at the fuel and is never below it, so it never ends a run.
  abbrev pub call_from : {C W : Type 0} → Mode C W → ℕ → Values → ℕ → W → Run C W Value
  call_from mode f args k w = call_within mode k f args k w
