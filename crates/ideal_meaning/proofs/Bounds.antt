-- The bound on nested calls ends no run, of a written or of a compiled program.
use Rattle.std.proofs.Common.{◌≡◌, List, Option, Some, None, ap}
use Rattle.core_terms.specs.Instructions.{Instruction}
use Rattle.core_terms.specs.Terms.{body_of}
use Rattle.ideal_meaning.specs.Called.{ran, call_as}
use Rattle.ideal_meaning.specs.Laws.{BoundIsEnough}
use Rattle.ideal_meaning.proofs.Nesting.{written_bound}
use Rattle.ideal_meaning.proofs.CodeNesting.{code_bound_enough}

module _ (C W : Type 0) where
  pub bound_enough : BoundIsEnough C W
  bound_enough P mode n f args k w h = by P.code
    where
      by : (o : Option (List (List Instruction))) → call_as P o mode n f args k w ≡ call_as P o mode k f args k w
      by None = written_bound C W P mode n f args k w h
      by (Some codes) = ap (ran k w) (code_bound_enough C W (body_of P codes) mode n f args k w h)
