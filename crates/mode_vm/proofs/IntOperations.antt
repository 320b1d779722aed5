-- The instructions on two ints.
use Rattle.std.proofs.Common.{◌≡◌, ℕ, ℤ, ◌++◌, List, [], ◌∷◌, Result, Ok, Option, refl, ap₂}
use Rattle.core_terms.specs.Types.{IntTy, BoolTy}
use Rattle.core_terms.specs.Values.{Value, IntV, BoolV}
use Rattle.core_terms.specs.Terms.{Program}
use Rattle.core_terms.specs.declared.term.Arith.{Arith}
use Rattle.core_terms.specs.declared.term.Compare.{Compare}
use Rattle.core_terms.specs.declared.outcome.Trap.{Trap}
use Rattle.ideal_meaning.specs.Run.{Run, Gives, arith_of, compare_of, int_in}
use Rattle.core_terms.specs.Instructions.{ArithOp, CompareOp}
use Rattle.core_terms.specs.GeneratedCode.{generated}
use Rattle.value_store.specs.Nodes.{Node}
use Rattle.value_store.specs.Standing.{Keeps}
use Rattle.value_store.specs.Markings.{Marking, kind_of}
use Rattle.mode_vm.specs.Operands.{IsHeld}
use Rattle.mode_vm.specs.declared.operand.Operand.{Operand}
use Rattle.mode_vm.specs.Meanings.{mode_of, CauseOf, StateOf}
use Rattle.mode_vm.specs.Machines.{ValueFrame, Before}
use Rattle.mode_vm.specs.Calculations.{Makes}
use Rattle.mode_vm.specs.Outcomes.{Acts}
use Rattle.mode_vm.specs.StateParts.{IsAt, Finishes}
use Rattle.mode_vm.specs.declared.frame.Frame.{Frame}
use Rattle.mode_vm.proofs.Frames.{calls, ToNext, fits_next}
use Rattle.mode_vm.proofs.Scalars.{on_int}
use Rattle.mode_vm.proofs.Made.{GivesOfTwo, ActsOnTwo, first_operand, second_operand, two_acts}
use Rattle.mode_vm.proofs.Operands.{TakesTwo, arith_parts, compare_parts}

module _ (m : Marking) (P : Program) (nodes : List Node) (frame : Frame) (op : Arith) (c : ValueFrame) (b : Before m P nodes frame (ArithOp op) c)
    (last : List Operand) (first second : Operand) (top : frame.operands.items ≡ last ++ first ∷ second ∷ []) where
  takes : TakesTwo (generated P) c.result c.local_types (ToNext (generated P) c.result c.shapes) IntTy IntTy IntTy c.operand_types
  takes = arith_parts (generated P) c.result c.local_types (ToNext (generated P) c.result c.shapes) op c.operand_types (fits_next m P nodes frame (ArithOp op) c b)

  pub arith_first : (v : Value) × IsHeld (kind_of m P) P.types nodes first IntTy v
  arith_first = first_operand m P nodes frame (ArithOp op) c b last first second top IntTy IntTy IntTy takes

  pub arith_second : (v : Value) × IsHeld (kind_of m P) P.types nodes second IntTy v
  arith_second = second_operand m P nodes frame (ArithOp op) c b last first second top IntTy IntTy IntTy takes

  pub arith_acts : {E : Type 0} (new : List Node) → Keeps nodes new → (mid after : Frame) → IsAt frame frame.place frame.locals.items last mid → (made : Result Operand Trap)
      → ((x y : Value) → IsHeld (kind_of m P) P.types nodes first IntTy x → IsHeld (kind_of m P) P.types nodes second IntTy y
      → Makes m (kind_of m P) P.types new IntTy (arith_of op (int_in x) (int_in y)) made)
      → (result : Result (Option Trap) E) → Finishes mid made after result → Acts m P new frame c after result
  arith_acts = two_acts m P nodes frame (ArithOp op) c b last first second top IntTy IntTy IntTy takes (λ x y. arith_of op (int_in x) (int_in y)) same
    where
      same : ActsOnTwo m P nodes frame (ArithOp op) c b last first second top IntTy IntTy IntTy takes (λ x y. arith_of op (int_in x) (int_in y))
      same x y h j =
          on_int (kind_of m P) P.types nodes (λ x. GivesOfTwo (generated P) (mode_of m P) (calls m P c.depth) (ArithOp op) IntTy IntTy IntTy (λ x y. arith_of op (int_in x) (int_in y)) x y)
          (λ x. on_int (kind_of m P) P.types nodes (λ y. GivesOfTwo (generated P) (mode_of m P) (calls m P c.depth) (ArithOp op) IntTy IntTy IntTy (λ x y. arith_of op (int_in x) (int_in y)) (IntV x) y) (λ y next env ops k w. refl) second y j) first x h

module _ (m : Marking) (P : Program) (nodes : List Node) (frame : Frame) (op : Compare) (c : ValueFrame) (b : Before m P nodes frame (CompareOp op) c)
    (last : List Operand) (first second : Operand) (top : frame.operands.items ≡ last ++ first ∷ second ∷ []) where
  compares : TakesTwo (generated P) c.result c.local_types (ToNext (generated P) c.result c.shapes) IntTy IntTy BoolTy c.operand_types
  compares = compare_parts (generated P) c.result c.local_types (ToNext (generated P) c.result c.shapes) op c.operand_types (fits_next m P nodes frame (CompareOp op) c b)

  pub compare_first : (v : Value) × IsHeld (kind_of m P) P.types nodes first IntTy v
  compare_first = first_operand m P nodes frame (CompareOp op) c b last first second top IntTy IntTy BoolTy compares

  pub compare_second : (v : Value) × IsHeld (kind_of m P) P.types nodes second IntTy v
  compare_second = second_operand m P nodes frame (CompareOp op) c b last first second top IntTy IntTy BoolTy compares

  pub compare_acts : {E : Type 0} (new : List Node) → Keeps nodes new → (mid after : Frame) → IsAt frame frame.place frame.locals.items last mid
      → (r : Operand) (x y : ℤ) → ((v : Value) → IsHeld (kind_of m P) P.types nodes first IntTy v → v ≡ IntV x) → ((v : Value) → IsHeld (kind_of m P) P.types nodes second IntTy v → v ≡ IntV y)
      → IsHeld (kind_of m P) P.types new r BoolTy (BoolV (compare_of op x y))
      → (result : Result (Option Trap) E) → Finishes mid (Ok r) after result → Acts m P new frame c after result
  compare_acts new keeps mid after at r x y first_is second_is stands =
      two_acts m P nodes frame (CompareOp op) c b last first second top IntTy IntTy BoolTy compares run same new keeps mid after at (Ok r)
      (λ u v h j. (BoolV (compare_of op x y), stands, λ k w. ap₂ (λ u v. Gives (BoolV (compare_of op (int_in u) (int_in v))) k w) (first_is u h) (second_is v j)))
    where
      run : Value → Value → ℕ → StateOf m → Run (CauseOf m) (StateOf m) Value
      run u v k w = Gives (BoolV (compare_of op (int_in u) (int_in v))) k w

      same : ActsOnTwo m P nodes frame (CompareOp op) c b last first second top IntTy IntTy BoolTy compares run
      same x y h j =
          on_int (kind_of m P) P.types nodes (λ x. GivesOfTwo (generated P) (mode_of m P) (calls m P c.depth) (CompareOp op) IntTy IntTy BoolTy run x y)
          (λ x. on_int (kind_of m P) P.types nodes (λ y. GivesOfTwo (generated P) (mode_of m P) (calls m P c.depth) (CompareOp op) IntTy IntTy BoolTy run (IntV x) y) (λ y next env ops k w. refl) second y j) first x h
