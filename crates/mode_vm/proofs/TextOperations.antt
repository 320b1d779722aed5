-- The instructions on texts.
use Rattle.std.proofs.Common.{◌≡◌, ℕ, ◌++◌, List, [], ◌∷◌, Result, Ok, Option, refl, ap, ap₂, length, pos}
use Rattle.core_terms.specs.Types.{TextTy, IntTy, BoolTy}
use Rattle.core_terms.specs.Values.{Value, TextV, IntV, BoolV}
use Rattle.core_terms.specs.Terms.{Program}
use Rattle.core_terms.specs.declared.term.TextCompare.{TextCompare}
use Rattle.core_terms.specs.declared.outcome.Trap.{Trap}
use Rattle.ideal_meaning.specs.Run.{Run, Gives, limited, text_compare_of, text_in}
use Rattle.core_terms.specs.Instructions.{TextCompareOp, Cat, Len}
use Rattle.core_terms.specs.GeneratedCode.{generated}
use Rattle.value_store.specs.Nodes.{Node}
use Rattle.value_store.specs.Standing.{Keeps}
use Rattle.value_store.specs.Markings.{Marking, kind_of}
use Rattle.mode_vm.specs.Operands.{IsHeld}
use Rattle.mode_vm.specs.declared.operand.Operand.{Operand}
use Rattle.mode_vm.specs.Meanings.{mode_of, CauseOf, StateOf}
use Rattle.mode_vm.specs.Machines.{ValueFrame, Before}
use Rattle.mode_vm.specs.Calculations.{Makes}
use Rattle.mode_vm.specs.Outcomes.{Acts}
use Rattle.mode_vm.specs.StateParts.{IsAt, Finishes}
use Rattle.mode_vm.specs.declared.frame.Frame.{Frame}
use Rattle.mode_vm.proofs.Frames.{calls, ToNext, fits_next}
use Rattle.mode_vm.proofs.Scalars.{on_text}
use Rattle.mode_vm.proofs.Made.{GivesOfOne, GivesOfTwo, ActsOnOne, ActsOnTwo, operand, first_operand, second_operand, one_acts, two_acts}
use Rattle.mode_vm.proofs.Operands.{TakesOne, TakesTwo, text_compare_parts, concat_parts, length_parts}

module _ (m : Marking) (P : Program) (nodes : List Node) (frame : Frame) (op : TextCompare) (c : ValueFrame) (b : Before m P nodes frame (TextCompareOp op) c)
    (last : List Operand) (first second : Operand) (top : frame.operands.items ≡ last ++ first ∷ second ∷ []) where
  compares : TakesTwo (generated P) c.result c.local_types (ToNext (generated P) c.result c.shapes) TextTy TextTy BoolTy c.operand_types
  compares = text_compare_parts (generated P) c.result c.local_types (ToNext (generated P) c.result c.shapes) op c.operand_types (fits_next m P nodes frame (TextCompareOp op) c b)

  pub compare_first : (v : Value) × IsHeld (kind_of m P) P.types nodes first TextTy v
  compare_first = first_operand m P nodes frame (TextCompareOp op) c b last first second top TextTy TextTy BoolTy compares

  pub compare_second : (v : Value) × IsHeld (kind_of m P) P.types nodes second TextTy v
  compare_second = second_operand m P nodes frame (TextCompareOp op) c b last first second top TextTy TextTy BoolTy compares

  pub compare_acts : {E : Type 0} (new : List Node) → Keeps nodes new → (mid after : Frame) → IsAt frame frame.place frame.locals.items last mid
      → (r : Operand) (x y : List ℕ) → ((v : Value) → IsHeld (kind_of m P) P.types nodes first TextTy v → v ≡ TextV x)
      → ((v : Value) → IsHeld (kind_of m P) P.types nodes second TextTy v → v ≡ TextV y)
      → IsHeld (kind_of m P) P.types new r BoolTy (BoolV (text_compare_of op x y))
      → (result : Result (Option Trap) E) → Finishes mid (Ok r) after result → Acts m P new frame c after result
  compare_acts new keeps mid after at r x y first_is second_is stands =
      two_acts m P nodes frame (TextCompareOp op) c b last first second top TextTy TextTy BoolTy compares run same new keeps mid after at (Ok r)
      (λ u v h j. (BoolV (text_compare_of op x y), stands, λ k w. ap₂ (λ u v. Gives (BoolV (text_compare_of op (text_in u) (text_in v))) k w) (first_is u h) (second_is v j)))
    where
      run : Value → Value → ℕ → StateOf m → Run (CauseOf m) (StateOf m) Value
      run u v k w = Gives (BoolV (text_compare_of op (text_in u) (text_in v))) k w

      same : ActsOnTwo m P nodes frame (TextCompareOp op) c b last first second top TextTy TextTy BoolTy compares run
      same x y h j =
          on_text (kind_of m P) P.types nodes (λ x. GivesOfTwo (generated P) (mode_of m P) (calls m P c.depth) (TextCompareOp op) TextTy TextTy BoolTy run x y)
          (λ x. on_text (kind_of m P) P.types nodes (λ y. GivesOfTwo (generated P) (mode_of m P) (calls m P c.depth) (TextCompareOp op) TextTy TextTy BoolTy run (TextV x) y) (λ y next env ops k w. refl) second y j) first x h

module _ (m : Marking) (P : Program) (nodes : List Node) (frame : Frame) (c : ValueFrame) (b : Before m P nodes frame Cat c)
    (last : List Operand) (first second : Operand) (top : frame.operands.items ≡ last ++ first ∷ second ∷ []) where
  joins : TakesTwo (generated P) c.result c.local_types (ToNext (generated P) c.result c.shapes) TextTy TextTy TextTy c.operand_types
  joins = concat_parts (generated P) c.result c.local_types (ToNext (generated P) c.result c.shapes) c.operand_types (fits_next m P nodes frame Cat c b)

  pub concat_first : (v : Value) × IsHeld (kind_of m P) P.types nodes first TextTy v
  concat_first = first_operand m P nodes frame Cat c b last first second top TextTy TextTy TextTy joins

  pub concat_second : (v : Value) × IsHeld (kind_of m P) P.types nodes second TextTy v
  concat_second = second_operand m P nodes frame Cat c b last first second top TextTy TextTy TextTy joins

  pub concat_acts : {E : Type 0} (new : List Node) → Keeps nodes new → (mid after : Frame) → IsAt frame frame.place frame.locals.items last mid → (made : Result Operand Trap)
      → ((x y : Value) → IsHeld (kind_of m P) P.types nodes first TextTy x → IsHeld (kind_of m P) P.types nodes second TextTy y
      → Makes m (kind_of m P) P.types new TextTy (limited P.format.limit P.types TextTy (TextV (text_in x ++ text_in y))) made)
      → (result : Result (Option Trap) E) → Finishes mid made after result → Acts m P new frame c after result
  concat_acts = two_acts m P nodes frame Cat c b last first second top TextTy TextTy TextTy joins (λ x y. limited P.format.limit P.types TextTy (TextV (text_in x ++ text_in y))) same
    where
      same : ActsOnTwo m P nodes frame Cat c b last first second top TextTy TextTy TextTy joins (λ x y. limited P.format.limit P.types TextTy (TextV (text_in x ++ text_in y)))
      same x y h j =
          on_text (kind_of m P) P.types nodes (λ x. GivesOfTwo (generated P) (mode_of m P) (calls m P c.depth) Cat TextTy TextTy TextTy (λ x y. limited P.format.limit P.types TextTy (TextV (text_in x ++ text_in y))) x y)
          (λ x. on_text (kind_of m P) P.types nodes (λ y. GivesOfTwo (generated P) (mode_of m P) (calls m P c.depth) Cat TextTy TextTy TextTy (λ x y. limited P.format.limit P.types TextTy (TextV (text_in x ++ text_in y))) (TextV x) y) (λ y next env ops k w. refl) second y j) first x h

module _ (m : Marking) (P : Program) (nodes : List Node) (frame : Frame) (c : ValueFrame) (b : Before m P nodes frame Len c)
    (last : List Operand) (first : Operand) (top : frame.operands.items ≡ last ++ first ∷ []) where
  counts : TakesOne (generated P) c.result c.local_types (ToNext (generated P) c.result c.shapes) TextTy IntTy c.operand_types
  counts = length_parts (generated P) c.result c.local_types (ToNext (generated P) c.result c.shapes) c.operand_types (fits_next m P nodes frame Len c b)

  pub length_operand : (v : Value) × IsHeld (kind_of m P) P.types nodes first TextTy v
  length_operand = operand m P nodes frame Len c b last first top TextTy IntTy counts

  pub length_acts : {E : Type 0} (new : List Node) → Keeps nodes new → (mid after : Frame) → IsAt frame frame.place frame.locals.items last mid
      → (r : Operand) (bytes : List ℕ) → ((v : Value) → IsHeld (kind_of m P) P.types nodes first TextTy v → v ≡ TextV bytes)
      → IsHeld (kind_of m P) P.types new r IntTy (IntV (pos (length bytes)))
      → (result : Result (Option Trap) E) → Finishes mid (Ok r) after result → Acts m P new frame c after result
  length_acts new keeps mid after at r bytes is stands =
      one_acts m P nodes frame Len c b last first top TextTy IntTy counts run same new keeps mid after at (Ok r)
      (λ v h. (IntV (pos (length bytes)), stands, λ k w. ap (λ v. Gives (IntV (pos (length (text_in v)))) k w) (is v h)))
    where
      run : Value → ℕ → StateOf m → Run (CauseOf m) (StateOf m) Value
      run v k w = Gives (IntV (pos (length (text_in v)))) k w

      same : ActsOnOne m P nodes frame Len c b last first top TextTy IntTy counts run
      same x h = on_text (kind_of m P) P.types nodes (λ x. GivesOfOne (generated P) (mode_of m P) (calls m P c.depth) Len TextTy IntTy run x) (λ x next env ops k w. refl) first x h
