-- A bool is negated, or decides how to go on.
use Rattle.std.proofs.Common.{◌≡◌, ℕ, ◌+◌, ◌<◌, Bool, true, false, not, List, [], ◌∷◌, ◌++◌, length, reverse, Result, Ok, Option, refl, ap, ◌∙◌, subst, arith, if◌then◌else◌}
use Rattle.core_terms.specs.Types.{Ty, BoolTy}
use Rattle.core_terms.specs.Values.{Value, BoolV}
use Rattle.core_terms.specs.Terms.{Program}
use Rattle.core_terms.specs.declared.outcome.Trap.{Trap}
use Rattle.ideal_meaning.specs.Run.{Run, Gives, bool_in}
use Rattle.core_terms.specs.Instructions.{Branch, Not}
use Rattle.core_terms.specs.Bodies.{Body, code_at}
use Rattle.core_terms.specs.GeneratedCode.{generated}
use Rattle.ideal_meaning.specs.Execution.{held, tie, act}
use Rattle.core_terms.specs.Accepted.{Fits}
use Rattle.value_store.specs.Nodes.{Node}
use Rattle.value_store.specs.Standing.{Keeps}
use Rattle.value_store.specs.Markings.{Marking, kind_of}
use Rattle.mode_vm.specs.Operands.{AllHeld, IsHeld}
use Rattle.mode_vm.specs.declared.operand.Operand.{Operand}
use Rattle.mode_vm.specs.Meanings.{CauseOf, StateOf, mode_of}
use Rattle.mode_vm.specs.Machines.{ValueFrame, Before}
use Rattle.mode_vm.specs.Outcomes.{Acts, FrameGoesOn}
use Rattle.mode_vm.specs.StateParts.{IsAt, Finishes}
use Rattle.mode_vm.specs.declared.frame.Frame.{Frame}
use Rattle.mode_vm.proofs.Frames.{ToNext, fits_next, goes_on, calls}
use Rattle.mode_vm.proofs.Jumps.{skip_within}
use Rattle.mode_vm.proofs.Scalars.{on_bool}
use Rattle.mode_vm.proofs.Made.{GivesOfOne, ActsOnOne, one_acts, operand}
use Rattle.mode_vm.proofs.Operands.{One, TakesOne, not_parts, one_popped}

module _ (m : Marking) (P : Program) (nodes : List Node) (frame : Frame) (c : ValueFrame) (b : Before m P nodes frame Not c)
    (last : List Operand) (r : Operand) (top : frame.operands.items ≡ last ++ r ∷ []) where
  negates : TakesOne (generated P) c.result c.local_types (ToNext (generated P) c.result c.shapes) BoolTy BoolTy c.operand_types
  negates = not_parts (generated P) c.result c.local_types (ToNext (generated P) c.result c.shapes) c.operand_types (fits_next m P nodes frame Not c b)

  pub not_operand : (v : Value) × IsHeld (kind_of m P) P.types nodes r BoolTy v
  not_operand = operand m P nodes frame Not c b last r top BoolTy BoolTy negates

  pub not_acts : {E : Type 0} (new : List Node) → Keeps nodes new → (mid after : Frame) → IsAt frame frame.place frame.locals.items last mid
      → (put : Operand) (value : Bool) → ((v : Value) → IsHeld (kind_of m P) P.types nodes r BoolTy v → v ≡ BoolV value)
      → IsHeld (kind_of m P) P.types new put BoolTy (BoolV (not value))
      → (result : Result (Option Trap) E) → Finishes mid (Ok put) after result → Acts m P new frame c after result
  not_acts new keeps mid after at put value is stands =
      one_acts m P nodes frame Not c b last r top BoolTy BoolTy negates run same new keeps mid after at (Ok put)
      (λ v h. (BoolV (not value), stands, λ k w. ap (λ v. Gives (BoolV (not (bool_in v))) k w) (is v h)))
    where
      run : Value → ℕ → StateOf m → Run (CauseOf m) (StateOf m) Value
      run v k w = Gives (BoolV (not (bool_in v))) k w

      same : ActsOnOne m P nodes frame Not c b last r top BoolTy BoolTy negates run
      same x h = on_bool (kind_of m P) P.types nodes (λ x. GivesOfOne (generated P) (mode_of m P) (calls m P c.depth) Not BoolTy BoolTy run x) (λ x next env ops k w. refl) r x h

-- the bool that decides, and the two ways to go on
record Decides (B : Body) (z : Ty) (skip : ℕ) (ls : List Ty) (to : ℕ → List Ty → List Ty → Type 0) (os : List Ty) : Type 0 where
  below : List Ty
  is : os ≡ BoolTy ∷ below
  goes : to 0 ls below
  skips : to skip ls below

branch_parts : (B : Body) (z : Ty) (skip : ℕ) (ls : List Ty) (to : ℕ → List Ty → List Ty → Type 0) (os : List Ty) → Fits B z (Branch skip) ls os to → Decides B z skip ls to os
branch_parts B z skip ls to (BoolTy ∷ os) h = record { below = os; is = refl; goes = h.0; skips = h.1 }
branch_parts B z skip ls to os h = elim h [ ]

module _ (m : Marking) (P : Program) (nodes : List Node) (frame : Frame) (skip : ℕ) (c : ValueFrame) (b : Before m P nodes frame (Branch skip) c)
    (last : List Operand) (r : Operand) (top : frame.operands.items ≡ last ++ r ∷ []) where
  decides : Decides (generated P) c.result skip c.local_types (ToNext (generated P) c.result c.shapes) c.operand_types
  decides = branch_parts (generated P) c.result skip c.local_types (ToNext (generated P) c.result c.shapes) c.operand_types (fits_next m P nodes frame (Branch skip) c b)

  abbrev one : One (kind_of m P) P.types nodes r (reverse last) BoolTy decides.below c.operands
  one = one_popped (kind_of m P) P.types nodes frame.operands.items last r BoolTy decides.below c.operands top
      (subst (λ os. AllHeld (kind_of m P) P.types nodes (reverse frame.operands.items) os c.operands) decides.is b.top.is.operands)

  pub branch_operand : (v : Value) × IsHeld (kind_of m P) P.types nodes r BoolTy v
  branch_operand = (one.x, one.stands)

  pub branch_within : frame.place + 1 + skip < length (code_at (generated P) frame.function.0).code
  branch_within = skip_within m P nodes frame (Branch skip) c b skip _ decides.skips

  same : (value : Bool) → one.x ≡ BoolV value → (next : _) (k : ℕ) (w : StateOf m)
      → act (generated P) (mode_of m P) (calls m P c.depth) (Branch skip) next (tie c.local_types c.locals) (tie c.operand_types c.operands) k w
      ≡ next (if value then 0 else skip) (tie c.local_types c.locals) (tie decides.below one.below) k w
  same value is next k w =
      ap (λ os. act (generated P) (mode_of m P) (calls m P c.depth) (Branch skip) next (tie c.local_types c.locals) (tie os c.operands) k w) decides.is
      ∙ ap (λ us. act (generated P) (mode_of m P) (calls m P c.depth) (Branch skip) next (tie c.local_types c.locals) (tie (BoolTy ∷ decides.below) us) k w) one.is
      ∙ ap (λ x. act (generated P) (mode_of m P) (calls m P c.depth) (Branch skip) next (tie c.local_types c.locals) (held BoolTy x ∷ tie decides.below one.below) k w) is

  pub branched : (after : Frame) → ((v : Value) → IsHeld (kind_of m P) P.types nodes r BoolTy v → v ≡ BoolV true)
      → IsAt frame (frame.place + 1) frame.locals.items last after → FrameGoesOn m P nodes frame c after
  branched after is at =
      let here : frame.place + 1 ≡ frame.place + 1 + 0 = omega arith in
      goes_on m P nodes nodes frame after (Branch skip) c b 0 frame.locals.items last c.local_types decides.below c.locals one.below
      (subst (λ p. IsAt frame p frame.locals.items last after) here at) decides.goes b.top.is.locals one.rest (same true (is one.x one.stands))

  pub skipped : (after : Frame) → ((v : Value) → IsHeld (kind_of m P) P.types nodes r BoolTy v → v ≡ BoolV false)
      → IsAt frame (frame.place + 1 + skip) frame.locals.items last after → FrameGoesOn m P nodes frame c after
  skipped after is at =
      goes_on m P nodes nodes frame after (Branch skip) c b skip frame.locals.items last c.local_types decides.below c.locals one.below
      at decides.skips b.top.is.locals one.rest (same false (is one.x one.stands))
