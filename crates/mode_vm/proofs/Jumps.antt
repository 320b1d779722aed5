-- A jump stays within the code.
use Rattle.std.proofs.Common.{◌≡◌, ℕ, zero, suc, ◌+◌, ◌<◌, List, [], ◌∷◌, length, drop, slice_get, Some, refl, ap, ◌∙◌, subst, arith}
use Rattle.core_terms.specs.Types.{Ty}
use Rattle.core_terms.specs.Terms.{Program}
use Rattle.core_terms.specs.Instructions.{Instruction, Jump}
use Rattle.core_terms.specs.Bodies.{Body, code_at}
use Rattle.core_terms.specs.GeneratedCode.{generated}
use Rattle.core_terms.specs.Accepted.{IsFine}
use Rattle.core_terms.specs.CodeShapes.{Shape}
use Rattle.value_store.specs.Nodes.{Node}
use Rattle.value_store.specs.Markings.{Marking}
use Rattle.mode_vm.specs.Machines.{ValueFrame, Before}
use Rattle.mode_vm.specs.Outcomes.{FrameGoesOn}
use Rattle.mode_vm.specs.StateParts.{IsAt}
use Rattle.mode_vm.specs.declared.frame.Frame.{Frame}
use Rattle.mode_vm.proofs.Frames.{fits_next, goes_on}
use Rattle.mode_vm.proofs.LoadedLocals.{short}

as_long : (B : Body) (z : Ty) (is : List Instruction) (shapes : List Shape) → IsFine B z is shapes → length shapes ≡ length is
as_long B z [] [] h = refl
as_long B z (i ∷ is) (s ∷ shapes) h = ap suc (as_long B z is shapes h.1)
as_long B z [] (s ∷ shapes) h = elim h [ ]
as_long B z (i ∷ is) [] h = elim h [ ]

left_behind : {A : Type 0} (xs : List A) (n k : ℕ) → k < length (drop n xs) → n + k < length xs
left_behind xs zero k h = omega (arith, h)
left_behind [] (suc n) k h = absurd (omega (arith, h))
left_behind (x ∷ xs) (suc n) k h = let l = left_behind xs n k h in omega (arith, l)

length_drop_one : {A : Type 0} (xs : List A) (k : ℕ) → k < length (drop 1 xs) → suc k < length xs
length_drop_one [] k h = absurd (omega (arith, h))
length_drop_one (x ∷ xs) k h = omega (arith, h)

module _ (m : Marking) (P : Program) (nodes : List Node) (frame : Frame) (i : Instruction) (c : ValueFrame) (b : Before m P nodes frame i c) where
  -- what is gone on from stands in the code
  pub skip_within : (skip : ℕ) (s : Shape) → slice_get (drop 1 c.shapes) skip ≡ Some s → frame.place + 1 + skip < length (code_at (generated P) frame.function.0).code
  skip_within skip s e =
      let l = as_long (generated P) c.result c.left c.shapes b.top.is.fine in
      let s = length_drop_one c.shapes skip (short (drop 1 c.shapes) skip _ e) in
      let d : suc skip < length (drop frame.place (code_at (generated P) frame.function.0).code) = subst (λ n. suc skip < n) (l ∙ ap length b.top.is.left) s in
      let r = left_behind (code_at (generated P) frame.function.0).code frame.place (suc skip) d in
      omega (arith, r)

module _ (m : Marking) (P : Program) (nodes : List Node) (frame : Frame) (skip : ℕ) (c : ValueFrame) (b : Before m P nodes frame (Jump skip) c) where
  pub within : frame.place + 1 + skip < length (code_at (generated P) frame.function.0).code
  within =
      let l = as_long (generated P) c.result c.left c.shapes b.top.is.fine in
      let s = length_drop_one c.shapes skip (short (drop 1 c.shapes) skip _ (fits_next m P nodes frame (Jump skip) c b)) in
      let d : suc skip < length (drop frame.place (code_at (generated P) frame.function.0).code) = subst (λ n. suc skip < n) (l ∙ ap length b.top.is.left) s in
      let r = left_behind (code_at (generated P) frame.function.0).code frame.place (suc skip) d in
      omega (arith, r)

  pub jumped : (after : Frame) → IsAt frame (frame.place + 1 + skip) frame.locals.items frame.operands.items after → FrameGoesOn m P nodes frame c after
  jumped after at =
      goes_on m P nodes nodes frame after (Jump skip) c b skip frame.locals.items frame.operands.items c.local_types c.operand_types c.locals c.operands at
      (fits_next m P nodes frame (Jump skip) c b) b.top.is.locals b.top.is.operands (λ next k w. refl)
