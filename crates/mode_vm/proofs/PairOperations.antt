-- The instructions on pairs.
use Rattle.std.proofs.Common.{◌≡◌, ℕ, ◌++◌, List, [], ◌∷◌, Result, Ok, Option, refl, ap}
use Rattle.core_terms.specs.Types.{Ty, PairTy}
use Rattle.core_terms.specs.Values.{Value, PairV}
use Rattle.core_terms.specs.Terms.{Program}
use Rattle.core_terms.specs.declared.outcome.Trap.{Trap}
use Rattle.ideal_meaning.specs.Run.{Run, Gives, limited, first_in, second_in}
use Rattle.core_terms.specs.Instructions.{Pair, Fst, Snd}
use Rattle.core_terms.specs.GeneratedCode.{generated}
use Rattle.value_store.specs.Nodes.{Node}
use Rattle.value_store.specs.Standing.{Keeps}
use Rattle.value_store.specs.Markings.{Marking, kind_of}
use Rattle.mode_vm.specs.Operands.{IsHeld}
use Rattle.mode_vm.specs.declared.operand.Operand.{Operand}
use Rattle.mode_vm.specs.Meanings.{mode_of, CauseOf, StateOf}
use Rattle.mode_vm.specs.Machines.{ValueFrame, Before}
use Rattle.mode_vm.specs.Calculations.{Makes}
use Rattle.mode_vm.specs.Outcomes.{Acts}
use Rattle.mode_vm.specs.StateParts.{IsAt, Finishes}
use Rattle.mode_vm.specs.declared.frame.Frame.{Frame}
use Rattle.mode_vm.proofs.Frames.{calls, ToNext, fits_next}
use Rattle.mode_vm.proofs.Scalars.{on_pair}
use Rattle.mode_vm.proofs.Made.{GivesOfOne, ActsOnOne, first_operand, operand, one_acts, second_operand, two_acts}
use Rattle.mode_vm.proofs.Operands.{TakesOne, TakesTwo, pair_parts, first_parts, second_parts}

module _ (m : Marking) (P : Program) (nodes : List Node) (frame : Frame) (c : ValueFrame) (b : Before m P nodes frame Pair c)
    (last : List Operand) (first second : Operand) (top : frame.operands.items ≡ last ++ first ∷ second ∷ []) where
  parts : (s : Ty) × (t : Ty) × TakesTwo (generated P) c.result c.local_types (ToNext (generated P) c.result c.shapes) s t (PairTy s t) c.operand_types
  parts = pair_parts (generated P) c.result c.local_types (ToNext (generated P) c.result c.shapes) c.operand_types (fits_next m P nodes frame Pair c b)

  pub pair_first : (t : Ty) × (v : Value) × IsHeld (kind_of m P) P.types nodes first t v
  pair_first = let x = first_operand m P nodes frame Pair c b last first second top parts.0 parts.1 (PairTy parts.0 parts.1) parts.2 in (parts.0, x.0, x.1)

  pub pair_second : (t : Ty) × (v : Value) × IsHeld (kind_of m P) P.types nodes second t v
  pair_second = let x = second_operand m P nodes frame Pair c b last first second top parts.0 parts.1 (PairTy parts.0 parts.1) parts.2 in (parts.1, x.0, x.1)

  pub pair_acts : {E : Type 0} (new : List Node) → Keeps nodes new → (mid after : Frame) → IsAt frame frame.place frame.locals.items last mid → (made : Result Operand Trap)
      → ((s t : Ty) (x y : Value) → IsHeld (kind_of m P) P.types nodes first s x → IsHeld (kind_of m P) P.types nodes second t y
      → Makes m (kind_of m P) P.types new (PairTy s t) (limited P.format.limit P.types (PairTy s t) (PairV x y)) made)
      → (result : Result (Option Trap) E) → Finishes mid made after result → Acts m P new frame c after result
  pair_acts new keeps mid after at made makes =
      two_acts m P nodes frame Pair c b last first second top parts.0 parts.1 (PairTy parts.0 parts.1) parts.2
      (λ x y. limited P.format.limit P.types (PairTy parts.0 parts.1) (PairV x y)) (λ x y h j next env ops k w. refl) new keeps mid after at made (makes parts.0 parts.1)

module _ (m : Marking) (P : Program) (nodes : List Node) (frame : Frame) (c : ValueFrame) (b : Before m P nodes frame Fst c)
    (last : List Operand) (r : Operand) (top : frame.operands.items ≡ last ++ r ∷ []) where
  first_takes : (s : Ty) × (t : Ty) × TakesOne (generated P) c.result c.local_types (ToNext (generated P) c.result c.shapes) (PairTy s t) s c.operand_types
  first_takes = first_parts (generated P) c.result c.local_types (ToNext (generated P) c.result c.shapes) c.operand_types (fits_next m P nodes frame Fst c b)

  pub first_pair : (s : Ty) × (t : Ty) × (v : Value) × IsHeld (kind_of m P) P.types nodes r (PairTy s t) v
  first_pair =
      let x = operand m P nodes frame Fst c b last r top (PairTy first_takes.0 first_takes.1) first_takes.0 first_takes.2 in
      (first_takes.0, first_takes.1, x.0, x.1)

  pub first_acts : {E : Type 0} (mid after : Frame) → IsAt frame frame.place frame.locals.items last mid → (part : Operand)
      → ((s t : Ty) (v : Value) → IsHeld (kind_of m P) P.types nodes r (PairTy s t) v
      → (x : Value) × (y : Value) × (v ≡ PairV x y) × IsHeld (kind_of m P) P.types nodes part s x)
      → (result : Result (Option Trap) E) → Finishes mid (Ok part) after result → Acts m P nodes frame c after result
  first_acts mid after at part is =
      one_acts m P nodes frame Fst c b last r top (PairTy first_takes.0 first_takes.1) first_takes.0 first_takes.2 run same nodes (λ kind types r t v h. h) mid after at (Ok part)
      (λ v h. let p = is first_takes.0 first_takes.1 v h in (p.0, p.3, λ k w. ap (λ v. Gives (first_in v) k w) p.2))
    where
      run : Value → ℕ → StateOf m → Run (CauseOf m) (StateOf m) Value
      run v k w = Gives (first_in v) k w

      same : ActsOnOne m P nodes frame Fst c b last r top (PairTy first_takes.0 first_takes.1) first_takes.0 first_takes.2 run
      same v h = on_pair (kind_of m P) P.types nodes (λ x. GivesOfOne (generated P) (mode_of m P) (calls m P c.depth) Fst (PairTy first_takes.0 first_takes.1) first_takes.0 run x) (λ x y next env ops k w. refl) first_takes.0 first_takes.1 r v h

module _ (m : Marking) (P : Program) (nodes : List Node) (frame : Frame) (c : ValueFrame) (b : Before m P nodes frame Snd c)
    (last : List Operand) (r : Operand) (top : frame.operands.items ≡ last ++ r ∷ []) where
  second_takes : (s : Ty) × (t : Ty) × TakesOne (generated P) c.result c.local_types (ToNext (generated P) c.result c.shapes) (PairTy s t) t c.operand_types
  second_takes = second_parts (generated P) c.result c.local_types (ToNext (generated P) c.result c.shapes) c.operand_types (fits_next m P nodes frame Snd c b)

  pub second_pair : (s : Ty) × (t : Ty) × (v : Value) × IsHeld (kind_of m P) P.types nodes r (PairTy s t) v
  second_pair =
      let x = operand m P nodes frame Snd c b last r top (PairTy second_takes.0 second_takes.1) second_takes.1 second_takes.2 in
      (second_takes.0, second_takes.1, x.0, x.1)

  pub second_acts : {E : Type 0} (mid after : Frame) → IsAt frame frame.place frame.locals.items last mid → (part : Operand)
      → ((s t : Ty) (v : Value) → IsHeld (kind_of m P) P.types nodes r (PairTy s t) v
      → (x : Value) × (y : Value) × (v ≡ PairV x y) × IsHeld (kind_of m P) P.types nodes part t y)
      → (result : Result (Option Trap) E) → Finishes mid (Ok part) after result → Acts m P nodes frame c after result
  second_acts mid after at part is =
      one_acts m P nodes frame Snd c b last r top (PairTy second_takes.0 second_takes.1) second_takes.1 second_takes.2 run same nodes (λ kind types r t v h. h) mid after at (Ok part)
      (λ v h. let p = is second_takes.0 second_takes.1 v h in (p.1, p.3, λ k w. ap (λ v. Gives (second_in v) k w) p.2))
    where
      run : Value → ℕ → StateOf m → Run (CauseOf m) (StateOf m) Value
      run v k w = Gives (second_in v) k w

      same : ActsOnOne m P nodes frame Snd c b last r top (PairTy second_takes.0 second_takes.1) second_takes.1 second_takes.2 run
      same v h = on_pair (kind_of m P) P.types nodes (λ x. GivesOfOne (generated P) (mode_of m P) (calls m P c.depth) Snd (PairTy second_takes.0 second_takes.1) second_takes.1 run x) (λ x y next env ops k w. refl) second_takes.0 second_takes.1 r v h
