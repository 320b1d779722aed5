-- An instruction that gives what was made, or traps.
use Rattle.std.proofs.Common.{◌≡◌, ℕ, ◌+◌, List, [], ◌∷◌, ◌++◌, reverse, Result, Ok, Err, Option, Some, None, sym, ap, ◌∙◌, subst}
use Rattle.core_terms.specs.Types.{Ty}
use Rattle.core_terms.specs.Values.{Value, Values}
use Rattle.core_terms.specs.Terms.{Program}
use Rattle.core_terms.specs.declared.outcome.Trap.{Trap}
use Rattle.ideal_meaning.specs.Run.{Ends, Mode, Traps, Run}
use Rattle.ideal_meaning.specs.Told.{trap_told}
use Rattle.core_terms.specs.Instructions.{Instruction}
use Rattle.core_terms.specs.Bodies.{Body}
use Rattle.core_terms.specs.GeneratedCode.{generated}
use Rattle.ideal_meaning.specs.Execution.{Coded, Ran, Held, held, tie, act, exec, Next, then_code}
use Rattle.value_store.specs.Nodes.{Node}
use Rattle.value_store.specs.Standing.{Keeps}
use Rattle.value_store.specs.Markings.{Marking, kind_of}
use Rattle.mode_vm.specs.Operands.{AllHeld, IsHeld}
use Rattle.mode_vm.specs.declared.operand.Operand.{Operand}
use Rattle.mode_vm.specs.Meanings.{CauseOf, StateOf, mode_of}
use Rattle.mode_vm.specs.Machines.{ValueFrame, Before}
use Rattle.mode_vm.specs.Calculations.{Makes}
use Rattle.mode_vm.specs.Outcomes.{Acts}
use Rattle.mode_vm.specs.StateParts.{IsAt, Finishes, FinishesOn}
use Rattle.mode_vm.specs.declared.frame.Frame.{Frame}
use Rattle.mode_vm.proofs.Frames.{ToNext, pushes, calls, runs_first}
use Rattle.mode_vm.proofs.Operands.{One, Two, Three, TakesOne, TakesTwo, TakesThree, one_popped, two_popped, three_popped}

-- what an instruction gives of operands of these types, which has type u
module _ (B : Body) {C W : Type 0} (mode : Mode C W) (call : ℕ → Values → ℕ → W → Coded C W) (i : Instruction) where
  abbrev pub GivesOfOne : (t u : Ty) → (Value → ℕ → W → Run C W Value) → Value → Type 0
  GivesOfOne t u run x = (next : Next C W) (env ops : List Held) (k : ℕ) (w : W) → act B mode call i next env (held t x ∷ ops) k w ≡ then_code (run x k w) (λ v k w. next 0 env (held u v ∷ ops) k w)

  abbrev pub GivesOfTwo : (s t u : Ty) → (Value → Value → ℕ → W → Run C W Value) → Value → Value → Type 0
  GivesOfTwo s t u run x y =
      (next : Next C W) (env ops : List Held) (k : ℕ) (w : W) → act B mode call i next env (held t y ∷ held s x ∷ ops) k w ≡ then_code (run x y k w) (λ v k w. next 0 env (held u v ∷ ops) k w)

  abbrev pub GivesOfThree : (r s t u : Ty) → (Value → Value → Value → ℕ → W → Run C W Value) → Value → Value → Value → Type 0
  GivesOfThree r s t u run x y z =
      (next : Next C W) (env ops : List Held) (k : ℕ) (w : W) → act B mode call i next env (held t z ∷ held s y ∷ held r x ∷ ops) k w ≡ then_code (run x y z k w) (λ v k w. next 0 env (held u v ∷ ops) k w)

module _ (frame mid after : Frame) (kept : List Operand) (popped : IsAt frame frame.place frame.locals.items kept mid) where
  pub from_popped : (r : Operand) → IsAt mid (mid.place + 1) mid.locals.items (mid.operands.items ++ r ∷ []) after → IsAt frame (frame.place + 1) frame.locals.items (kept ++ r ∷ []) after
  from_popped r at = record {
    function = at.function ∙ popped.function;
    place = at.place ∙ ap (λ p. p + 1) popped.place;
    locals = at.locals ∙ popped.locals;
    operands = at.operands ∙ ap (λ l. l ++ r ∷ []) popped.operands;
    over = record { locals = at.over.locals ∙ popped.over.locals; operands = at.over.operands ∙ popped.over.operands };
  }

  pub finishes_on : {E : Type 0} (made : Result Operand Trap) (result : Result (Option Trap) E) → Finishes mid made after result → FinishesOn frame kept made after result
  finishes_on (Ok r) (Ok None) h = from_popped r h
  finishes_on (Err trap) (Ok (Some told)) h = h
  finishes_on (Ok r) (Err e) h = h
  finishes_on (Err trap) (Err e) h = h
  finishes_on (Ok r) (Ok (Some told)) h = elim h [ ]
  finishes_on (Err trap) (Ok None) h = elim h [ ]

module _ (m : Marking) (P : Program) (nodes new : List Node) (keeps : Keeps nodes new) (frame after : Frame) (i : Instruction) (c : ValueFrame) (b : Before m P nodes frame i c)
    (kept : List Operand) (t : Ty) (ts : List Ty) (us : Values) (run : ℕ → StateOf m → Run (CauseOf m) (StateOf m) Value) where
  abbrev ActsAs : Type 0
  ActsAs = (next : Next (CauseOf m) (StateOf m)) (k : ℕ) (w : StateOf m) → act (generated P) (mode_of m P) (calls m P c.depth) i next (tie c.local_types c.locals) (tie c.operand_types c.operands) k w
      ≡ then_code (run k w) (λ v k w. next 0 (tie c.local_types c.locals) (held t v ∷ tie ts us) k w)

  pub made_acts : {E : Type 0} → ActsAs → ToNext (generated P) c.result c.shapes 0 c.local_types (t ∷ ts) → AllHeld (kind_of m P) P.types nodes (reverse kept) ts us
      → (made : Result Operand Trap) → Makes m (kind_of m P) P.types new t run made → (result : Result (Option Trap) E) → FinishesOn frame kept made after result → Acts m P new frame c after result
  made_acts acts to below (Ok r) tells (Ok None) at =
      pushes m P nodes new keeps frame after i c b kept r t tells.0 ts us at to tells.1 below
      (λ next k w. acts next k w ∙ ap (λ r. then_code r (λ v k w. next 0 (tie c.local_types c.locals) (held t v ∷ tie ts us) k w)) (tells.2 k w))
  made_acts acts to below (Err trap) tells (Ok (Some told)) same =
      λ k w. let next = exec (generated P) (mode_of m P) (calls m P c.depth) b.next.rest in
      runs_first m P nodes frame i c b k w ∙ acts next k w
      ∙ ap (λ r. then_code r (λ v k w. next 0 (tie c.local_types c.locals) (held t v ∷ tie ts us) k w)) (tells k w)
      ∙ ap (λ t. Ran (Ends (Traps (trap_told t)) k w)) (sym same)
  made_acts acts to below (Ok r) tells (Err e) at = tt
  made_acts acts to below (Err trap) tells (Err e) at = tt
  made_acts acts to below (Ok r) tells (Ok (Some told)) at = elim at [ ]
  made_acts acts to below (Err trap) tells (Ok None) at = elim at [ ]

-- one operand
module _ (m : Marking) (P : Program) (nodes : List Node) (frame : Frame) (i : Instruction) (c : ValueFrame) (b : Before m P nodes frame i c)
    (last : List Operand) (first : Operand) (top : frame.operands.items ≡ last ++ first ∷ [])
    (t u : Ty) (takes : TakesOne (generated P) c.result c.local_types (ToNext (generated P) c.result c.shapes) t u c.operand_types) where
  abbrev pub on_one : One (kind_of m P) P.types nodes first (reverse last) t takes.below c.operands
  on_one = one_popped (kind_of m P) P.types nodes frame.operands.items last first t takes.below c.operands top
      (subst (λ os. AllHeld (kind_of m P) P.types nodes (reverse frame.operands.items) os c.operands) takes.is b.top.is.operands)

  pub operand : (v : Value) × IsHeld (kind_of m P) P.types nodes first t v
  operand = (on_one.x, on_one.stands)

  pub acts_one : (next : Next (CauseOf m) (StateOf m)) (k : ℕ) (w : StateOf m)
      → act (generated P) (mode_of m P) (calls m P c.depth) i next (tie c.local_types c.locals) (tie c.operand_types c.operands) k w
      ≡ act (generated P) (mode_of m P) (calls m P c.depth) i next (tie c.local_types c.locals) (held t on_one.x ∷ tie takes.below on_one.below) k w
  acts_one next k w =
      ap (λ os. act (generated P) (mode_of m P) (calls m P c.depth) i next (tie c.local_types c.locals) (tie os c.operands) k w) takes.is
      ∙ ap (λ us. act (generated P) (mode_of m P) (calls m P c.depth) i next (tie c.local_types c.locals) (tie (t ∷ takes.below) us) k w) on_one.is

  -- what the instruction gives of its operand
  abbrev pub ActsOnOne : (Value → ℕ → StateOf m → Run (CauseOf m) (StateOf m) Value) → Type 0
  ActsOnOne run = (x : Value) → IsHeld (kind_of m P) P.types nodes first t x → GivesOfOne (generated P) (mode_of m P) (calls m P c.depth) i t u run x

  pub one_acts : {E : Type 0} (run : Value → ℕ → StateOf m → Run (CauseOf m) (StateOf m) Value) → ActsOnOne run
      → (new : List Node) → Keeps nodes new → (mid after : Frame) → IsAt frame frame.place frame.locals.items last mid → (made : Result Operand Trap)
      → ((x : Value) → IsHeld (kind_of m P) P.types nodes first t x → Makes m (kind_of m P) P.types new u (run x) made)
      → (result : Result (Option Trap) E) → Finishes mid made after result → Acts m P new frame c after result
  one_acts run acts new keeps mid after at made makes result finishes =
      made_acts m P nodes new keeps frame after i c b last u takes.below on_one.below (run on_one.x)
      (λ next k w. acts_one next k w ∙ acts on_one.x on_one.stands next (tie c.local_types c.locals) (tie takes.below on_one.below) k w)
      takes.goes on_one.rest made (makes on_one.x on_one.stands) result (finishes_on frame mid after last at made result finishes)

-- two operands
module _ (m : Marking) (P : Program) (nodes : List Node) (frame : Frame) (i : Instruction) (c : ValueFrame) (b : Before m P nodes frame i c)
    (last : List Operand) (first second : Operand) (top : frame.operands.items ≡ last ++ first ∷ second ∷ [])
    (s t u : Ty) (takes : TakesTwo (generated P) c.result c.local_types (ToNext (generated P) c.result c.shapes) s t u c.operand_types) where
  abbrev pub on_two : Two (kind_of m P) P.types nodes first second (reverse last) s t takes.below c.operands
  on_two = two_popped (kind_of m P) P.types nodes frame.operands.items last first second s t takes.below c.operands top
      (subst (λ os. AllHeld (kind_of m P) P.types nodes (reverse frame.operands.items) os c.operands) takes.is b.top.is.operands)

  pub first_operand : (v : Value) × IsHeld (kind_of m P) P.types nodes first s v
  first_operand = (on_two.x, on_two.first_stands)

  pub second_operand : (v : Value) × IsHeld (kind_of m P) P.types nodes second t v
  second_operand = (on_two.y, on_two.second_stands)

  acts_two : (next : Next (CauseOf m) (StateOf m)) (k : ℕ) (w : StateOf m)
      → act (generated P) (mode_of m P) (calls m P c.depth) i next (tie c.local_types c.locals) (tie c.operand_types c.operands) k w
      ≡ act (generated P) (mode_of m P) (calls m P c.depth) i next (tie c.local_types c.locals) (held t on_two.y ∷ held s on_two.x ∷ tie takes.below on_two.below) k w
  acts_two next k w =
      ap (λ os. act (generated P) (mode_of m P) (calls m P c.depth) i next (tie c.local_types c.locals) (tie os c.operands) k w) takes.is
      ∙ ap (λ us. act (generated P) (mode_of m P) (calls m P c.depth) i next (tie c.local_types c.locals) (tie (t ∷ s ∷ takes.below) us) k w) on_two.is

  -- what the instruction gives of its operands
  abbrev pub ActsOnTwo : (Value → Value → ℕ → StateOf m → Run (CauseOf m) (StateOf m) Value) → Type 0
  ActsOnTwo run = (x y : Value) → IsHeld (kind_of m P) P.types nodes first s x → IsHeld (kind_of m P) P.types nodes second t y
      → GivesOfTwo (generated P) (mode_of m P) (calls m P c.depth) i s t u run x y

  pub two_acts : {E : Type 0} (run : Value → Value → ℕ → StateOf m → Run (CauseOf m) (StateOf m) Value) → ActsOnTwo run
      → (new : List Node) → Keeps nodes new → (mid after : Frame) → IsAt frame frame.place frame.locals.items last mid → (made : Result Operand Trap)
      → ((x y : Value) → IsHeld (kind_of m P) P.types nodes first s x → IsHeld (kind_of m P) P.types nodes second t y
      → Makes m (kind_of m P) P.types new u (run x y) made)
      → (result : Result (Option Trap) E) → Finishes mid made after result → Acts m P new frame c after result
  two_acts run acts new keeps mid after at made makes result finishes =
      made_acts m P nodes new keeps frame after i c b last u takes.below on_two.below (run on_two.x on_two.y)
      (λ next k w. acts_two next k w ∙ acts on_two.x on_two.y on_two.first_stands on_two.second_stands next (tie c.local_types c.locals) (tie takes.below on_two.below) k w)
      takes.goes on_two.rest made (makes on_two.x on_two.y on_two.first_stands on_two.second_stands) result (finishes_on frame mid after last at made result finishes)

-- three operands
module _ (m : Marking) (P : Program) (nodes : List Node) (frame : Frame) (i : Instruction) (c : ValueFrame) (b : Before m P nodes frame i c)
    (last : List Operand) (first second third : Operand) (top : frame.operands.items ≡ last ++ first ∷ second ∷ third ∷ [])
    (r s t u : Ty) (takes : TakesThree (generated P) c.result c.local_types (ToNext (generated P) c.result c.shapes) r s t u c.operand_types) where
  abbrev pub on_three : Three (kind_of m P) P.types nodes first second third (reverse last) r s t takes.below c.operands
  on_three = three_popped (kind_of m P) P.types nodes frame.operands.items last first second third r s t takes.below c.operands top
      (subst (λ os. AllHeld (kind_of m P) P.types nodes (reverse frame.operands.items) os c.operands) takes.is b.top.is.operands)

  pub three_operands : (x : Value) × (y : Value) × (z : Value) × IsHeld (kind_of m P) P.types nodes first r x × IsHeld (kind_of m P) P.types nodes second s y
      × IsHeld (kind_of m P) P.types nodes third t z
  three_operands = (on_three.x, on_three.y, on_three.z, on_three.first_stands, on_three.second_stands, on_three.third_stands)

  acts_three : (next : Next (CauseOf m) (StateOf m)) (k : ℕ) (w : StateOf m)
      → act (generated P) (mode_of m P) (calls m P c.depth) i next (tie c.local_types c.locals) (tie c.operand_types c.operands) k w
      ≡ act (generated P) (mode_of m P) (calls m P c.depth) i next (tie c.local_types c.locals)
      (held t on_three.z ∷ held s on_three.y ∷ held r on_three.x ∷ tie takes.below on_three.below) k w
  acts_three next k w =
      ap (λ os. act (generated P) (mode_of m P) (calls m P c.depth) i next (tie c.local_types c.locals) (tie os c.operands) k w) takes.is
      ∙ ap (λ us. act (generated P) (mode_of m P) (calls m P c.depth) i next (tie c.local_types c.locals) (tie (t ∷ s ∷ r ∷ takes.below) us) k w) on_three.is

  -- what the instruction gives of its operands
  abbrev pub ActsOnThree : (Value → Value → Value → ℕ → StateOf m → Run (CauseOf m) (StateOf m) Value) → Type 0
  ActsOnThree run = (x y z : Value) → IsHeld (kind_of m P) P.types nodes first r x → IsHeld (kind_of m P) P.types nodes second s y
      → IsHeld (kind_of m P) P.types nodes third t z → GivesOfThree (generated P) (mode_of m P) (calls m P c.depth) i r s t u run x y z

  pub three_acts : {E : Type 0} (run : Value → Value → Value → ℕ → StateOf m → Run (CauseOf m) (StateOf m) Value) → ActsOnThree run
      → (new : List Node) → Keeps nodes new → (mid after : Frame) → IsAt frame frame.place frame.locals.items last mid → (made : Result Operand Trap)
      → ((x y z : Value) → IsHeld (kind_of m P) P.types nodes first r x → IsHeld (kind_of m P) P.types nodes second s y
      → IsHeld (kind_of m P) P.types nodes third t z → Makes m (kind_of m P) P.types new u (run x y z) made)
      → (result : Result (Option Trap) E) → Finishes mid made after result → Acts m P new frame c after result
  three_acts run acts new keeps mid after at made makes result finishes =
      made_acts m P nodes new keeps frame after i c b last u takes.below on_three.below (run on_three.x on_three.y on_three.z)
      (λ next k w. acts_three next k w
      ∙ acts on_three.x on_three.y on_three.z on_three.first_stands on_three.second_stands on_three.third_stands next (tie c.local_types c.locals) (tie takes.below on_three.below) k w)
      takes.goes on_three.rest made (makes on_three.x on_three.y on_three.z on_three.first_stands on_three.second_stands on_three.third_stands) result
      (finishes_on frame mid after last at made result finishes)
