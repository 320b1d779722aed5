-- A call whose caller only gives its value back: the caller doesn't wait for it.
use Rattle.std.proofs.Common.{◌≡◌, ℕ, zero, suc, pred, ◌+◌, ◌-◌, ◌<◌, ◌≤◌, true, false, List, [], ◌∷◌, ◌++◌, length, take, drop, reverse, Some, None, slice_get, slice_index_or, nat_le, refl, sym, ap, ap₂, ◌∙◌, subst, arith}
use Rattle.std.proofs.lemmas.Bool.{le-leb}
use Rattle.std.proofs.lemmas.List.{length-map, length-append}
use Rattle.core_terms.specs.Types.{Ty}
use Rattle.core_terms.specs.Values.{Value, Values, NoV}
use Rattle.core_terms.specs.Terms.{Program}
use Rattle.core_terms.specs.TypingRules.{IsTyped}
use Rattle.ideal_meaning.specs.Run.{Mode, Gives, Ends}
use Rattle.core_terms.specs.Instructions.{Instruction, Unbind, Jump, Call, Return}
use Rattle.core_terms.specs.Bodies.{Body, code_at}
use Rattle.core_terms.specs.GeneratedCode.{generated}
use Rattle.core_terms.specs.InstructionViews.{instruction_of, instructions_of}
use Rattle.core_terms.specs.declared.instruction.Instruction.{Instruction as Listed}
use Rattle.ideal_meaning.specs.Execution.{Coded, Ran, Stuck, Held, held, tie, then_coded, exec, where_some, without_last}
use Rattle.core_terms.specs.Accepted.{Fits, IsFine}
use Rattle.core_terms.specs.CodeShapes.{Shape, shape}
use Rattle.code_meaning.specs.Steps as steps
use Rattle.value_store.specs.Nodes.{Node}
use Rattle.value_store.specs.Markings.{Marking, kind_of}
use Rattle.mode_vm.specs.Operands.{AllHeld}
use Rattle.mode_vm.specs.declared.operand.Operand.{Operand}
use Rattle.mode_vm.specs.Meanings.{StateOf, mode_of}
use Rattle.mode_vm.specs.Machines.{GivesBack, ValueFrame, ValueStack, stack_steps, waiting_of, enters, end_of, AreWaiting, AreDeep, IsDeep, Represents, IsNext}
use Rattle.mode_vm.specs.Outcomes.{GoesTo}
use Rattle.mode_vm.specs.StateParts.{BeginsLast}
use Rattle.mode_vm.specs.declared.state.State.{State}
use Rattle.mode_vm.proofs.Frames.{ToNext, fits_first, fine_rest, drop_more, calls}
use Rattle.mode_vm.proofs.Lifting.{mapped, waits_under}
use Rattle.mode_vm.proofs.Binding.{tied_length}
use Rattle.mode_vm.proofs.Calls.{Pushed, callee as Found, found, fine_here, called, caller, split, accepted, deep_called, same_end}

-- an instruction at a place, and what is behind it
pub returns_there : (is : List Instruction) (at : ℕ) → slice_get is at ≡ Some Return → GivesBack is at
returns_there [] at e = absurd (let clash : None ≡ Some Return = e in cc)
returns_there (i ∷ is) (suc at) e = returns_there is at e
returns_there (i ∷ is) zero e = let same : i ≡ Return = cc in subst (λ i. GivesBack (i ∷ is) zero) (sym same) tt

pub behind_unbind : (is : List Instruction) (at n : ℕ) → slice_get is at ≡ Some (Unbind n) → GivesBack is (at + 1) → GivesBack is at
behind_unbind [] at n e h = absurd (let clash : None ≡ Some (Unbind n) = e in cc)
behind_unbind (i ∷ is) (suc at) n e h = let next : suc at + 1 ≡ suc (at + 1) = omega arith in behind_unbind is at n e (subst (GivesBack (i ∷ is)) next h)
behind_unbind (i ∷ is) zero n e h = let same : i ≡ Unbind n = cc in subst (λ i. GivesBack (i ∷ is) zero) (sym same) h

pub behind_jump : (is : List Instruction) (at n : ℕ) → slice_get is at ≡ Some (Jump n) → GivesBack is (at + 1 + n) → GivesBack is at
behind_jump [] at n e h = absurd (let clash : None ≡ Some (Jump n) = e in cc)
behind_jump (i ∷ is) (suc at) n e h = let next : suc at + 1 + n ≡ suc (at + 1 + n) = omega arith in behind_jump is at n e (subst (GivesBack (i ∷ is)) next h)
behind_jump (i ∷ is) zero n e h =
    let same : i ≡ Jump n = cc in
    let next : 0 + 1 + n ≡ suc n = omega arith in
    subst (λ i. GivesBack (i ∷ is) zero) (sym same) (subst (GivesBack (i ∷ is)) next h)

pub stands_there : (types : List Ty) (xs : List Listed) (code : List Instruction) (at : ℕ) (d : Listed) → instructions_of types xs ≡ code → at < length xs
    → slice_get code at ≡ Some (instruction_of types (slice_index_or xs at d))
stands_there types xs code at d same h =
    let l = length-map xs (instruction_of types) in
    let there : at < length (instructions_of types xs) = omega (arith, h, l) in
    ap (λ is. slice_get is at) (sym same) ∙ mapped (instruction_of types) xs at d there

pub from_place : (is : List Instruction) (place : ℕ) → GivesBack is place → GivesBack (drop place is) 0
from_place [] zero h = h
from_place [] (suc place) h = h
from_place (i ∷ is) zero h = h
from_place (i ∷ is) (suc place) h = from_place is place h

kept_long : {A : Type 0} (n : ℕ) (xs : List A) → n ≤ length xs → length (take n xs) ≡ n
kept_long zero xs h = refl
kept_long (suc n) [] h = absurd (omega (arith, h))
kept_long (suc n) (x ∷ xs) h = let k : n ≤ length xs = omega (arith, h) in ap suc (kept_long n xs k)

last_off : (n : ℕ) (env : List Held) → n ≤ length env → without_last n env ≡ Some (take (length env - n) env)
last_off n env h = let e : nat_le n (length env) ≡ true = le-leb n (length env) h in rw e refl

none_held : (ops : List Held) → length ops ≡ 0 → ops ≡ []
none_held [] h = refl
none_held (x ∷ ops) h = absurd (omega (arith, h))

returned : (B : Body) (z t : Ty) (ls os : List Ty) (to : ℕ → List Ty → List Ty → Type 0) → Fits B z Return ls (t ∷ os) to → (t ≡ z) × (os ≡ [])
returned B z t ls [] to h = (h, refl)
returned B z t ls (u ∷ os) to h = elim h [ ]

module _ (B : Body) {C W : Type 0} (mode : Mode C W) (call : ℕ → Values → ℕ → W → Coded C W) (z : Ty) where
  -- What only gives back gives the top operand, which is of the type of what the function gives.
  pub record Back (is : List Instruction) (skip : ℕ) (t : Ty) (env ops : List Held) : Type 0 where
    pub same : t ≡ z
    pub gives : (u : Ty) (v : Value) (k : ℕ) (w : W) → exec B mode call is skip env (held u v ∷ ops) k w ≡ Ran (Gives v k w)

  pub back : (is : List Instruction) (skip : ℕ) (shapes : List Shape) (t : Ty) (ls os : List Ty) (env ops : List Held) → GivesBack is skip → IsFine B z is shapes
      → slice_get shapes skip ≡ Some (shape ls (t ∷ os)) → length env ≡ length ls → length ops ≡ length os → Back is skip t env ops
  back [] skip shapes t ls os env ops h fine starts e o = elim h [ ]
  back (i ∷ is) (suc skip) [] t ls os env ops h fine starts e o = elim fine [ ]
  back (i ∷ is) (suc skip) (s ∷ shapes) t ls os env ops h fine starts e o =
      let b = back is skip shapes t ls os env ops h fine.1 starts e o in
      record { same = b.same; gives = b.gives }
  back (Return ∷ is) zero shapes t ls os env ops h fine starts e o =
      let f = returned B z t ls os (ToNext B z shapes) (fits_first B z Return is shapes ls (t ∷ os) fine starts) in
      let none : ops ≡ [] = none_held ops (o ∙ ap length f.1) in
      record { same = f.0; gives = λ u v k w. ap (λ ops. exec B mode call (Return ∷ is) 0 env (held u v ∷ ops) k w) none }
  back (Unbind n ∷ is) zero shapes t ls os env ops h fine starts e o =
      let f : (kept : List Ty) × (dropped : List Ty) × (ls ≡ kept ++ dropped) × (length dropped ≡ n) × ToNext B z shapes 0 kept (t ∷ os) = fits_first B z (Unbind n) is shapes ls (t ∷ os) fine starts in
      let all = ap length f.2 ∙ length-append f.0 f.1 in
      let few = f.3 in
      let enough : n ≤ length env = omega (arith, e, all, few) in
      let left : length env - n ≡ length f.0 = omega (arith, e, all, few) in
      let fits : length env - n ≤ length env = omega arith in
      let b = back is 0 (drop 1 shapes) t f.0 os (take (length env - n) env) ops h (fine_rest B z (Unbind n) is shapes fine) f.4 (kept_long (length env - n) env fits ∙ left) o in
      record { same = b.same; gives = λ u v k w. ap (λ o. where_some o (λ env. exec B mode call is 0 env (held u v ∷ ops) k w)) (last_off n env enough) ∙ b.gives u v k w }
  back (Jump n ∷ is) zero shapes t ls os env ops h fine starts e o =
      let b = back is n (drop 1 shapes) t ls os env ops h (fine_rest B z (Jump n) is shapes fine) (fits_first B z (Jump n) is shapes ls (t ∷ os) fine starts) e o in
      record { same = b.same; gives = b.gives }
  back (i ∷ is) zero shapes t ls os env ops h fine starts e o = absurd h

-- what goes on alike comes to the same
then_alike : {C W : Type 0} (c : Coded C W) (f g : Value → ℕ → W → Coded C W) → ((v : Value) (k : ℕ) (w : W) → f v k w ≡ g v k w) → then_coded c f ≡ then_coded c g
then_alike (Ran (Gives v k w)) f g h = h v k w
then_alike (Ran (Ends stop k w)) f g h = refl
then_alike Stuck f g h = refl

module _ (m : Marking) (P : Program) (typed : IsTyped P) (z : Ty) (nodes : List Node) (old new : State) (f : ℕ) (cs : ValueStack) (shows : Represents m P z nodes old cs)
    (next : IsNext (Call f) cs.top) (entered : old.entered ≡ true)
    (last : GivesBack (code_at (generated P) old.top.function.0).code (old.top.place + 1))
    (args kept : List Operand) (long : length args ≡ length (code_at (generated P) f).parameters) (begins : BeginsLast old f args kept new) where
  abbrev B : Body
  B = generated P

  abbrev finds : Found m P typed z nodes old new f cs shows next entered
  finds = found m P typed z nodes old new f cs shows next entered

  abbrev parts : Pushed (kind_of m P) P.types nodes (code_at B f).parameters finds.0 args (reverse kept) cs.top.operands
  parts = split m P typed z nodes old new f cs shows next entered args kept long begins.operands

  abbrev runs : ValueFrame
  runs = called m P typed z nodes old new f cs shows next entered args kept long begins.operands

  abbrev waits : ValueFrame
  waits = caller m P typed z nodes old new f cs shows next entered args kept long begins.operands

  only_gives : GivesBack next.rest 0
  only_gives =
      let code = (code_at B old.top.function.0).code in
      subst (λ is. GivesBack is 0) (sym (ap (drop 1) (sym next.is ∙ shows.top.is.left) ∙ drop_more code old.top.place 1)) (from_place code (old.top.place + 1) last)

  given : Back B (mode_of m P) (calls m P cs.top.depth) cs.top.result next.rest 0 (code_at B f).result (tie cs.top.local_types cs.top.locals) (tie finds.0 parts.below)
  given =
      back B (mode_of m P) (calls m P cs.top.depth) cs.top.result next.rest 0 (drop 1 cs.top.shapes) (code_at B f).result cs.top.local_types finds.0
      (tie cs.top.local_types cs.top.locals) (tie finds.0 parts.below) only_gives
      (fine_rest B cs.top.result (Call f) next.rest cs.top.shapes (fine_here m P typed z nodes old new f cs shows next entered)) finds.2
      (tied_length (kind_of m P) P.types nodes old.top.locals.items cs.top.local_types cs.top.locals shows.top.is.locals)
      (tied_length (kind_of m P) P.types nodes (reverse kept) finds.0 parts.below parts.rest_stand)

  ends_same : (w : StateOf m) → end_of m P true cs old.fuel w ≡ end_of m P false (record { top = runs; waits = cs.waits }) old.fuel w
  ends_same w =
      let rest = steps.rest_of B (mode_of m P) (waiting_of cs.top.result cs.waits) in
      same_end m P typed z nodes old new f cs shows next entered args kept long begins.operands w
      ∙ then_alike (enters m P runs old.fuel w) (steps.rest_of B (mode_of m P) (waiting_of (code_at B f).result (waits ∷ cs.waits)))
      (steps.rest_of B (mode_of m P) (waiting_of (code_at B f).result cs.waits))
      (λ v k w. ap (λ c. then_coded c rest) (given.gives (code_at B f).result v k w) ∙ ap (λ t. steps.rest_of B (mode_of m P) (waiting_of t cs.waits) v k w) (sym given.same))

  pub last_leads : GoesTo m P z nodes true old.fuel cs new
  last_leads =
      let there = finds.3 in (
        record { top = runs; waits = cs.waits },
        record {
          top = record {
            is = record {
              there = omega (arith, there, begins.function);
              result = ap (λ f. (code_at B f).result) (sym begins.function);
              left = ap (λ p. drop p (code_at B f).code) (sym begins.place) ∙ ap (λ f. drop new.top.place (code_at B f).code) (sym begins.function);
              fine = (accepted m P typed z nodes old new f cs shows next entered args kept long begins.operands).1;
              locals = subst (λ l. AllHeld (kind_of m P) P.types nodes l (code_at B f).parameters parts.vs) (sym begins.locals) parts.args_stand;
              operands = subst (λ l. AllHeld (kind_of m P) P.types nodes (reverse l) [] NoV) (sym begins.no_operands) tt;
            };
            starts = (accepted m P typed z nodes old new f cs shows next entered args kept long begins.operands).2;
          };
          waits = subst (λ l. AreWaiting m P nodes z (code_at B f).result new.top.locals.below new.top.operands.below (reverse l) cs.waits) (sym begins.waiting)
              (subst (λ t. AreWaiting m P nodes z t new.top.locals.below new.top.operands.below (reverse old.waiting.items) cs.waits) (sym given.same)
              (waits_under m P nodes nodes (λ kind types r t v h. h) z cs.top.result old.top new.top begins.over (reverse old.waiting.items) cs.waits shows.waits));
          deep = subst (λ b. IsDeep b new.fuel runs) (sym begins.entered)
              (subst (λ k. k ≤ suc (pred cs.top.depth)) (sym begins.fuel) (deep_called m P typed z nodes old new f cs shows next entered args kept long begins.operands));
          deep_below = subst (λ k. AreDeep k cs.waits) (sym begins.fuel) shows.deep_below;
        },
        λ w. ends_same w ∙ ap₂ (λ b k. end_of m P b (record { top = runs; waits = cs.waits }) k w) (sym begins.entered) (sym begins.fuel),
        subst (λ b. stack_steps P b new.fuel (record { top = runs; waits = cs.waits }) < stack_steps P true old.fuel cs) (sym begins.entered)
            (subst (λ k. stack_steps P false k (record { top = runs; waits = cs.waits }) < stack_steps P true old.fuel cs) (sym begins.fuel) (let l = ap length next.is in
            omega (arith, l))),
      )
