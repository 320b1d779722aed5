-- A call begins, and gives back.
use Rattle.std.proofs.Common.{◌≡◌, ℕ, zero, suc, pred, ◌+◌, ◌<◌, ◌≤◌, true, false, List, [], ◌∷◌, ◌++◌, length, drop, reverse, Some, slice_get, refl, sym, ap, ap₂, ◌∙◌, subst, arith, append_assoc}
use Rattle.std.proofs.lemmas.List.{reverse-append, length-reverse}
use Rattle.core_terms.specs.Types.{Ty, Table}
use Rattle.core_terms.specs.Values.{Values, NoV, AndV}
use Rattle.core_terms.specs.Terms.{Program}
use Rattle.core_terms.specs.TypingRules.{IsTyped}
use Rattle.ideal_meaning.specs.Run.{join}
use Rattle.core_terms.specs.Instructions.{Call}
use Rattle.core_terms.specs.Bodies.{Body, code_at}
use Rattle.core_terms.specs.GeneratedCode.{generated}
use Rattle.ideal_meaning.specs.Execution.{Coded, held, tie, Held, popped, then_coded, exec, call_code}
use Rattle.core_terms.specs.Accepted.{push_types, IsFine}
use Rattle.core_terms.specs.CodeShapes.{Shape, shape}
use Rattle.code_meaning.specs.Steps as steps
use Rattle.ideal_meaning.proofs.Parts.{push_all}
use Rattle.code_meaning.proofs.Loop.{then_twice}
use Rattle.code_meaning.proofs.CodeRight.{functions_found, generated_accepted}
use Rattle.value_store.specs.Nodes.{Node}
use Rattle.value_store.specs.Standing.{Kind}
use Rattle.value_store.specs.Markings.{Marking, kind_of}
use Rattle.mode_vm.specs.Operands.{AllHeld}
use Rattle.mode_vm.specs.declared.operand.Operand.{Operand}
use Rattle.mode_vm.specs.Meanings.{CauseOf, StateOf, mode_of}
use Rattle.mode_vm.specs.Machines.{ValueFrame, ValueStack, stack_steps, waiting_of, enters, end_of, AreWaiting, AreDeep, IsDeep, Represents, IsNext}
use Rattle.mode_vm.specs.Outcomes.{GoesTo}
use Rattle.mode_vm.specs.StateParts.{Begins, IsAt, frame_in}
use Rattle.mode_vm.specs.declared.state.State.{State}
use Rattle.mode_vm.proofs.Operands.{as_many}
use Rattle.mode_vm.proofs.Frames.{ToNext, fits_first, fine_rest, drop_more, calls}
use Rattle.mode_vm.proofs.Lifting.{waits_under}

module _ (kind : Kind) (types : Table) (nodes : List Node) where
  -- the topmost operands are args, the last of them being the top, and rest are those below
  pub record Pushed (ts under : List Ty) (args rest : List Operand) (us : Values) : Type 0 where
    pub vs : Values
    pub below : Values
    pub args_stand : AllHeld kind types nodes args ts vs
    pub rest_stand : AllHeld kind types nodes rest under below
    pub tied : tie (push_types ts under) us ≡ push_all ts vs (tie under below)

  one_more : (t : Ty) (ts under : List Ty) (a : Operand) (args rest : List Operand) (us vs below : Values) → AllHeld kind types nodes args ts vs → AllHeld kind types nodes (a ∷ rest) (t ∷ under) below
      → tie (push_types (t ∷ ts) under) us ≡ push_all ts vs (tie (t ∷ under) below) → Pushed (t ∷ ts) under (a ∷ args) rest us
  one_more t ts under a args rest us vs (AndV v below) h j e = record { vs = AndV v vs; below = below; args_stand = (j.0, h); rest_stand = j.1; tied = e }
  one_more t ts under a args rest us vs NoV h j e = elim j [ ]

  pub pushed : (ts under : List Ty) (args rest : List Operand) (us : Values) → length args ≡ length ts → AllHeld kind types nodes (reverse args ++ rest) (push_types ts under) us
      → Pushed ts under args rest us
  pushed [] under [] rest us e h = record { vs = NoV; below = us; args_stand = tt; rest_stand = h; tied = refl }
  pushed (t ∷ ts) under (a ∷ args) rest us e h =
      let same : reverse (a ∷ args) ++ rest ≡ reverse args ++ (a ∷ rest) = ap (λ l. l ++ rest) (reverse-append (a ∷ []) args) ∙ append_assoc (reverse args) (a ∷ []) rest in
      let long : length args ≡ length ts = omega (arith, e) in
      let p = pushed ts (t ∷ under) args (a ∷ rest) us long (subst (λ l. AllHeld kind types nodes l (push_types ts (t ∷ under)) us) same h) in
      one_more t ts under a args rest us p.vs p.below p.args_stand p.rest_stand p.tied
  pushed [] under (a ∷ args) rest us e h = absurd (omega (arith, e))
  pushed (t ∷ ts) under [] rest us e h = absurd (omega (arith, e))

  join_nil : (vs : Values) → join vs NoV ≡ vs
  join_nil NoV = refl
  join_nil (AndV v vs) = ap (AndV v) (join_nil vs)

  popped_back : {C W : Type 0} (args : List Operand) (ts : List Ty) (vs : Values) → AllHeld kind types nodes args ts vs
      → (n : ℕ) (ops : List Held) (acc : Values) (go : Values → List Held → Coded C W) → popped (length ts + n) (push_all ts vs ops) acc go ≡ popped n ops (join vs acc) go
  popped_back [] [] NoV h n ops acc go = let e : 0 + n ≡ n = omega arith in ap (λ m. popped m ops acc go) e
  popped_back (a ∷ args) (t ∷ ts) (AndV v vs) h n ops acc go =
      let e : length (t ∷ ts) + n ≡ length ts + suc n = omega arith in
      ap (λ m. popped m (push_all ts vs (held t v ∷ ops)) acc go) e ∙ popped_back args ts vs h.1 (suc n) (held t v ∷ ops) acc go
  popped_back [] [] (AndV v vs) h n ops acc go = elim h [ ]
  popped_back [] (t ∷ ts) vs h n ops acc go = elim h [ ]
  popped_back (a ∷ args) [] vs h n ops acc go = elim h [ ]
  popped_back (a ∷ args) (t ∷ ts) NoV h n ops acc go = elim h [ ]

  pub popped_args : {C W : Type 0} (args : List Operand) (ts : List Ty) (vs : Values) → AllHeld kind types nodes args ts vs → (ops : List Held) (go : Values → List Held → Coded C W)
      → popped (length ts) (push_all ts vs ops) NoV go ≡ go vs ops
  popped_args args ts vs h ops go =
      let e : length ts ≡ length ts + 0 = omega arith in
      ap (λ m. popped m (push_all ts vs ops) NoV go) e ∙ popped_back args ts vs h 0 ops NoV go ∙ ap (λ us. go us ops) (join_nil vs)

pub length_push : (ts us : List Ty) → length (push_types ts us) ≡ length ts + length us
length_push [] us = omega arith
length_push (t ∷ ts) us = let h = length_push ts (t ∷ us) in omega (arith, h)

module _ (m : Marking) (P : Program) (typed : IsTyped P) (z : Ty) (nodes : List Node) (old new : State) (f : ℕ) (cs : ValueStack) (shows : Represents m P z nodes old cs)
    (next : IsNext (Call f) cs.top) (entered : old.entered ≡ true) where
  abbrev pub B : Body
  B = generated P

  abbrev pub callee : Type 0
  callee = (under : List Ty) × (cs.top.operand_types ≡ push_types (code_at B f).parameters under) × ToNext B cs.top.result cs.top.shapes 0 cs.top.local_types ((code_at B f).result ∷ under)
      × (f < length B.functions)

  pub fine_here : IsFine B cs.top.result (Call f ∷ next.rest) cs.top.shapes
  fine_here = subst (λ is. IsFine B cs.top.result is cs.top.shapes) next.is shows.top.is.fine

  pub found : callee
  found = fits_first B cs.top.result (Call f) next.rest cs.top.shapes cs.top.local_types cs.top.operand_types fine_here shows.top.starts

  pub callee_there : f < length P.functions
  callee_there = let l = functions_found P typed in omega (arith, found.3, l)

  pub enough : length (code_at B f).parameters ≤ length old.top.operands.items
  enough =
      let a = as_many (kind_of m P) P.types nodes (reverse old.top.operands.items) cs.top.operand_types cs.top.operands shows.top.is.operands in
      let r = length-reverse old.top.operands.items in
      let p = ap length found.1 ∙ length_push (code_at B f).parameters found.0 in
      omega (arith, a, r, p)

  module _ (args kept : List Operand) (long : length args ≡ length (code_at B f).parameters) (operands : old.top.operands.items ≡ kept ++ args) where
    abbrev pub split : Pushed (kind_of m P) P.types nodes (code_at B f).parameters found.0 args (reverse kept) cs.top.operands
    split =
        let e : reverse old.top.operands.items ≡ reverse args ++ reverse kept = ap reverse operands ∙ reverse-append kept args in
        pushed (kind_of m P) P.types nodes (code_at B f).parameters found.0 args (reverse kept) cs.top.operands long
        (subst (λ l. AllHeld (kind_of m P) P.types nodes l (push_types (code_at B f).parameters found.0) cs.top.operands) e
        (subst (λ os. AllHeld (kind_of m P) P.types nodes (reverse old.top.operands.items) os cs.top.operands) found.1 shows.top.is.operands))

    abbrev pub accepted : (shapes : List Shape) × IsFine B (code_at B f).result (code_at B f).code shapes × (slice_get shapes 0 ≡ Some (shape (code_at B f).parameters []))
    accepted = generated_accepted P typed f

    abbrev pub called : ValueFrame
    called = record {
      depth = pred cs.top.depth;
      left = (code_at B f).code;
      shapes = accepted.0;
      result = (code_at B f).result;
      local_types = (code_at B f).parameters;
      locals = split.vs;
      operand_types = [];
      operands = NoV;
    }

    abbrev pub caller : ValueFrame
    caller = record {
      depth = cs.top.depth;
      left = next.rest;
      shapes = drop 1 cs.top.shapes;
      result = cs.top.result;
      local_types = cs.top.local_types;
      locals = cs.top.locals;
      operand_types = found.0;
      operands = split.below;
    }

    pub deep_here : old.fuel ≤ cs.top.depth
    deep_here = subst (λ b. IsDeep b old.fuel cs.top) entered shows.deep

    pub deep_called : old.fuel ≤ suc (pred cs.top.depth)
    deep_called = by cs.top.depth deep_here
      where
        by : (n : ℕ) → old.fuel ≤ n → old.fuel ≤ suc (pred n)
        by zero h = omega (arith, h)
        by (suc n) h = h

    -- a call of the definitions takes its unit of fuel where the frame is entered
    enters_call : (n k : ℕ) (w : StateOf m) → k ≤ n → call_code B (mode_of m P) n f split.vs k w ≡ enters m P
        (record {
          depth = pred n;
          left = (code_at B f).code;
          shapes = accepted.0;
          result = (code_at B f).result;
          local_types = (code_at B f).parameters;
          locals = split.vs;
          operand_types = [];
          operands = NoV;
        }) k w
    enters_call zero zero w h = refl
    enters_call zero (suc k) w h = absurd (omega (arith, h))
    enters_call (suc n) zero w h = refl
    enters_call (suc n) (suc k) w h = refl

    pub same_end : (w : StateOf m) → end_of m P true cs old.fuel w ≡ end_of m P false (record { top = called; waits = caller ∷ cs.waits }) old.fuel w
    same_end w =
        let call = calls m P cs.top.depth in
        let rest = steps.rest_of B (mode_of m P) (waiting_of cs.top.result cs.waits) in
        let go : Values → List Held → Coded (CauseOf m) (StateOf m) =
        λ vs ops. then_coded (call f vs old.fuel w) (λ v k w. exec B (mode_of m P) call next.rest 0 (tie cs.top.local_types cs.top.locals) (held (code_at B f).result v ∷ ops) k w) in
        ap (λ is. then_coded (exec B (mode_of m P) call is 0 (tie cs.top.local_types cs.top.locals) (tie cs.top.operand_types cs.top.operands) old.fuel w) rest) next.is
        ∙ ap (λ os. then_coded (popped (length (code_at B f).parameters) (tie os cs.top.operands) NoV go) rest) found.1
        ∙ ap (λ ops. then_coded (popped (length (code_at B f).parameters) ops NoV go) rest) split.tied
        ∙ ap (λ c. then_coded c rest) (popped_args (kind_of m P) P.types nodes args (code_at B f).parameters split.vs split.args_stand (tie found.0 split.below) go)
        ∙ then_twice (CauseOf m) (StateOf m) (call f split.vs old.fuel w) _ rest
        ∙ ap (λ c. then_coded c (steps.rest_of B (mode_of m P) (waiting_of (code_at B f).result (caller ∷ cs.waits)))) (enters_call cs.top.depth old.fuel w deep_here)

  module _ (args kept : List Operand) (long : length args ≡ length (code_at B f).parameters) (begins : Begins old f args kept new) where
    abbrev here : Pushed (kind_of m P) P.types nodes (code_at B f).parameters found.0 args (reverse kept) cs.top.operands
    here = split args kept long begins.operands

    abbrev runs : ValueFrame
    runs = called args kept long begins.operands

    abbrev waits : ValueFrame
    waits = caller args kept long begins.operands

    abbrev waits_at : IsAt old.top (old.top.place + 1) old.top.locals.items kept (frame_in begins.caller new.top.locals.below new.top.operands.below)
    waits_at = begins.waits.is

    behind : next.rest ≡ drop begins.caller.place (code_at B begins.caller.function.0).code
    behind =
        ap (drop 1) (sym next.is ∙ shows.top.is.left) ∙ drop_more (code_at B old.top.function.0).code old.top.place 1
        ∙ ap (λ p. drop p (code_at B old.top.function.0).code) (sym waits_at.place) ∙ ap (λ f. drop begins.caller.place (code_at B f.0).code) (sym waits_at.function)

    pub call_leads : GoesTo m P z nodes true old.fuel cs new
    call_leads = (
      record { top = runs; waits = waits ∷ cs.waits },
      record {
        top = record {
          is = record {
            there = omega (arith, found.3, begins.function);
            result = ap (λ f. (code_at B f).result) (sym begins.function);
            left = ap (λ p. drop p (code_at B f).code) (sym begins.place) ∙ ap (λ f. drop new.top.place (code_at B f).code) (sym begins.function);
            fine = (accepted args kept long begins.operands).1;
            locals = subst (λ l. AllHeld (kind_of m P) P.types nodes l (code_at B f).parameters here.vs) (sym begins.locals) here.args_stand;
            operands = subst (λ l. AllHeld (kind_of m P) P.types nodes (reverse l) [] NoV) (sym begins.no_operands) tt;
          };
          starts = (accepted args kept long begins.operands).2;
        };
        waits = subst (λ l. AreWaiting m P nodes z (code_at B f).result new.top.locals.below new.top.operands.below l (waits ∷ cs.waits)) (sym (ap reverse begins.waiting ∙ reverse-append old.waiting.items (begins.caller ∷ []))) (
          record {
            local_base = begins.waits.local_base;
            operand_base = begins.waits.operand_base;
            is = record {
              there = subst (λ f. f.0 < length (generated P).functions) (sym waits_at.function) shows.top.is.there;
              result = shows.top.is.result ∙ ap (λ f. (code_at B f.0).result) (sym waits_at.function);
              left = behind;
              fine = fine_rest B cs.top.result (Call f) next.rest cs.top.shapes fine_here;
              locals = subst (λ l. AllHeld (kind_of m P) P.types nodes l cs.top.local_types cs.top.locals) (sym waits_at.locals) shows.top.is.locals;
              operands = subst (λ l. AllHeld (kind_of m P) P.types nodes (reverse l) found.0 here.below) (sym waits_at.operands) here.rest_stand;
            };
            starts = found.2;
          },
          waits_under m P nodes nodes (λ kind types r t v h. h) z cs.top.result old.top (frame_in begins.caller new.top.locals.below new.top.operands.below) waits_at.over
              (reverse old.waiting.items) cs.waits shows.waits,
        );
        deep = subst (λ b. IsDeep b new.fuel runs) (sym begins.entered) (subst (λ k. k ≤ suc (pred cs.top.depth)) (sym begins.fuel) (deep_called args kept long begins.operands));
        deep_below = subst (λ k. AreDeep k (waits ∷ cs.waits)) (sym begins.fuel) (deep_here args kept long begins.operands, shows.deep_below);
      },
      λ w. same_end args kept long begins.operands w ∙ ap₂ (λ b k. end_of m P b (record { top = runs; waits = waits ∷ cs.waits }) k w) (sym begins.entered) (sym begins.fuel),
      subst (λ b. stack_steps P b new.fuel (record { top = runs; waits = waits ∷ cs.waits }) < stack_steps P true old.fuel cs) (sym begins.entered)
          (subst (λ k. stack_steps P false k (record { top = runs; waits = waits ∷ cs.waits }) < stack_steps P true old.fuel cs) (sym begins.fuel) (let l = ap length next.is in
          omega (arith, l))),
    )
