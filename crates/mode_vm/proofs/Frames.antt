-- A frame goes on behind an instruction.
use Rattle.std.proofs.Common.{◌≡◌, ℕ, zero, suc, ◌+◌, ◌<◌, ◌≤◌, List, [], ◌∷◌, ◌++◌, drop, reverse, length, Some, slice_get, refl, sym, ap, ◌∙◌, subst, arith}
use Rattle.std.proofs.lemmas.List.{reverse-append}
use Rattle.core_terms.specs.Types.{Ty, UnitTy, BoolTy, IntTy}
use Rattle.core_terms.specs.Values.{Value, UnitV, BoolV, IntV, Values, NoV, AndV}
use Rattle.core_terms.specs.Terms.{Program}
use Rattle.core_terms.specs.Instructions.{Instruction}
use Rattle.core_terms.specs.Bodies.{Body, code_at}
use Rattle.core_terms.specs.GeneratedCode.{generated}
use Rattle.ideal_meaning.specs.Execution.{Coded, tie, act, exec, call_code, Next}
use Rattle.core_terms.specs.Accepted.{Fits, IsFine}
use Rattle.core_terms.specs.CodeShapes.{Shape, shape}
use Rattle.code_meaning.proofs.Loop.{jump}
use Rattle.value_store.specs.Nodes.{Node}
use Rattle.value_store.specs.Standing.{Kind, Keeps}
use Rattle.value_store.specs.Markings.{Marking, kind_of}
use Rattle.mode_vm.specs.Operands.{AllHeld, IsHeld}
use Rattle.mode_vm.specs.declared.operand.Operand.{Operand}
use Rattle.mode_vm.specs.declared.operand.Operand.TheVariants.{Unit as UnitIn, Bool as BoolIn, Int as IntIn, At}
use Rattle.mode_vm.specs.Meanings.{CauseOf, StateOf, mode_of}
use Rattle.mode_vm.specs.Machines.{ValueFrame, runs_on, IsTop, Before}
use Rattle.mode_vm.specs.Outcomes.{FrameGoesOn}
use Rattle.mode_vm.specs.StateParts.{IsAt}
use Rattle.mode_vm.specs.declared.frame.Frame.{Frame}

pub drop_more : {A : Type 0} (xs : List A) (n m : ℕ) → drop m (drop n xs) ≡ drop (n + m) xs
drop_more xs zero m = let e : 0 + m ≡ m = omega arith in ap (λ k. drop k xs) (sym e)
drop_more [] (suc n) zero = let e : suc n + 0 ≡ suc n = omega arith in ap (λ k. drop k []) (sym e)
drop_more [] (suc n) (suc m) = let e : suc n + suc m ≡ suc (n + suc m) = omega arith in ap (λ k. drop k []) (sym e)
drop_more (x ∷ xs) (suc n) m = let e : suc n + m ≡ suc (n + m) = omega arith in drop_more xs n m ∙ ap (λ k. drop k (x ∷ xs)) (sym e)

dropped_head : {A : Type 0} (xs : List A) (n : ℕ) → slice_get (drop n xs) 0 ≡ slice_get xs n
dropped_head xs zero = refl
dropped_head [] (suc n) = refl
dropped_head (x ∷ xs) (suc n) = dropped_head xs n

drop_shorter : {A : Type 0} (xs : List A) (n : ℕ) → length (drop n xs) ≤ length xs
drop_shorter xs zero = omega arith
drop_shorter [] (suc n) = omega arith
drop_shorter (x ∷ xs) (suc n) = let h = drop_shorter xs n in omega (arith, h)

pub shorter_behind : (i : Instruction) (rest : List Instruction) (skip : ℕ) (left : List Instruction) → left ≡ i ∷ rest → length (drop skip rest) < length left
shorter_behind i rest skip left e = let h = drop_shorter rest skip in let l = ap length e in omega (arith, h, l)

module _ (B : Body) (z : Ty) where
  -- the first of the shapes is that before the first instruction
  abbrev pub ToNext : List Shape → ℕ → List Ty → List Ty → Type 0
  ToNext shapes n ls os = slice_get (drop 1 shapes) n ≡ Some (shape ls os)

  pub fits_first : (i : Instruction) (is : List Instruction) (shapes : List Shape) (ls os : List Ty) → IsFine B z (i ∷ is) shapes → slice_get shapes 0 ≡ Some (shape ls os)
      → Fits B z i ls os (ToNext shapes)
  fits_first i is [] ls os h e = elim h [ ]
  fits_first i is (s ∷ shapes) ls os h e =
      let same : s ≡ shape ls os = cc in
      subst (λ s. Fits B z i s.locals s.operands (ToNext (s ∷ shapes))) same h.0

  pub fine_rest : (i : Instruction) (is : List Instruction) (shapes : List Shape) → IsFine B z (i ∷ is) shapes → IsFine B z is (drop 1 shapes)
  fine_rest i is [] h = elim h [ ]
  fine_rest i is (s ∷ shapes) h = h.1

  fine_drop : (n : ℕ) (is : List Instruction) (shapes : List Shape) → IsFine B z is shapes → IsFine B z (drop n is) (drop n shapes)
  fine_drop zero is shapes h = h
  fine_drop (suc n) [] [] h = h
  fine_drop (suc n) [] (s ∷ shapes) h = elim h [ ]
  fine_drop (suc n) (i ∷ is) [] h = elim h [ ]
  fine_drop (suc n) (i ∷ is) (s ∷ shapes) h = fine_drop n is shapes h.1

module _ (m : Marking) (P : Program) where
  abbrev pub calls : ℕ → ℕ → Values → ℕ → StateOf m → Coded (CauseOf m) (StateOf m)
  calls depth = call_code (generated P) (mode_of m P) depth

  -- what the next instruction finds
  pub fits_next : (nodes : List Node) (frame : Frame) (i : Instruction) (c : ValueFrame) → Before m P nodes frame i c
      → Fits (generated P) c.result i c.local_types c.operand_types (ToNext (generated P) c.result c.shapes)
  fits_next nodes frame i c b =
      fits_first (generated P) c.result i b.next.rest c.shapes c.local_types c.operand_types
      (subst (λ is. IsFine (generated P) c.result is c.shapes) b.next.is b.top.is.fine) b.top.starts

  -- the frame behind its next instruction, `skip` instructions further
  abbrev pub moved : (c : ValueFrame) → List Instruction → (skip : ℕ) (ls os : List Ty) (vs us : Values) → ValueFrame
  moved c rest skip ls os vs us = record {
    depth = c.depth;
    left = drop skip rest;
    shapes = drop skip (drop 1 c.shapes);
    result = c.result;
    local_types = ls;
    locals = vs;
    operand_types = os;
    operands = us;
  }

  pub moved_top : (nodes new : List Node) (frame after : Frame) (i : Instruction) (c : ValueFrame) (b : Before m P nodes frame i c)
      (skip : ℕ) (has works_on : List Operand) (ls os : List Ty) (vs us : Values)
      → IsAt frame (frame.place + 1 + skip) has works_on after
      → ToNext (generated P) c.result c.shapes skip ls os
      → AllHeld (kind_of m P) P.types new has ls vs
      → AllHeld (kind_of m P) P.types new (reverse works_on) os us
      → IsTop m P new after (moved c b.next.rest skip ls os vs us)
  moved_top nodes new frame after i c b skip has works_on ls os vs us at to locals operands =
      let B = generated P in
      let rest = b.next.rest in
      let code = (code_at B frame.function.0).code in
      let behind : drop (frame.place + 1 + skip) code ≡ drop skip rest =
      sym (drop_more code (frame.place + 1) skip) ∙ ap (drop skip) (sym (drop_more code frame.place 1) ∙ ap (drop 1) (sym b.top.is.left ∙ b.next.is)) in
      record {
        is = record {
          there = subst (λ f. f.0 < length (generated P).functions) (sym at.function) b.top.is.there;
          result = b.top.is.result ∙ ap (λ f. (code_at B f.0).result) (sym at.function);
          left = sym behind ∙ ap (λ p. drop p code) (sym at.place) ∙ ap (λ f. drop after.place (code_at B f.0).code) (sym at.function);
          fine = fine_drop B c.result skip rest (drop 1 c.shapes) (fine_rest B c.result i rest c.shapes (subst (λ is. IsFine B c.result is c.shapes) b.next.is b.top.is.fine));
          locals = subst (λ l. AllHeld (kind_of m P) P.types new l ls vs) (sym at.locals) locals;
          operands = subst (λ l. AllHeld (kind_of m P) P.types new (reverse l) os us) (sym at.operands) operands;
        };
        starts = dropped_head (drop 1 c.shapes) skip ∙ to;
      }

  -- the frame goes on with these locals and operands, `skip` instructions further than the next one
  pub goes_on : (nodes new : List Node) (frame after : Frame) (i : Instruction) (c : ValueFrame) → Before m P nodes frame i c
      → (skip : ℕ) (has works_on : List Operand) (ls os : List Ty) (vs us : Values)
      → IsAt frame (frame.place + 1 + skip) has works_on after
      → ToNext (generated P) c.result c.shapes skip ls os
      → AllHeld (kind_of m P) P.types new has ls vs
      → AllHeld (kind_of m P) P.types new (reverse works_on) os us
      → ((next : Next (CauseOf m) (StateOf m)) (k : ℕ) (w : StateOf m)
      → act (generated P) (mode_of m P) (calls c.depth) i next (tie c.local_types c.locals) (tie c.operand_types c.operands) k w ≡ next skip (tie ls vs) (tie os us) k w)
      → FrameGoesOn m P new frame c after
  goes_on nodes new frame after i c b skip has works_on ls os vs us at to locals operands same = (
    moved c b.next.rest skip ls os vs us,
    moved_top nodes new frame after i c b skip has works_on ls os vs us at to locals operands,
    record { depth = refl; result = refl; shorter = shorter_behind i b.next.rest skip c.left b.next.is },
    λ k w.
        ap (λ is. exec (generated P) (mode_of m P) (calls c.depth) is 0 (tie c.local_types c.locals) (tie c.operand_types c.operands) k w) b.next.is
        ∙ same (exec (generated P) (mode_of m P) (calls c.depth) b.next.rest) k w
        ∙ jump (CauseOf m) (StateOf m) (generated P) (mode_of m P) c.depth skip b.next.rest (tie ls vs) (tie os us) k w,
    at.over,
  )

pub held_keeps : (kind : Kind) (types : List (List (List Ty))) (old new : List Node) → Keeps old new → (o : Operand) (t : Ty) (v : Value) → IsHeld kind types old o t v → IsHeld kind types new o t v
held_keeps kind types old new k (At r) t v h = k kind types r.0 t v h
held_keeps kind types old new k UnitIn UnitTy UnitV h = h
held_keeps kind types old new k (BoolIn b) BoolTy (BoolV c) h = h
held_keeps kind types old new k (IntIn z) IntTy (IntV y) h = h
held_keeps kind types old new k o t v h = elim h [ ]

pub all_keep : (kind : Kind) (types : List (List (List Ty))) (old new : List Node) → Keeps old new → (rs : List Operand) (ts : List Ty) (vs : Values) → AllHeld kind types old rs ts vs
    → AllHeld kind types new rs ts vs
all_keep kind types old new k [] [] NoV h = h
all_keep kind types old new k (r ∷ rs) (t ∷ ts) (AndV v vs) h = (held_keeps kind types old new k r t v h.0, all_keep kind types old new k rs ts vs h.1)
all_keep kind types old new k [] [] (AndV v vs) h = elim h [ ]
all_keep kind types old new k [] (t ∷ ts) vs h = elim h [ ]
all_keep kind types old new k (r ∷ rs) [] vs h = elim h [ ]
all_keep kind types old new k (r ∷ rs) (t ∷ ts) NoV h = elim h [ ]

pub reverse_push : (xs : List Operand) (r : Operand) → reverse (xs ++ r ∷ []) ≡ r ∷ reverse xs
reverse_push xs r = reverse-append xs (r ∷ [])

module _ (m : Marking) (P : Program) (nodes new : List Node) (keeps : Keeps nodes new) (frame after : Frame) (i : Instruction) (c : ValueFrame) (b : Before m P nodes frame i c) where
  -- the frame goes on with one operand on these
  pub pushes : (kept : List Operand) (r : Operand) (t : Ty) (v : Value) (os : List Ty) (us : Values)
      → IsAt frame (frame.place + 1) frame.locals.items (kept ++ r ∷ []) after
      → ToNext (generated P) c.result c.shapes 0 c.local_types (t ∷ os)
      → IsHeld (kind_of m P) P.types new r t v
      → AllHeld (kind_of m P) P.types nodes (reverse kept) os us
      → ((next : Next (CauseOf m) (StateOf m)) (k : ℕ) (w : StateOf m)
      → act (generated P) (mode_of m P) (calls m P c.depth) i next (tie c.local_types c.locals) (tie c.operand_types c.operands) k w ≡ next 0 (tie c.local_types c.locals)
      (tie (t ∷ os) (AndV v us)) k w)
      → FrameGoesOn m P new frame c after
  pushes kept r t v os us at to stands below same =
      let here : frame.place + 1 ≡ frame.place + 1 + 0 = omega arith in
      goes_on m P nodes new frame after i c b 0 frame.locals.items (kept ++ r ∷ []) c.local_types (t ∷ os) c.locals (AndV v us)
      (subst (λ p. IsAt frame p frame.locals.items (kept ++ r ∷ []) after) here at) to
      (all_keep (kind_of m P) P.types nodes new keeps _ _ _ b.top.is.locals)
      (subst (λ l. AllHeld (kind_of m P) P.types new l (t ∷ os) (AndV v us)) (sym (reverse_push kept r)) (stands, all_keep (kind_of m P) P.types nodes new keeps _ _ _ below))
      same

module _ (m : Marking) (P : Program) (nodes : List Node) (frame : Frame) (i : Instruction) (c : ValueFrame) (b : Before m P nodes frame i c) where
  -- the run of the frame is that of its next instruction
  pub runs_first : (k : ℕ) (w : StateOf m) → runs_on m P c k w ≡ act (generated P) (mode_of m P) (calls m P c.depth) i (exec (generated P) (mode_of m P) (calls m P c.depth) b.next.rest)
      (tie c.local_types c.locals) (tie c.operand_types c.operands) k w
  runs_first k w = ap (λ is. exec (generated P) (mode_of m P) (calls m P c.depth) is 0 (tie c.local_types c.locals) (tie c.operand_types c.operands) k w) b.next.is
