-- A machine that was started will come to what the definitions' call comes to.
use Rattle.std.proofs.Common.{◌≡◌, ℕ, zero, suc, pred, ◌+◌, ◌*◌, ◌<◌, ◌≤◌, List, [], ◌∷◌, length, drop, reverse, Some, slice_get, ◌^◌, refl, sym, ap, ap₂, ◌∙◌, subst, arith}
use Rattle.std.proofs.Math.Nat.{mul-le-mul}
use Rattle.core_terms.specs.Types.{Ty}
use Rattle.core_terms.specs.Values.{Values, NoV, AndV, AreIdeal, AreShallow}
use Rattle.core_terms.specs.Terms.{Program, function_at}
use Rattle.core_terms.specs.TypingRules.{IsTyped}
use Rattle.core_terms.specs.Projection.{digest_at}
use Rattle.ideal_meaning.specs.Run.{Gives, Ends}
use Rattle.ideal_meaning.specs.Called.{call_from}
use Rattle.ideal_meaning.specs.Ideal.{Opened, ideal_mode}
use Rattle.ideal_meaning.specs.PieceForms.{as_whole}
use Rattle.ideal_meaning.specs.Checked.{Cause, Taking, checked_mode, checked_mode_as}
use Rattle.core_terms.specs.Bodies.{Body, code_at}
use Rattle.core_terms.specs.GeneratedCode.{generated}
use Rattle.ideal_meaning.specs.Execution.{Coded, Ran, Stuck, then_coded, call_code_from}
use Rattle.core_terms.specs.Accepted.{IsFine}
use Rattle.core_terms.specs.CodeShapes.{Shape, shape}
use Rattle.ideal_meaning.specs.ModeKinds.{ideal_kind, digest_kind}
use Rattle.code_meaning.proofs.CodeRight.{right, signature_found, functions_found, generated_accepted}
use Rattle.ideal_meaning.proofs.ModeLaws.{ideal_laws, checked_laws, fetched_laws, ideals_are, shallows_are}
use Rattle.value_store.specs.Nodes.{Node}
use Rattle.value_store.specs.Standing.{IdealNodes, ProverNodes, VerifierNodes, AllStandFor}
use Rattle.value_store.specs.Markings.{Marking, IdealMarking, ProverMarking, VerifierMarking, FetcherMarking, kind_of}
use Rattle.value_store.specs.CodeNodes.{numbers_of}
use Rattle.value_store.specs.declared.node.Ref.{Ref}
use Rattle.value_store.proofs.TypedNodes.{ideal_refers, ideal_stands, prover_refers, shallow_stands}
use Rattle.mode_vm.specs.Operands.{AllHeld}
use Rattle.mode_vm.proofs.Switching.{nodes_held}
use Rattle.mode_vm.specs.Meanings.{CauseOf, StateOf, mode_of, program_of}
use Rattle.code_gen.specs.declared.code.Code.{Code}
use Rattle.code_gen.proofs.CodeSizes.{code_has_a_limit}
use Rattle.code_gen.specs.CodeSizes.{code_size}
use Rattle.mode_vm.specs.Machines.{ValueFrame, ValueStack, enters, end_of, AreWaiting, IsDeep, Represents, frame_left, frames_left, left_if, steps_left, OpensFew}
use Rattle.mode_vm.specs.Runs.{Ready, WillRun}
use Rattle.mode_vm.specs.StateParts.{Starts}
use Rattle.mode_vm.specs.declared.state.State.{State}

module _ (P : Program) (nodes : List Node) where
  all_ideal : (rs : List ℕ) (ts : List Ty) (vs : Values) → AllStandFor IdealNodes P.types nodes rs ts vs → AreIdeal P.types ts vs
  all_ideal [] [] NoV h = tt
  all_ideal (r ∷ rs) (t ∷ ts) (AndV v vs) h = (ideal_stands IdealNodes P.types (ideal_refers P.types) nodes t v r h.0, all_ideal rs ts vs h.1)
  all_ideal [] [] (AndV v vs) h = elim h [ ]
  all_ideal [] (t ∷ ts) vs h = elim h [ ]
  all_ideal (r ∷ rs) [] vs h = elim h [ ]
  all_ideal (r ∷ rs) (t ∷ ts) NoV h = elim h [ ]

  all_ideal_too : (digest : Ty → List ℕ → List ℕ) (rs : List ℕ) (ts : List Ty) (vs : Values) → AllStandFor (ProverNodes digest) P.types nodes rs ts vs → AreIdeal P.types ts vs
  all_ideal_too digest [] [] NoV h = tt
  all_ideal_too digest (r ∷ rs) (t ∷ ts) (AndV v vs) h = (ideal_stands (ProverNodes digest) P.types (prover_refers digest P.types) nodes t v r h.0, all_ideal_too digest rs ts vs h.1)
  all_ideal_too digest [] [] (AndV v vs) h = elim h [ ]
  all_ideal_too digest [] (t ∷ ts) vs h = elim h [ ]
  all_ideal_too digest (r ∷ rs) [] vs h = elim h [ ]
  all_ideal_too digest (r ∷ rs) (t ∷ ts) NoV h = elim h [ ]

  all_shallow : (rs : List ℕ) (ts : List Ty) (vs : Values) → AllStandFor VerifierNodes P.types nodes rs ts vs → AreShallow P.types ts vs
  all_shallow [] [] NoV h = tt
  all_shallow (r ∷ rs) (t ∷ ts) (AndV v vs) h = (shallow_stands P.types nodes t v r h.0, all_shallow rs ts vs h.1)
  all_shallow [] [] (AndV v vs) h = elim h [ ]
  all_shallow [] (t ∷ ts) vs h = elim h [ ]
  all_shallow (r ∷ rs) [] vs h = elim h [ ]
  all_shallow (r ∷ rs) (t ∷ ts) NoV h = elim h [ ]

  -- code is right in the mode of each marking
  code_is_right : IsTyped P → (m : Marking) (f : ℕ) (rs : List ℕ) (vs : Values) → AllStandFor (kind_of m P) P.types nodes rs (function_at P f).parameters vs → (k : ℕ) (w : StateOf m)
      → call_code_from (generated P) (mode_of m P) f vs k w ≡ Ran (call_from P (mode_of m P) f vs k w)
  code_is_right typed IdealMarking f rs vs h k w =
      right ⊥ (List Opened) P typed ideal_mode (ideal_kind P.types) (ideal_laws P.types) f vs k w (ideals_are P.types (function_at P f).parameters vs (all_ideal rs (function_at P f).parameters vs h))
  code_is_right typed (ProverMarking hash) f rs vs h k w =
      right ⊥ (List Opened) P typed ideal_mode (ideal_kind P.types) (ideal_laws P.types) f vs k w
      (ideals_are P.types (function_at P f).parameters vs (all_ideal_too (digest_at hash P) rs (function_at P f).parameters vs h))
  code_is_right typed (VerifierMarking hash) f rs vs h k w =
      right Cause Taking P typed (checked_mode hash P) digest_kind (checked_laws hash P) f vs k w
      (shallows_are P.types (function_at P f).parameters vs (all_shallow rs (function_at P f).parameters vs h))
  code_is_right typed (FetcherMarking hash) f rs vs h k w =
      right Cause Taking P typed (checked_mode_as hash P (as_whole hash P)) digest_kind (fetched_laws hash P) f vs k w
      (shallows_are P.types (function_at P f).parameters vs (all_shallow rs (function_at P f).parameters vs h))

module _ (m : Marking) (P : Program) (typed : IsTyped P) (f : ℕ) (there : f < length P.functions) (args : List Ref) (k : ℕ) (state : State) (starts : Starts f args k state)
    (nodes : List Node) (vs : Values)
    (stand : AllStandFor (kind_of m P) P.types nodes (numbers_of args) (function_at P f).parameters vs) where
  abbrev B : Body
  B = generated P

  abbrev accepted : (shapes : List Shape) × IsFine B (code_at B f).result (code_at B f).code shapes × (slice_get shapes 0 ≡ Some (shape (code_at B f).parameters []))
  accepted = generated_accepted P typed f

  abbrev values : ℕ → ValueFrame
  values k = record {
    depth = pred k;
    left = (code_at B f).code;
    shapes = accepted.0;
    result = (code_at B f).result;
    local_types = (code_at B f).parameters;
    locals = vs;
    operand_types = [];
    operands = NoV;
  }

  abbrev started : ValueStack
  started = record { top = values k; waits = [] }

  parameters_same : (function_at P f).parameters ≡ (code_at B f).parameters
  parameters_same = sym (signature_found P typed f).0

  deep : (k : ℕ) → k ≤ suc (pred k)
  deep zero = omega arith
  deep (suc k) = omega arith

  shown : Represents m P (function_at P f).result nodes state started
  shown = record {
    top = record {
      is = record {
        there = subst (λ f. f < length (generated P).functions) (sym starts.function) (subst (λ n. f < n) (sym (functions_found P typed)) there);
        result = ap (λ f. (code_at B f).result) (sym starts.function);
        left = ap (λ p. drop p (code_at B f).code) (sym starts.place) ∙ ap (λ f. drop state.top.place (code_at B f).code) (sym starts.function);
        fine = accepted.1;
        locals = subst (λ l. AllHeld (kind_of m P) P.types nodes l (code_at B f).parameters vs) (sym starts.locals)
            (nodes_held (kind_of m P) P.types nodes args (code_at B f).parameters vs (subst (λ ts. AllStandFor (kind_of m P) P.types nodes (numbers_of args) ts vs) parameters_same stand));
        operands = subst (λ l. AllHeld (kind_of m P) P.types nodes (reverse l) [] NoV) (sym starts.no_operands) tt;
      };
      starts = accepted.2;
    };
    waits = subst (λ l. AreWaiting m P nodes (function_at P f).result (code_at B f).result state.top.locals.below state.top.operands.below (reverse l) []) (sym starts.nothing_waits) (signature_found P typed f).1;
    deep = subst (λ b. IsDeep b state.fuel (values k)) (sym starts.entered) (subst (λ n. n ≤ suc (pred k)) (sym starts.fuel) (deep k));
    deep_below = tt;
  }

  pub is_ready : Ready m P (function_at P f).result nodes state
  is_ready = (started, shown)

  enters_call : (k : ℕ) (w : StateOf m) → call_code_from B (mode_of m P) f vs k w ≡ enters m P (values k) k w
  enters_call zero w = refl
  enters_call (suc k) w = refl

  ends_there : (c : Coded (CauseOf m) (StateOf m)) → then_coded c (λ v k w. Ran (Gives v k w)) ≡ c
  ends_there (Ran (Gives v k w)) = refl
  ends_there (Ran (Ends stop k w)) = refl
  ends_there Stuck = refl

  pub will_call : (w : StateOf m) → WillRun m P (function_at P f).result nodes state w (call_from P (mode_of m P) f vs k w)
  will_call w = record {
    stack = started;
    shows = shown;
    ends = ap₂ (λ b n. end_of m P b started n w) starts.entered starts.fuel
        ∙ ends_there (enters m P (values k) k w) ∙ sym (enters_call k w) ∙ code_is_right P nodes typed m f (numbers_of args) vs stand k w;
  }

starts_steps : (P : Program) (f : ℕ) (args : List Ref) (k : ℕ) (state : State) → Starts f args k state → steps_left P state ≡ k * (code_size (generated P).functions + 1)
starts_steps P f args k state starts =
    let size = code_size (generated P).functions in
    let none : k * (size + 1) + (0 + 0) ≡ k * (size + 1) = omega arith in
    ap₂ (λ b l. state.fuel * (size + 1) + (left_if b (frame_left P state.top) + frames_left P (reverse l))) starts.entered starts.nothing_waits
    ∙ ap (λ n. n * (size + 1) + (0 + 0)) starts.fuel ∙ none

-- 10^12 calls, of at most 4,194,304 instructions each, open fewer than 2^62 values
pub starts_few : (code : Code) (f : ℕ) (args : List Ref) (k : ℕ) (state : State) → Starts f args k state → k ≤ 10 ^ 12 → (opened : ℕ) → opened ≤ 2 ^ 62
    → OpensFew opened (program_of code) state
starts_few code f args k state starts most opened before =
    let size = code_size (generated (program_of code)).functions in
    let short = code_has_a_limit code in
    let steps = starts_steps (program_of code) f args k state starts in
    let calls : k * (size + 1) ≤ 10 ^ 12 * 4194305 = mul-le-mul {n₁ = k} {m₁ = size + 1} {n₂ = 10 ^ 12} {m₂ = 4194305} most (omega (arith, short)) in
    omega (arith, steps, calls, before)
