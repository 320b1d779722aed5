-- What a step leads to, as what the machine will come to.
use Rattle.std.specs.Prelude.{OnOk}
use Rattle.std.proofs.Common.{◌≡◌, ℕ, ◌<◌, Bool, List, Option, Result, Ok, Err, sym, ap, ◌∙◌, subst, arith}
use Rattle.core_terms.specs.Types.{Ty}
use Rattle.core_terms.specs.Terms.{Program}
use Rattle.core_terms.specs.declared.outcome.Outcome.{Outcome}
use Rattle.core_terms.specs.declared.outcome.Outcome.TheVariants.{Done, Trapped, Out}
use Rattle.ideal_meaning.specs.Run.{Gives, Ends, Traps, IsOut}
use Rattle.ideal_meaning.specs.Told.{trap_told}
use Rattle.ideal_meaning.specs.Execution.{Ran}
use Rattle.value_store.specs.Nodes.{Node}
use Rattle.value_store.specs.Markings.{Marking}
use Rattle.mode_vm.specs.Meanings.{CauseOf, StateOf, RunOf}
use Rattle.mode_vm.specs.Machines.{ValueStack, Represents, end_of, stack_steps, steps_left}
use Rattle.mode_vm.specs.Outcomes.{Leads}
use Rattle.mode_vm.specs.Runs.{Ready, WillRun, OnGoes, OutcomeIs, OutcomeStands, StepIs, StepStands}
use Rattle.value_store.specs.declared.node.Ref.{Ref}
use Rattle.mode_vm.specs.declared.mode.Stop.{Stop}
use Rattle.mode_vm.specs.declared.mode.Stop.TheVariants.{Mode as ModeStops, NoMemory}
use Rattle.mode_vm.specs.declared.state.State.{State}
use Rattle.mode_vm.specs.declared.state.Step.{Step}
use Rattle.mode_vm.specs.declared.state.Step.TheVariants.{Paused, Ended}
use Rattle.mode_vm.proofs.Opens.{ran_is}
use Rattle.mode_vm.proofs.Entering.{steps_same}

module _ (m : Marking) (P : Program) (z : Ty) (nodes : List Node) (entered : Bool) (k : ℕ) (cs : ValueStack) (new : State) where
  pub leads_stands : (E : Type 0) (step : Step) → Leads m P z nodes {E = E} entered k cs new (Ok step) → StepStands m P z {E = E} nodes new (Ok step)
  leads_stands E Paused h = (h.0, h.1)
  leads_stands E (Ended (Done r)) h = (h.0.0, h.0.1)
  leads_stands E (Ended (Trapped trap)) h = tt
  leads_stands E (Ended Out) h = tt

  module _ {F : Type 0} (cause : F → Option (CauseOf m)) (New : StateOf m → Type 0) (w : StateOf m) (follows : New w) (run : RunOf m) (ends : end_of m P entered cs k w ≡ Ran run) where
    pub leads_is : (E : Type 0) (step : Step) → Leads m P z nodes {E = E} entered k cs new (Ok step) → StepIs m P z cause New nodes new (Ok step) run
    leads_is E Paused h = (w, follows, record { stack = h.0; shows = h.1; ends = sym (h.2 w) ∙ ends })
    leads_is E (Ended (Done r)) h = (h.0.0, w, follows, h.0.1, ran_is _ run _ ends (h.0.2 w) ∙ ap (λ k. Gives h.0.0 k w) (sym h.1))
    leads_is E (Ended (Trapped trap)) h = (w, follows, ran_is _ run _ ends (h.0 w) ∙ ap (λ k. Ends (Traps (trap_told trap)) k w) (sym h.1))
    leads_is E (Ended Out) h = (w, follows, ran_is _ run _ ends (h.0 w) ∙ ap (λ k. Ends IsOut k w) (sym h.1))

-- a step, by what it is
module _ (m : Marking) (P : Program) (z : Ty) (nodes : List Node) (new : State) (step : Step) where
  pub stands_ended : (E : Type 0) (outcome : Outcome Ref) → step ≡ Ended outcome → StepStands m P z {E = E} nodes new (Ok step) → OutcomeStands m P z nodes outcome
  stands_ended E outcome e h = subst (λ s. StepStands m P z {E = E} nodes new (Ok s)) e h

  pub stands_goes : (E : Type 0) → step ≡ Paused → StepStands m P z {E = E} nodes new (Ok step) → Ready m P z nodes new
  stands_goes E e h = subst (λ s. StepStands m P z {E = E} nodes new (Ok s)) e h

  module _ {F : Type 0} (cause : F → Option (CauseOf m)) (New : StateOf m → Type 0) (run : RunOf m) where
    pub is_ended : (outcome : Outcome Ref) → step ≡ Ended outcome → StepIs m P z cause New nodes new (Ok step) run → OutcomeIs m P z cause New nodes new.fuel outcome run
    is_ended outcome e h = subst (λ s. StepIs m P z cause New nodes new (Ok s) run) e h

    pub is_goes : step ≡ Paused → StepIs m P z cause New nodes new (Ok step) run → (w : StateOf m) × New w × WillRun m P z nodes new w run
    is_goes e h = subst (λ s. StepIs m P z cause New nodes new (Ok s) run) e h

-- what is known of the state of the mode behind a step
module _ (m : Marking) (P : Program) (z : Ty) (nodes : List Node) (new : State) {F : Type 0} (cause : F → Option (CauseOf m)) (New New' : StateOf m → Type 0)
    (on : (w : StateOf m) → New w → New' w) (run : RunOf m) where
  pub step_by : (result : Result Step (Stop F)) → StepIs m P z cause New nodes new result run → StepIs m P z cause New' nodes new result run
  step_by (Ok Paused) h = (h.0, on h.0 h.1, h.2)
  step_by (Ok (Ended (Done r))) h = (h.0, h.1, on h.1 h.2, h.3, h.4)
  step_by (Ok (Ended (Trapped trap))) h = (h.0, on h.0 h.1, h.2)
  step_by (Ok (Ended Out)) h = (h.0, on h.0 h.1, h.2)
  step_by (Err (ModeStops f)) h = h
  step_by (Err NoMemory) h = h

-- fewer steps are left
pub fewer_left : (E : Type 0) (m : Marking) (P : Program) (z : Ty) (nodes new_nodes : List Node) (before after : State) (cs : ValueStack) → Represents m P z nodes before cs
    → (entered : Bool) → before.entered ≡ entered → (step : Step) → Leads m P z new_nodes {E = E} entered before.fuel cs after (Ok step)
    → (F : Type 0) → OnGoes {E = F} (Ok step) (steps_left P after < steps_left P before)
fewer_left E m P z nodes new_nodes before after cs shows entered is Paused h F =
    let a = steps_same m P z new_nodes after h.0 h.1 in
    let b = steps_same m P z nodes before cs shows ∙ ap (λ e. stack_steps P e before.fuel cs) is in
    let l = h.3 in
    omega (arith, a, b, l)
fewer_left E m P z nodes new_nodes before after cs shows entered is (Ended outcome) h F = tt

pub goes_fewer : (step : Step) (A E : Type 0) → step ≡ Paused → OnGoes {E = E} (Ok step) A → A
goes_fewer step A E e h = subst (λ s. OnGoes {E = E} (Ok s) A) e h

-- what holds in each case holds where there is a result
pub on_ok : {A E B : Type 0} (result : Result A E) → B → OnOk result B
on_ok (Ok a) h = h
on_ok (Err e) h = tt
