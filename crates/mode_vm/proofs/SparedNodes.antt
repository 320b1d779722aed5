-- Steps that put no node.
use Rattle.std.proofs.Common.{◌≡◌, List, length, Result, Ok, Err, ap, subst, arith}
use Rattle.core_terms.specs.declared.outcome.Outcome.{Outcome}
use Rattle.core_terms.specs.declared.outcome.Outcome.TheVariants.{Done, Trapped, Out}
use Rattle.value_store.specs.Nodes.{Node}
use Rattle.value_store.specs.declared.node.Ref.{Ref}
use Rattle.mode_vm.specs.NodesPut.{OutcomePuts, StepPuts}
use Rattle.mode_vm.specs.declared.state.Step.{Step}
use Rattle.mode_vm.specs.declared.state.Step.TheVariants.{Paused, Ended}

-- where the nodes are the same, none was put
pub same_puts : (E : Type 0) (old new : List Node) → new ≡ old → (result : Result Step E) → StepPuts old new result
same_puts E old new same (Ok Paused) = same
same_puts E old new same (Ok (Ended (Done r))) = let e = ap length same in omega (arith, e)
same_puts E old new same (Ok (Ended (Trapped trap))) = same
same_puts E old new same (Ok (Ended Out)) = same
same_puts E old new same (Err e) = same

-- a step by what it is
module _ (E : Type 0) (old new : List Node) (step : Step) (puts : StepPuts {E = E} old new (Ok step)) where
  pub puts_goes : step ≡ Paused → new ≡ old
  puts_goes e = subst (λ s. StepPuts {E = E} old new (Ok s)) e puts

  pub puts_ended : (outcome : Outcome Ref) → step ≡ Ended outcome → OutcomePuts old new outcome
  puts_ended outcome e = subst (λ s. StepPuts {E = E} old new (Ok s)) e puts

-- what was put since the same nodes stood
pub outcome_from : (old middle new : List Node) → middle ≡ old → (outcome : Outcome Ref) → OutcomePuts middle new outcome → OutcomePuts old new outcome
outcome_from old middle new same outcome puts = subst (λ l. OutcomePuts l new outcome) same puts
