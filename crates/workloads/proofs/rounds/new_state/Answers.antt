use Rattle.std.proofs.Common.{subst}
use Rattle.core_terms.specs.Types.{PairTy}
use Rattle.core_terms.specs.declared.outcome.Outcome.{Outcome}
use Rattle.mode_vm.specs.IdealRuns.{IsOutcome}
use Rattle.value_store.specs.declared.node.Ref.{Ref}
use Rattle.workloads.proofs.PutStates.{behind_put}
use Rattle.workloads.proofs.rounds.new_state.Goals as goal

pub returns-in-Done-clause-state : goal.returns-in-Done-clause-state
returns-in-Done-clause-state g c kind types a b o s ends stands =
    let nodes = g.N.Nodes.nodes c.args.store.now in
    behind_put kind types nodes c.in-Done.value c.first_component.result a b (c.first_component.ensures kind types a b) o s
    (subst (λ (ended : Outcome Ref). IsOutcome kind types nodes (PairTy a b) ended o) c.in-Done.is ends)
