use Rattle.std.proofs.Common.{ap, subst}
use Rattle.core_terms.specs.Programs.{meaning}
use Rattle.core_terms.specs.RoleViews.{role_kind_of}
use Rattle.mode_vm.specs.IdealRuns.{IsOutcome}
use Rattle.value_store.specs.Stores.{nodes_in}
use Rattle.command_parts.specs.RoleCalls.{result_called}
use Rattle.command_parts.specs.RolesCalled.{prover_nodes, role_of}
use Rattle.command_parts.proofs.RoleReports.{update_made}
use Rattle.command_parts.proofs.role_outcomes.state_made.Goals as goal

pub returns-in-Update : goal.returns-in-Update
returns-in-Update c = λ p callee o makes ends.
    let ended = c.args.ended.now in
    let nodes = nodes_in ended.store in
    let told = subst (λ out. IsOutcome (prover_nodes p) (meaning p).types nodes (result_called (role_of p ended.called)) out o) c.in-Done.is ends.outcome in (
      told.0,
      told.2,
      update_made callee p ended.called ends.called nodes c.in-Done.value.0 c.first_component.result.0 told.0 (ap role_kind_of c.in-Update.is)
          (λ x y h. c.first_component.ensures (prover_nodes p) (meaning p).types (meaning p).state ends.called.answer x y h) told.1,
    )
