use Rattle.std.proofs.Common.{ap, ◌∙◌, subst}
use Rattle.core_terms.specs.Programs.{meaning}
use Rattle.mode_vm.specs.IdealRuns.{IsOutcome}
use Rattle.value_store.specs.Stores.{nodes_in}
use Rattle.command_parts.specs.OutcomeAnswers.{outcome_told}
use Rattle.command_parts.specs.RoleCalls.{result_called}
use Rattle.command_parts.specs.RolesCalled.{prover_nodes, role_of}
use Rattle.command_parts.proofs.RoleReports.{done_told, stands_as_told}
use Rattle.command_parts.proofs.role_outcomes.role_report.Goals as goal

pub value_line-requires : goal.value_line-requires
value_line-requires c =
    let p = c.args.program.now in
    let ended = c.args.ended.now in
    let ends = c.requires.1.1 in
    let told = subst (λ out. IsOutcome (prover_nodes p) (meaning p).types (nodes_in ended.store) (result_called (role_of p ended.called)) out c.requires.1.0) c.in-Done.is ends.outcome in
    (told.0, stands_as_told c.requires.0 p ended.called ends.called (nodes_in ended.store) c.in-Done.value.0 told.0 told.1)

pub returns-in_ok-text-in-Done-clause-tells : goal.returns-in_ok-text-in-Done-clause-tells
returns-in_ok-text-in-Done-clause-tells c = λ callee o ends.
    let p = c.args.program.now in
    let ended = c.args.ended.now in
    let told = subst (λ out. IsOutcome (prover_nodes p) (meaning p).types (nodes_in ended.store) (result_called (role_of p ended.called)) out o) c.in-Done.is ends.outcome in
    let stands = stands_as_told callee p ended.called ends.called (nodes_in ended.store) c.in-Done.value.0 told.0 told.1 in
    ap (outcome_told (role_of p ended.called)) told.2 ∙ done_told callee p ended.called ends.called told.0 _ (c.in_ok-text-in-Done.ensures told.0 stands)
