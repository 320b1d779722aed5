use Rattle.std.proofs.Common.{sym, subst}
use Rattle.core_terms.specs.Programs.{meaning, types_of}
use Rattle.core_terms.specs.RoleViews.{role_kind_of}
use Rattle.core_terms.specs.TypeTables.{type_at}
use Rattle.code_gen.specs.Programs.{program_in}
use Rattle.mode_vm.specs.IdealRuns.{IsOutcome}
use Rattle.value_store.specs.Markings.{HasLimit}
use Rattle.value_store.specs.Stores.{nodes_in}
use Rattle.command_parts.specs.IdealCalls.{values_called}
use Rattle.command_parts.specs.RoleCalls.{outcome_called, result_called}
use Rattle.command_parts.specs.RolesCalled.{prover_nodes, role_of}
use Rattle.command_parts.proofs.EndedRuns.{call_stands}
use Rattle.command_parts.proofs.RoleShapes.{function_there}
use Rattle.command_parts.proofs.machine_calls.run_call.Goals as goal

pub digesting_run-requires-clause-there : goal.digesting_run-requires-clause-there
digesting_run-requires-clause-there c = λ κs.
    let p = program_in c.args.code.now in
    let called = c.args.call.called in
    let is = c.requires.2.1.called in
    function_there (meaning p) called.function.0 (role_kind_of called.kind) (type_at (types_of p) called.argument) is.answer is.shape

pub digesting_run-requires-clause-stand : goal.digesting_run-requires-clause-stand
digesting_run-requires-clause-stand c = λ κs.
    (values_called c.requires.2.0, call_stands c.requires.0 (program_in c.args.code.now) c.args.call c.requires.2.0 c.requires.1 c.requires.2.1)

pub digesting_run-requires-clause-limit : goal.digesting_run-requires-clause-limit
digesting_run-requires-clause-limit c = λ κs. c.requires.2.1.limit

pub digesting_run-requires-clause-fuel_fits : goal.digesting_run-requires-clause-fuel_fits
digesting_run-requires-clause-fuel_fits c = λ κs. c.requires.2.1.called.fuel_fits

pub returns : goal.returns
unfolding outcome_called
returns c = λ callee call calls h.
    let p = program_in c.args.code.now in
    let r = role_of p c.args.call.called in (
      sym h.role,
      record {
        called = h.called;
        outcome = subst (λ r'. IsOutcome (prover_nodes p) (meaning p).types (nodes_in c.digesting_run.new.store) (result_called r) c.in_ok-outcome.outcome (outcome_called r' (values_called call))) h.role
            (c.in_ok-outcome.ensures.outcome (values_called call) (call_stands callee p c.args.call call calls h));
        limit = subst (HasLimit (meaning p)) (sym c.in_ok-outcome.ensures.lent) h.limit;
      },
    )
