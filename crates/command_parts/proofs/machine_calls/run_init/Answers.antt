use Rattle.std.proofs.Common.{Err, refl, sym, subst}
use Rattle.std.proofs.lemmas.Result.{err_from_is_err_and}
use Rattle.core_terms.specs.Programs.{meaning, types_of}
use Rattle.core_terms.specs.RoleViews.{role_kind_of}
use Rattle.core_terms.specs.TypeTables.{type_at}
use Rattle.core_terms.specs.Values.{AndV, NoV, Value}
use Rattle.core_terms.specs.declared.program.Program.{Program}
use Rattle.code_gen.specs.Programs.{program_in}
use Rattle.value_store.specs.Markings.{HasLimit}
use Rattle.value_store.specs.Standing.{StandsFor}
use Rattle.value_store.specs.declared.node.Ref.{Ref}
use Rattle.value_store.specs.Stores.{nodes_in, store_lent}
use Rattle.command_parts.specs.FileInputs.{with_literal}
use Rattle.command_parts.specs.Halting.{StepGivesFor, InHand}
use Rattle.command_parts.specs.ReadPrograms.{named_of}
use Rattle.command_parts.specs.RoleCalls.{ended_with, named_literal, outcome_called}
use Rattle.command_parts.specs.RolesCalled.{prover_nodes, role_of}
use Rattle.command_parts.specs.declared.roles.Callee.TheVariants.{Init}
use Rattle.command_parts.proofs.EndedRuns.{IsPut, init_halts, init_stands, passed_goes}
use Rattle.command_parts.proofs.RoleShapes.{function_there}
use Rattle.command_parts.proofs.machine_calls.run_init.Goals as goal

pub returns-in_err-argument : goal.returns-in_err-argument
returns-in_err-argument c =
    let err = err_from_is_err_and c.from_residual.result c.from_residual.ensures.1 in
    let text = c.args.argument.now in
    let nodes = nodes_in c.put_argument.new.store in
    let stands : Program → Ref → Value → Type 0 = λ q value v. StandsFor (prover_nodes q) (meaning q).types nodes value.0 (type_at (types_of q) c.args.called.argument) v in
    init_halts (program_in c.args.code.now) c.args.called c.requires text {T = Ref} (stands (program_in c.args.code.now)) _ c.from_residual.result (cc)
    (subst (λ (q : Program). InHand (StepGivesFor (with_literal (named_literal (named_of q) (type_at (types_of q) c.args.called.argument) text)) (stands q)) (Err c.in_err-argument.field-0.0))
    c.program.ensures c.in_err-argument.ensures.goes)

pub digesting_run-requires-clause-there : goal.digesting_run-requires-clause-there
digesting_run-requires-clause-there c = λ κs.
    let p = program_in c.args.code.now in
    let called = c.args.called in
    let is = c.requires in
    function_there (meaning p) called.function.0 (role_kind_of called.kind) (type_at (types_of p) called.argument) is.answer is.shape

pub digesting_run-requires-clause-stand : goal.digesting_run-requires-clause-stand
digesting_run-requires-clause-stand c = λ κs.
    let p = program_in c.args.code.now in
    let nodes = nodes_in c.put_argument.new.store in
    let put = subst (IsPut c.args.called c.args.argument.now nodes c.in_ok-argument.argument.0) c.program.ensures c.in_ok-argument.ensures.goes in
    (AndV put.0 NoV, init_stands p c.args.called c.requires c.args.argument.now nodes c.in_ok-argument.argument.0 put)

pub digesting_run-requires-clause-limit : goal.digesting_run-requires-clause-limit
digesting_run-requires-clause-limit c = λ κs.
    subst (λ (p : Program). HasLimit (meaning p) (store_lent c.put_argument.new.store)) c.program.ensures c.in_ok-argument.ensures.limit

pub returns : goal.returns
unfolding outcome_called
returns c =
    let p = program_in c.args.code.now in
    let r = role_of p c.args.called in
    let nodes = nodes_in c.put_argument.new.store in
    let put = subst (IsPut c.args.called c.args.argument.now nodes c.in_ok-argument.argument.0) c.program.ensures c.in_ok-argument.ensures.goes in (
      ended_with r (AndV put.0 NoV),
      (λ go. passed_goes Init p c.args.called c.requires c.args.argument.now nodes c.in_ok-argument.argument.0 put (λ a. go (ended_with r (AndV a NoV)))),
      (
        refl,
        record {
          called = c.requires;
          outcome = c.in_ok-outcome.ensures.outcome (AndV put.0 NoV) (init_stands p c.args.called c.requires c.args.argument.now nodes c.in_ok-argument.argument.0 put);
          limit = subst (HasLimit (meaning p)) (sym c.in_ok-outcome.ensures.lent)
              (subst (λ (p : Program). HasLimit (meaning p) (store_lent c.put_argument.new.store)) c.program.ensures c.in_ok-argument.ensures.limit);
        },
      ),
    )
