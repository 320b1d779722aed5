use Rattle.std.proofs.Common.{◌≡◌, length, Some, sym, subst, arith}
use Rattle.code_gen.specs.Programs.{program_in}
use Rattle.command_parts.specs.Answer.{proof_answer}
use Rattle.command_parts.specs.FueledRoles.{FueledRole}
use Rattle.command_parts.specs.IdealCalls.{IdealCall, call_pieces, projected_outcome}
use Rattle.command_parts.specs.RoleCalls.{outcome_called}
use Rattle.command_parts.specs.Reporting.{ReportsProof}
use Rattle.command_parts.specs.RolesCalled.{IsCalled, role_of}
use Rattle.command_parts.specs.Storing.{IsOutput}
use Rattle.call_commands.proofs.HeldCalls.{called_on, takes, there}
use Rattle.call_commands.proofs.ProofOutputs.{proof_output}
use Rattle.call_commands.proofs.prove_call.make_proof.Goals as goal

pub prove_file-requires-clause-there : goal.prove_file-requires-clause-there
prove_file-requires-clause-there c = λ κs. there c.requires.called.0 (program_in c.args.code.now) c.args.call c.requires.called.2.0 c.requires.called.1 c.requires.called.2.1

pub prove_file-requires-clause-role : goal.prove_file-requires-clause-role
prove_file-requires-clause-role c = λ κs. takes c.requires.called.0 (program_in c.args.code.now) c.args.call c.requires.called.2.0 c.requires.called.1 c.requires.called.2.1

pub prove_file-requires-clause-called : goal.prove_file-requires-clause-called
prove_file-requires-clause-called c = λ κs.
    let ideal = c.requires.called.2.0 in
    (ideal.state, ideal.argument, called_on c.requires.called.0 (program_in c.args.code.now) c.args.call ideal c.requires.called.1 c.requires.called.2.1)

pub prove_file-requires-clause-limit : goal.prove_file-requires-clause-limit
prove_file-requires-clause-limit c = λ κs. c.requires.called.2.1.limit

pub prove_file-requires-clause-fuel_fits : goal.prove_file-requires-clause-fuel_fits
prove_file-requires-clause-fuel_fits c = λ κs. c.requires.called.2.1.called.fuel_fits

pub proof_report-requires : goal.proof_report-requires
proof_report-requires c =
    (c.requires.called.0, subst (λ p. IsCalled c.requires.called.0 p c.args.call.called) (sym c.program.ensures) c.requires.called.2.1.called)

pub returns-clause-output : goal.returns-clause-output
unfolding projected_outcome call_pieces outcome_called
returns-clause-output c = λ callee ideal calls h name.
    let p = program_in c.args.code.now in
    let called = c.args.call.called in
    let on = called_on callee p c.args.call ideal calls h in
    let made = c.in_ok-proof.ensures in
    let proved = c.in_ok-proof.proof.0 in
    let file = c.in_ok-proof.proof.1 in
    let report = c.in_ok-report.report in
    let bytes : c.len.result ≡ length file.items = omega (arith, c.len.ensures, file.ok) in
    let reports = subst (λ p. ReportsProof (role_of p called) proved c.len.result report) c.program.ensures c.in_ok-report.ensures.reports in
    let own : IdealCall = record { role = role_of p called; state = ideal.state; argument = ideal.argument } in
    subst (λ (r : FueledRole). IsOutput (proof_answer (record { role = r; state = ideal.state; argument = ideal.argument }) c.args.kept name) name (record { report = report; file = Some file })) h.role
    (proof_output own proved report file c.args.kept c.len.result (made.outcome ideal.state ideal.argument on) (made.fresh ideal.state ideal.argument on) (made.again ideal.state ideal.argument on)
    (made.file ideal.state ideal.argument on) bytes reports name)
