use Rattle.std.proofs.Common.{sym, subst}
use Rattle.code_gen.specs.Programs.{program_in}
use Rattle.core_terms.specs.Programs.{meaning}
use Rattle.core_terms.specs.declared.outcome.Outcome.{Outcome}
use Rattle.core_terms.specs.declared.program.Program.{Program}
use Rattle.ideal_meaning.specs.SpelledOutcomes.{SpellsOutcome}
use Rattle.verifier_mode.specs.Verdicts.{TellsSomeOutcome}
use Rattle.core_terms.specs.declared.byte_string.ByteString.{ByteString as Spelling}
use Rattle.command_parts.specs.AcceptedAnswers.{accepted_answer}
use Rattle.command_parts.specs.RoleInputs.{role_verdict}
use Rattle.command_parts.specs.RoleCalls.{result_called}
use Rattle.command_parts.specs.RolesCalled.{role_of}
use Rattle.command_parts.specs.RolesJudged.{call_meant}
use Rattle.call_commands.specs.AnswersBehind.{name_of}
use Rattle.command_parts.specs.Storing.{IsOutput}
use Rattle.call_commands.proofs.JudgedRoles.{accepted_found, verdict_found, verdict_judges}
use Rattle.call_commands.proofs.verify_call.judge_proof.Goals as goal

pub verdict_of-requires : goal.verdict_of-requires
verdict_of-requires g c = (c.args.callee, c.requires.reads, c.requires.called)

pub returns-in_err-outcome-clause-finds : goal.returns-in_err-outcome-clause-finds
returns-in_err-outcome-clause-finds g c = λ out is bytes told.
    let p = program_in c.args.code.now in
    let call = c.args.call.now in
    verdict_found (accepted_answer (role_of p call.called) out) (meaning p) call.called.function.0 (role_verdict (call_meant p call) bytes) c.in_err-outcome.field-0.0 (name_of out) c.from_residual.result
    c.from_residual.ensures.1 (c.in_err-outcome.ensures.verdict bytes told)

pub returns-in_err-outcome-clause-cause : goal.returns-in_err-outcome-clause-cause
returns-in_err-outcome-clause-cause g c = verdict_judges (Outcome Spelling) _ _ c.in_err-outcome.field-0.0 c.from_residual.result c.from_residual.ensures.1 c.in_err-outcome.ensures.cause

pub outcome_output-requires-clause-told : goal.outcome_output-requires-clause-told
outcome_output-requires-clause-told g c =
    subst (λ (p : Program). TellsSomeOutcome (meaning p) (result_called (role_of p c.args.call.now.called)) c.in_ok-outcome.outcome) (sym c.program.ensures) c.in_ok-outcome.ensures.told

pub returns-clause-finds : goal.returns-clause-finds
returns-clause-finds g c = λ out is bytes told.
    let p = program_in c.args.code.now in
    let call = c.args.call.now in
    let output = c.in_ok-outcome_output.field-0 in
    accepted_found (role_of p call.called) out (meaning p) call.called.function.0 (role_verdict (call_meant p call) bytes) c.in_ok-outcome.outcome output (c.in_ok-outcome.ensures.verdict bytes told)
    (λ o spells.
    subst (λ (p : Program). SpellsOutcome (meaning p) (result_called (role_of p call.called)) o c.in_ok-outcome.outcome → IsOutput (accepted_answer (role_of p call.called) out o) (name_of out) output) c.program.ensures
    (c.in_ok-outcome_output.ensures.finds out o is) spells)
