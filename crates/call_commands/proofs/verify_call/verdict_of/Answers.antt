use Rattle.std.proofs.Common.{subst}
use Rattle.sha2.specs.Sha256.{sha256}
use Rattle.code_gen.specs.Programs.{program_in}
use Rattle.core_terms.specs.Programs.{meaning, types_of}
use Rattle.core_terms.specs.RoleViews.{role_kind_of}
use Rattle.core_terms.specs.Roles.{argument_type}
use Rattle.core_terms.specs.TypeTables.{type_at}
use Rattle.ideal_meaning.specs.Checked.{verdict}
use Rattle.verifier_mode.specs.Verdicts.{AnswersVerdict}
use Rattle.command_parts.specs.RoleInputs.{role_verdict}
use Rattle.command_parts.proofs.RoleShapes.{calls_reads, function_there}
use Rattle.call_commands.proofs.verify_call.verdict_of.Goals as goal

pub verify-requires-clause-there : goal.verify-requires-clause-there
verify-requires-clause-there g c κs within =
    let p = program_in c.args.code.now in
    let called = c.args.call.now.called in
    let is = c.requires.2 in
    function_there (meaning p) called.function.0 (role_kind_of called.kind) (type_at (types_of p) called.argument) is.answer is.shape

pub verify-requires-clause-role : goal.verify-requires-clause-role
verify-requires-clause-role g c κs within =
    let p = program_in c.args.code.now in
    let called = c.args.call.now.called in
    let is = c.requires.2 in
    (role_kind_of called.kind, type_at (types_of p) called.argument, is.answer, is.shape, calls_reads c.requires.0 (role_kind_of called.kind) c.requires.1 is.called)

pub verify-requires-clause-fuel_fits : goal.verify-requires-clause-fuel_fits
verify-requires-clause-fuel_fits g c κs within = c.requires.2.fuel_fits

pub returns-clause-verdict : goal.returns-clause-verdict
unfolding role_verdict
returns-clause-verdict g c = λ bytes told.
    let P = meaning (program_in c.args.code.now) in
    let call = c.args.call.now in
    let f = call.called.function.0 in
    subst (λ s. AnswersVerdict P f (verdict sha256 P (argument_type P f) f s call.argument call.called.fuel bytes) c.verify.result) c.deref.ensures.value
    (subst (λ a. AnswersVerdict P f (verdict sha256 P (argument_type P f) f c.deref.result.now a call.called.fuel bytes) c.verify.result) c.as_bytes.ensures (c.verify.ensures.verdict bytes told))
