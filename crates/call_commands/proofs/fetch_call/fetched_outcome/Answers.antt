use Rattle.std.proofs.Common.{subst}
use Rattle.sha2.specs.Sha256.{sha256}
use Rattle.code_gen.specs.Programs.{program_in}
use Rattle.core_terms.specs.Programs.{meaning, types_of}
use Rattle.core_terms.specs.RoleViews.{role_kind_of}
use Rattle.core_terms.specs.Roles.{argument_type}
use Rattle.core_terms.specs.TypeTables.{type_at}
use Rattle.core_terms.specs.Terms.{function_at}
use Rattle.fetched_verdicts.specs.Verdicts.{verdict_over}
use Rattle.piece_mirror.specs.Answers.{given_by}
use Rattle.piece_mirror.specs.Tables.{bytes_of}
use Rattle.command_parts.specs.Answer.{fetched_verdict}
use Rattle.command_parts.specs.FetchedCalls.{TellsVerdict}
use Rattle.command_parts.specs.declared.roles.Callee.TheVariants.{OfState}
use Rattle.command_parts.proofs.FetchedTold.{told_over}
use Rattle.command_parts.proofs.RoleShapes.{calls_reads, function_there}
use Rattle.call_commands.proofs.fetch_call.fetched_outcome.Goals as goal

pub verify_from-requires-clause-there : goal.verify_from-requires-clause-there
verify_from-requires-clause-there c κs =
    let p = program_in c.args.code.now in
    let called = c.args.call.now.called in
    function_there (meaning p) called.function.0 (role_kind_of called.kind) (type_at (types_of p) called.argument) c.requires.answer c.requires.shape

pub verify_from-requires-clause-role : goal.verify_from-requires-clause-role
verify_from-requires-clause-role c κs =
    let p = program_in c.args.code.now in
    let called = c.args.call.now.called in
    (role_kind_of called.kind, type_at (types_of p) called.argument, c.requires.answer, c.requires.shape, calls_reads OfState (role_kind_of called.kind) tt c.requires.called)

pub verify_from-requires-clause-fuel_fits : goal.verify_from-requires-clause-fuel_fits
verify_from-requires-clause-fuel_fits c κs = c.requires.fuel_fits

pub returns : goal.returns
unfolding fetched_verdict
returns c =
    let P = meaning (program_in c.args.code.now) in
    let call = c.args.call.now in
    let f = call.called.function.0 in
    let get = given_by sha256 (bytes_of c.args.mirror.now.pieces) in
    subst (λ s. TellsVerdict P (function_at P f).result (verdict_over sha256 P get (argument_type P f) f s call.argument call.called.fuel) c.verify_from.result) c.deref.ensures.value
    (subst (λ a. TellsVerdict P (function_at P f).result (verdict_over sha256 P get (argument_type P f) f c.deref.result.now a call.called.fuel) c.verify_from.result) c.as_bytes.ensures
    (told_over (λ mirror. bytes_of mirror.pieces) sha256 P f c.deref.result.now c.as_bytes.result.now call.called.fuel c.args.mirror.now c.verify_from.new.from c.verify_from.result
    c.verify_from.ensures.judges c.verify_from.ensures.faults))
