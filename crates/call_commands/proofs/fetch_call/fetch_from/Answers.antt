use Rattle.std.proofs.Common.{subst}
use Rattle.code_gen.specs.Programs.{program_in}
use Rattle.core_terms.specs.Programs.{meaning}
use Rattle.piece_mirror.specs.Tables.{bytes_of}
use Rattle.command_parts.specs.Answer.{fetched_verdict}
use Rattle.command_parts.specs.FetchedCalls.{ReportsVerdict}
use Rattle.command_parts.specs.RoleCalls.{result_called}
use Rattle.command_parts.specs.RolesCalled.{role_of}
use Rattle.command_parts.specs.RolesJudged.{call_meant}
use Rattle.command_parts.proofs.FetchedTold.{no_fault_told, verdict_reported}
use Rattle.call_commands.proofs.fetch_call.fetch_from.Goals as goal

pub verdict_report-requires-clause-no_fault : goal.verdict_report-requires-clause-no_fault
verdict_report-requires-clause-no_fault c =
    let p = program_in c.args.code.now in
    let call = c.args.call.now in
    no_fault_told (meaning p) (result_called (role_of p call.called)) (fetched_verdict (call_meant p call) (bytes_of c.args.mirror.now.pieces)) c.fetched_outcome-judged.result c.fetched_outcome-judged.ensures

pub returns-clause-finds : goal.returns-clause-finds
returns-clause-finds c =
    let p = program_in c.args.code.now in
    let call = c.args.call.now in
    let judged = c.fetched_outcome-judged.result in
    verdict_reported (role_of p call.called) (fetched_verdict (call_meant p call) (bytes_of c.args.mirror.now.pieces)) judged c.verdict_report.result c.fetched_outcome-judged.ensures
    (subst (λ p. ReportsVerdict (role_of p call.called) judged c.verdict_report.result) c.program.ensures c.verdict_report.ensures.reports)
