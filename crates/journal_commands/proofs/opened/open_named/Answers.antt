use Rattle.code_gen.specs.Programs.{program_in}
use Rattle.command_parts.specs.ReadPrograms.{digested_of}
use Rattle.journal_commands.proofs.JournalsOpened.{fault_opens, opened_named}
use Rattle.journal_commands.proofs.StopCauses.{is_err}
use Rattle.journal_commands.proofs.opened.open_named.Goals as goal

pub returns-in_err-open-in-Ok-clause-opens : goal.returns-in_err-open-in-Ok-clause-opens
returns-in_err-open-in-Ok-clause-opens g c =
    let fault = c.in_err-open-in-Ok.field-0.0 in
    let residual = c.from_residual in
    fault_opens (digested_of (program_in c.args.code.now)) _ _ _ _ c.in-Ok.ensures.chosen fault residual.result (is_err residual.result _ residual.ensures.1) c.in_err-open-in-Ok.ensures.opens
    c.in_err-open-in-Ok.ensures.synced

pub returns-in_ok-open-in-Ok-clause-opens : goal.returns-in_ok-open-in-Ok-clause-opens
returns-in_ok-open-in-Ok-clause-opens g c =
    let opened = c.in_ok-open-in-Ok in
    opened_named (digested_of (program_in c.args.code.now)) _ _ _ _ c.in-Ok.ensures.chosen opened.field-0 opened.ensures.stands opened.ensures.opens opened.ensures.synced
