use Rattle.std.proofs.Common.{sym, ap, ◌∙◌}
use Rattle.printed_lines.specs.Lines.{agrees_line}
use Rattle.command_parts.specs.Answer.{agreeing}
use Rattle.command_parts.specs.AnswerForms.{says}
use Rattle.command_parts.specs.Halting.{ending_status}
use Rattle.call_commands.proofs.audit_proof.agreement.Goals as goal

pub returns-clause-reports : goal.returns-clause-reports
returns-clause-reports c = λ o told.
    ap agreeing (c.in_ok-report.ensures.tells o told)
    ∙ ap (says (ending_status c.in_ok-report.report.ending)) (sym (c.in_ok-text.ensures ∙ ap agrees_line c.deref.ensures.value))
