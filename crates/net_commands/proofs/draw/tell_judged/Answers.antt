use Rattle.std.proofs.Common.{rules, ◌≡◌, Err, ap, subst, ◌∙◌}
use Rattle.piece_fetch.specs.declared.verdict.FetchVerdict.TheVariants.{FetchFault}
use Rattle.command_parts.specs.FetchedCalls.{ReportsVerdict}
use Rattle.command_parts.specs.RolesCalled.{role_of}
use Rattle.net_commands.specs.PreparedDrawings.{drawing_of}
use Rattle.net_commands.proofs.AskLinks.{line_told}
use Rattle.net_commands.proofs.DrawTold.{fault_told, verdict_told}
use Rattle.net_commands.proofs.draw.tell_judged.Goals as goal

pub returns-in-Err-FetchFault : goal.returns-in-Err-FetchFault
returns-in-Err-FetchFault g c =
    let why : c.in-Err-FetchFault.field-0 ≡ FetchFault = rw c.in-Err-FetchFault.is at c.in-Err-FetchFault.field-0-is in
    let what : c.args.judged ≡ Err FetchFault = c.in-Err-FetchFault.is ∙ ap (λ why. Err why) why in
    fault_told c.tell_text.result _ _ _ _ (drawing_of c.args.held.now).call c.args.judged what
    (line_told _ _ c.link_fault_line.ensures c.as_bytes.ensures.value c.tell_text.result _ _ _ _ c.tell_text.ensures)

pub returns-in_default : goal.returns-in_default
returns-in_default g c =
    let held = c.args.held.now in
    let reports = subst (λ p. ReportsVerdict (role_of p held.call.called) c.args.judged c.verdict_report-found.result) c.program.ensures c.verdict_report-found.ensures.reports in
    verdict_told c.tell.result _ _ _ _ (drawing_of held).call c.verdict_report-found.result c.tell.ensures c.args.judged (search rules) reports
