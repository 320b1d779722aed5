-- What a run of `audit` told, by what the audit comes to.
use Rattle.std.proofs.Common.{◌≡◌, ℕ, List, Option, ap, sym, ◌∙◌, subst}
use Rattle.std.specs.List.{concat}
use Rattle.std.specs.Io.KnownBytes.{append_known}
use Rattle.sha2.specs.Sha256.{sha256}
use Rattle.core_terms.specs.Roles.{argument_type}
use Rattle.ideal_meaning.specs.Checked.{BadState, BadArgument, Rejected, Accepted}
use Rattle.ideal_meaning.specs.Ideal.{Outcome, Done, Trapped, Out, honest_pieces}
use Rattle.printed_lines.specs.Lines.{collision_line, rejected_line}
use Rattle.collision_audit.specs.Audits.{Audit, Collides, Judges, unless_split, verdict_on_projections}
use Rattle.collision_audit.specs.Splits.{Split, offered_in}
use Rattle.collision_audit.proofs.FirstSplits.{split_is_found}
use Rattle.command_parts.specs.Answer.{agreeing, audit_told, call_audit_answer}
use Rattle.command_parts.specs.AcceptedAnswers.{shallow_told}
use Rattle.call_commands.specs.AuditedCalls.{AgreesOnOutcome, AuditSays, SplitsAt}
use Rattle.command_parts.specs.IdealCalls.{IdealCall, call_audit, called_program, values_called}
use Rattle.command_parts.specs.declared.status.Status.{Status}
use Rattle.command_parts.specs.declared.status.Status.TheVariants as status
use Rattle.command_parts.proofs.Ends.{one_line}
use Rattle.auth_cli.proofs.TrueAudits.{IsTrueAudit}

-- an audit that agrees says what it agrees on, with the status of an outcome
outcome_says : (call : IdealCall) (proof : List ℕ) (o : Outcome) (old new : Option (List ℕ))
    → AgreesOnOutcome call proof (shallow_told call.role o).status old new
    → AuditSays call proof (shallow_told call.role o).status old new
outcome_says call proof (Done v) old new agrees = agrees
outcome_says call proof (Trapped trap) old new agrees = agrees
outcome_says call proof Out old new agrees = agrees

pub audit_says : (call : IdealCall) (proof : List ℕ) (audit : Audit) (old new : Option (List ℕ)) (ended : Status) → IsTrueAudit call proof audit
    → (audit_told call.role audit).status ≡ ended
    → new ≡ append_known old (concat (audit_told call.role audit).lines) → AuditSays call proof ended old new
audit_says call proof (Collides split) old new ended is_so told written =
    subst (λ ended. AuditSays call proof ended old new) told
    (record { split = split; is_split = is_so; line = written ∙ ap (append_known old) (one_line (collision_line split.place split.offered split.honest split.print)) })
audit_says call proof (Judges (Accepted o)) old new ended is_so told written =
    subst (λ ended. AuditSays call proof ended old new) told (outcome_says call proof o old new (record {
      no_split = is_so.0;
      honest = is_so.1;
      accepted = is_so.2 ∙ ap Accepted is_so.3;
      status_told = ap (λ (o : Outcome). (shallow_told call.role o).status) (sym is_so.3);
      line = written ∙ ap (λ (o : Outcome). append_known old (concat (agreeing (shallow_told call.role o)).lines)) is_so.3;
    }))
audit_says call proof (Judges (Rejected cause)) old new ended is_so told written =
    subst (λ ended. AuditSays call proof ended old new) told
    (record { no_split = is_so.0; cause = cause; rejected = is_so.1; line = written ∙ ap (append_known old) (one_line (rejected_line cause)) })
audit_says call proof (Judges (BadState offset)) old new ended is_so told written = absurd is_so
audit_says call proof (Judges (BadArgument offset)) old new ended is_so told written = absurd is_so

-- a split of the offered pieces is what the audit comes to
pub split_is_told : (call : IdealCall) (proof : List ℕ) (split : Split) → SplitsAt call proof split → (call_audit_answer call proof).status ≡ status.Collision
unfolding call_audit
split_is_told call proof split is =
    let P = called_program call in
    let r = call.role in
    let found = (split_is_found sha256 P.format (offered_in P.format proof) (honest_pieces sha256 P r.role (values_called call) r.fuel) split).1 is in
    let v = verdict_on_projections sha256 P (argument_type P r.role) r.role call.state call.argument r.fuel proof in
    ap (λ found. (audit_told r (unless_split found v)).status) found
