-- What the audit of a proof of a call comes to is so.
use Rattle.std.proofs.Common.{◌≡◌, ℕ, List, refl, sym, ap, ◌∙◌, subst}
use Rattle.sha2.specs.Sha256.{sha256}
use Rattle.sha2.proofs.Facts256.{length-sha256}
use Rattle.core_terms.specs.Projection.{projection}
use Rattle.core_terms.specs.Roles.{argument_type}
use Rattle.core_terms.specs.Spelling.{spelling}
use Rattle.core_terms.specs.Terms.{Program, function_at}
use Rattle.core_terms.specs.Types.{Ty}
use Rattle.core_terms.specs.Values.{Value}
use Rattle.ideal_meaning.specs.Checked.{Verdict, BadState, BadArgument, Rejected, Accepted, verdict}
use Rattle.ideal_meaning.specs.Headline.{call_values}
use Rattle.ideal_meaning.specs.Ideal.{honest_pieces, ideal, outcome, outcome_projection}
use Rattle.collision_audit.specs.Audits.{Audit, Collides, IsOnProof, Judges, verdict_on_projections}
use Rattle.collision_audit.specs.Splits.{offered_in, split_of}
use Rattle.collision_audit.proofs.AuditHeadline.{agreement_is_true, collides, judges}
use Rattle.collision_audit.proofs.FirstSplits.{no_split_is_found, split_is_found}
use Rattle.collision_audit.proofs.OnProof.{verdict_is_on_proof}
use Rattle.command_parts.specs.OutcomeAnswers.{state_projection}
use Rattle.command_parts.specs.RoleInputs.{role_verdict}
use Rattle.call_commands.specs.AuditedCalls.{SplitsAt, SplitsNowhere}
use Rattle.command_parts.specs.IdealCalls.{IdealCall, call_audit, call_pieces, called_program, projected_outcome}
use Rattle.call_commands.specs.ProvedCalls.{client_call}
use Rattle.command_parts.specs.RoleCalls.{outcome_called}
use Rattle.auth_cli.proofs.AcceptedCalls.{IsMeant, own_projection}

-- what the audit of a proof of the call comes to is so
abbrev pub IsTrueAudit : IdealCall → List ℕ → Audit → Type 0
IsTrueAudit call proof (Collides split) = SplitsAt call proof split
IsTrueAudit call proof (Judges (Accepted o)) =
    SplitsNowhere call proof × (offered_in (called_program call).format proof ≡ call_pieces call) × (role_verdict (client_call call) proof ≡ Accepted o)
    × (o ≡ projected_outcome call)
IsTrueAudit call proof (Judges (Rejected cause)) = SplitsNowhere call proof × (role_verdict (client_call call) proof ≡ Rejected cause)
IsTrueAudit call proof (Judges v) = ⊥

module _ (call : IdealCall) (proof : List ℕ) (meant : IsMeant call) where
  abbrev P : Program
  P = called_program call

  abbrev f : ℕ
  f = call.role.role

  abbrev k : ℕ
  k = call.role.fuel

  abbrev t : Ty
  t = argument_type P f

  abbrev s : Value
  s = call.state

  abbrev x : Value
  x = call.argument

  -- the verifier's verdict is the one that the audit comes to
  client_verdict : role_verdict (client_call call) proof ≡ verdict_on_projections sha256 P t f s x k proof
  unfolding role_verdict state_projection
  client_verdict = sym (ap (λ (own : Value). verdict sha256 P t f (spelling (projection sha256 P P.state s)) (spelling own) k proof) (own_projection call meant))

  -- where it comes to a verdict, no split was found
  splits_nowhere : (v : Verdict) → call_audit call proof ≡ Judges v → SplitsNowhere call proof × (verdict_on_projections sha256 P t f s x k proof ≡ v)
  unfolding call_audit
  splits_nowhere v e =
      let none = judges (split_of sha256 P f s x k proof) (verdict_on_projections sha256 P t f s x k proof) v e in
      ((no_split_is_found sha256 P.format (offered_in P.format proof) (honest_pieces sha256 P f (call_values s x) k)).0 none.0, none.1)

  on_proof : IsOnProof (verdict_on_projections sha256 P t f s x k proof)
  on_proof =
      verdict_is_on_proof sha256 length-sha256 P meant.reader.format t f s x meant.state.ideal meant.argument.ideal meant.state.fits meant.argument.fits k proof

  is_so : (audit : Audit) → call_audit call proof ≡ audit → IsTrueAudit call proof audit
  unfolding call_audit call_pieces projected_outcome outcome_called
  is_so (Collides split) e =
      let found = collides (split_of sha256 P f s x k proof) (verdict_on_projections sha256 P t f s x k proof) split e in
      (split_is_found sha256 P.format (offered_in P.format proof) (honest_pieces sha256 P f (call_values s x) k) split).0 found
  is_so (Judges (Accepted o)) e =
      let nowhere = splits_nowhere (Accepted o) e in
      let reader = meant.reader in
      let is_true =
      agreement_is_true sha256 length-sha256 P reader.format reader.typed f (function_at P f).kind t reader.answer reader.role reader.reads s x
      meant.state.ideal meant.argument.ideal k proof o e in
      let outcome_is = is_true.1 ∙ ap (λ (t : Ty). outcome_projection sha256 P t (outcome (ideal P f (call_values s x) k))) (sym reader.result) in
      (nowhere.0, is_true.0, client_verdict ∙ nowhere.1, outcome_is)
  is_so (Judges (Rejected cause)) e = let nowhere = splits_nowhere (Rejected cause) e in (nowhere.0, client_verdict ∙ nowhere.1)
  is_so (Judges (BadState offset)) e = subst IsOnProof (splits_nowhere (BadState offset) e).1 on_proof
  is_so (Judges (BadArgument offset)) e = subst IsOnProof (splits_nowhere (BadArgument offset) e).1 on_proof

pub true_audit : (call : IdealCall) (proof : List ℕ) → IsMeant call → IsTrueAudit call proof (call_audit call proof)
true_audit call proof meant = is_so call proof meant (call_audit call proof) refl
