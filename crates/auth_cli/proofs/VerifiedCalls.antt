-- The proof of a call is answered by `verify` with the outcome of the call.
use Rattle.std.proofs.Common.{◌≡◌, ◌⊎◌, inl, inr, ℕ, ◌≤◌, List, [], length, Option, Some, ap, ◌∙◌, arith}
use Rattle.sha2.specs.Sha256.{sha256}
use Rattle.sha2.proofs.Facts256.{length-sha256}
use Rattle.lam_outside.specs.Told.{Contents}
use Rattle.core_terms.specs.Formats.{IsFormat}
use Rattle.core_terms.specs.Limits.{most_file_bytes}
use Rattle.core_terms.specs.Projection.{Fits, digest_at, projection, read_at}
use Rattle.core_terms.specs.Reading.{Read, Good, BadAt}
use Rattle.core_terms.specs.Spelling.{spelling}
use Rattle.core_terms.specs.Terms.{Program}
use Rattle.core_terms.specs.Values.{Value, IsIdeal}
use Rattle.core_terms.proofs.LawProofs.{projection_is_read_back, projection_keeps_limits, size_is_length}
use Rattle.printed_lines.specs.declared.refusal.Argument.TheVariants as named
use Rattle.command_parts.specs.Answer.{verified_answer}
use Rattle.command_parts.specs.AcceptedAnswers.{accepted_answer, callee_of}
use Rattle.command_parts.specs.OutcomeAnswers.{state_projection}
use Rattle.command_parts.specs.RoleInputs.{RoleCall, with_fueled_role, with_passed, with_role_call}
use Rattle.command_parts.specs.FileInputs.{state_read, with_bytes, with_literal, with_state, with_state_read}
use Rattle.command_parts.specs.AnswerForms.{Answer}
use Rattle.command_parts.specs.RefusedAnswers.{verdict_answer}
use Rattle.command_parts.specs.FueledRoles.{FueledRole}
use Rattle.command_parts.specs.IdealCalls.{IdealCall, called_program}
use Rattle.call_commands.specs.NamedCalls.{NamesInputs, NamesRole}
use Rattle.call_commands.specs.ProvedCalls.{IsAcceptedCall, IsVerified, client_call}
use Rattle.command_parts.specs.declared.roles.Callee.TheVariants.{OfState}
use Rattle.auth_cli.proofs.AcceptedCalls.{IsMeant}
use Rattle.call_commands.proofs.GoingOn.{file_goes, fueled_goes, program_goes}
use Rattle.command_parts.proofs.StateOutputs.{is_shallow}

-- the spelling of a projected state is read, and short enough for a file
abbrev state_bytes : Program → Value → List ℕ
state_bytes P v = spelling (projection sha256 P P.state v)

module _ (P : Program) (format : IsFormat P.format) (v : Value) (ideal : IsIdeal P.types P.state v) (fits : Fits P P.state v) where
  read_goes : (go : List ℕ → Option Answer)
      → (Fits P P.state v × ((place : ℕ) × (read_at P P.state (state_bytes P v) ≡ Good (projection sha256 P P.state v) [] place)))
      ⊎ ((Fits P P.state v → ⊥) × ((place : ℕ) × (read_at P P.state (state_bytes P v) ≡ BadAt place)))
      → with_state_read (read_at P P.state (state_bytes P v)) (state_bytes P v) go ≡ go (state_bytes P v)
  read_goes go (inl good) = ap (λ (found : Read Value). with_state_read found (state_bytes P v) go) good.1.1
  read_goes go (inr bad) = absurd (bad.0 fits)

  state_goes : (go : List ℕ → Option Answer) → with_state P (spelling (state_projection P v)) go ≡ go (spelling (state_projection P v))
  unfolding state_read state_projection
  state_goes go =
      read_goes go
      (projection_is_read_back (digest_at sha256 P) (format.digest_length sha256 length-sha256) P.format.limit format.limit_fits P.types P.state v ideal)

  state_short : length (spelling (state_projection P v)) ≤ most_file_bytes
  unfolding state_projection
  state_short =
      let is = size_is_length P.types P.state (projection sha256 P P.state v) (is_shallow P format P.state v ideal) in
      let kept = (projection_keeps_limits (digest_at sha256 P) P.types P.state v).0 in
      omega (arith, is, kept, fits.size_fits, format.message_fits)

pub call_is_verified : (call : IdealCall) (n : ℕ) (program role image argument fuel : List ℕ) (files : Contents) → IsMeant call → IsAcceptedCall call n
    → (names : NamesRole OfState program role fuel files call.role) → NamesInputs image argument files call
    → IsVerified call n names.program_file.bytes role argument fuel
call_is_verified call n program role image argument fuel files meant accepted names inputs name state proof out later called program_is state_is proof_is =
    let r = call.role in
    let P = called_program call in
    let client = client_call call in
    let on_call : RoleCall → Option Answer = λ c. with_bytes (later proof) (λ bytes. Some (verified_answer out c bytes)) in
    let on_role : FueledRole → Option Answer = λ r. with_role_call r state argument later on_call in
    let on_state : List ℕ → Option Answer = λ s. with_passed r argument (λ x. on_call (record { role = r; state = s; argument = spelling x })) in
    program_goes (files program) (later name) r.program names.program_file (λ p. with_fueled_role (callee_of out) p role fuel on_role) program_is
    ∙ fueled_goes (callee_of out) OfState program role fuel files r on_role names called
    ∙ file_goes most_file_bytes named.State (later state) client.state (λ bytes. with_state P bytes on_state) state_is
    (state_short P meant.reader.format call.state meant.state.ideal meant.state.fits)
    ∙ state_goes P meant.reader.format call.state meant.state.ideal meant.state.fits on_state
    ∙ ap (λ found. with_literal found (λ x. on_call (record { role = r; state = client.state; argument = spelling x }))) inputs.argument
    ∙ ap (λ file. with_bytes file (λ bytes. Some (verified_answer out client bytes))) proof_is
    ∙ ap (λ verdict. Some (verdict_answer (accepted_answer r out) verdict)) accepted
