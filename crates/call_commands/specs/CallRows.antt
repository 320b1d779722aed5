-- Rows for what runs of `prove`, `audit`, `shallow` and `gen` say of calls. What each word takes, and what it refuses.
use Rattle.std.specs.Prelude.{◌≡◌, ℕ, true, false, List, [], ◌∷◌, ◌++◌, map, Option, Some, refl}
use Rattle.std.specs.List.{concat}
use Rattle.std.specs.Io.KnownBytes.{append_known}
use Rattle.std.proofs.Common.{arith, inl, inr}
use Rattle.sha2.specs.Sha256.{sha256}
use Rattle.command_words.specs.Invocations.{Invocation, calls}
use Rattle.command_words.specs.declared.command.Command.TheVariants.{Audit, Prove}
use Rattle.collision_audit.specs.Splits.{HasNoSplit, IsSplit, Split, offered_in}
use Rattle.ideal_meaning.specs.Checked.{Accepted, Rejected}
use Rattle.ideal_meaning.specs.Frames.{New, Use}
use Rattle.ideal_meaning.specs.Ideal.{honest_pieces}
use Rattle.lam_outside.specs.Told.{AddsStores, Contents}
use Rattle.number_words.specs.Numbers.{number_within}
use Rattle.printed_lines.specs.Lines.{collision_line, rejected_line}
use Rattle.command_parts.specs.Answer.{agreeing, judged_answer}
use Rattle.command_parts.specs.AcceptedAnswers.{accepted_answer, callee_of, shallow_told}
use Rattle.command_parts.specs.RoleInputs.{role_verdict}
use Rattle.command_parts.specs.AnswerForms.{Answer}
use Rattle.call_commands.specs.AuditedCalls.{AgreesOnOutcome, AuditSays, CallsAudit, IsAudited, RejectsProof, ShowsCollision, SplitsAt, SplitsNowhere, TellsAnAudit}
use Rattle.command_parts.specs.Outsides.{Outside}
use Rattle.command_parts.specs.IdealCalls.{IdealCall, call_pieces, call_proof, call_proof_line, called_program, is_new, is_used, projected_outcome, values_called}
use Rattle.call_commands.specs.NamedCalls.{NamesInputs, NamesRole}
use Rattle.call_commands.specs.ProvedCalls.{CallsProve, IsAcceptedCall, IsProved, IsVerified, client_call}
use Rattle.command_parts.specs.RoleCalls.{is_called, kind_called}
use Rattle.call_commands.specs.ShallowLaws.{StoresAlone}
use Rattle.command_parts.specs.declared.roles.Callee.TheVariants.{OfState}
use Rattle.command_parts.specs.declared.status.Status.{Status}
use Rattle.command_parts.specs.declared.status.Status.TheVariants.{Done, Collision, Trap, OutOfFuel}
use Rattle.command_parts.specs.declared.status.Status.TheVariants as status

-- FRAMES
pub frames : (bytes : List ℕ) (k : ℕ) → (map is_new (New bytes ∷ Use k ∷ []) ≡ true ∷ false ∷ []) × (map is_used (New bytes ∷ Use k ∷ []) ≡ false ∷ true ∷ [])
frames bytes k = (refl, refl)

-- AUDITS
-- the status of an outcome, of a rejection or of a collision, and no other
pub audits : TellsAnAudit 0 × TellsAnAudit 5 × TellsAnAudit 11 × (TellsAnAudit 10 → ⊥)
audits = (inl (inl refl), inr (inl refl), inr (inr refl), by)
  where
    by : TellsAnAudit 10 → ⊥
    by (inl (inl e)) = omega (arith, e)
    by (inl (inr (inl e))) = omega (arith, e)
    by (inl (inr (inr e))) = omega (arith, e)
    by (inr (inl e)) = omega (arith, e)
    by (inr (inr e)) = omega (arith, e)

module _ (call : IdealCall) (proof : List ℕ) (old new : Option (List ℕ)) where
  pub splits_nowhere : SplitsNowhere call proof → HasNoSplit sha256 (called_program call) call.role.role call.state call.argument call.role.fuel proof
  splits_nowhere none = none

  pub splits_at : (split : Split) → SplitsAt call proof split → IsSplit sha256 (called_program call).format (offered_in (called_program call).format proof)
      (honest_pieces sha256 (called_program call) call.role.role (values_called call) call.role.fuel) split
  splits_at split is = is

  pub shows_collision : (s : ShowsCollision call proof old new) → SplitsAt call proof s.split × (new ≡ append_known old (collision_line s.split.place s.split.offered s.split.honest s.split.print))
  shows_collision s = (s.is_split, s.line)

  pub rejects_proof : (r : RejectsProof call proof old new) → SplitsNowhere call proof × (role_verdict (client_call call) proof ≡ Rejected r.cause)
      × (new ≡ append_known old (rejected_line r.cause))
  rejects_proof r = (r.no_split, r.rejected, r.line)

  pub agrees : (ended : Status) (a : AgreesOnOutcome call proof ended old new) → SplitsNowhere call proof × (offered_in (called_program call).format proof ≡ call_pieces call)
      × (role_verdict (client_call call) proof ≡ Accepted (projected_outcome call)) × ((shallow_told call.role (projected_outcome call)).status ≡ ended)
      × (new ≡ append_known old (concat (agreeing (shallow_told call.role (projected_outcome call))).lines))
  agrees ended a = (a.no_split, a.honest, a.accepted, a.status_told, a.line)

  -- what an audit says, by its status
  pub audit_says : (AuditSays call proof Collision old new → ShowsCollision call proof old new) × (AuditSays call proof status.Rejected old new → RejectsProof call proof old new)
      × (AuditSays call proof Done old new → AgreesOnOutcome call proof Done old new) × (AuditSays call proof Trap old new → AgreesOnOutcome call proof Trap old new)
      × (AuditSays call proof OutOfFuel old new → AgreesOnOutcome call proof OutOfFuel old new)
  audit_says = ((λ s. s), (λ r. r), (λ a. a), (λ a. a), (λ a. a))

pub calls_audit : (invocation : Invocation) (files : Contents) (call : IdealCall) (proof : List ℕ) (c : CallsAudit invocation files call proof)
    → (invocation ≡ calls Audit (c.program_name ∷ c.role_name ∷ c.image_name ∷ c.argument_text ∷ c.fuel_text ∷ c.proof_name ∷ []))
    × NamesRole OfState c.program_name c.role_name c.fuel_text files call.role × NamesInputs c.image_name c.argument_text files call × (files c.proof_name ≡ Some proof)
calls_audit invocation files call proof c = (c.words, c.role, c.inputs, c.proof_file)

pub is_audited : (invocation : Invocation) (files : Contents) (old new : Outside) (ended : Status) (i : IsAudited invocation files old new ended)
    → CallsAudit invocation files i.call i.proof × AuditSays i.call i.proof ended old.written new.written
is_audited invocation files old new ended i = (i.calls, i.says)

-- PROOFS
pub is_accepted : (call : IdealCall) (n : ℕ) → IsAcceptedCall call n → role_verdict (client_call call) (call_proof call n) ≡ Accepted (projected_outcome call)
is_accepted call n is = is

pub calls_prove : (invocation : Invocation) (files : Contents) (call : IdealCall) (n : ℕ) (out : List ℕ) (c : CallsProve invocation files call n out)
    → (invocation ≡ calls Prove (c.program_name ∷ c.role_name ∷ c.image_name ∷ c.argument_text ∷ c.fuel_text ∷ c.kept_text ∷ out ∷ []))
    × NamesRole OfState c.program_name c.role_name c.fuel_text files call.role × (number_within (called_program call).format.most_kept c.kept_text ≡ Some n)
    × NamesInputs c.image_name c.argument_text files call
calls_prove invocation files call n out c = (c.words, c.role, c.kept, c.inputs)

pub is_verified : (call : IdealCall) (n : ℕ) (bytes role argument fuel : List ℕ) → IsVerified call n bytes role argument fuel
    → (program state proof : List ℕ) (out : Option (List ℕ)) (files : Contents) → is_called (callee_of out) (kind_called call.role) ≡ true
    → files program ≡ Some bytes → files state ≡ Some (client_call call).state → files proof ≡ Some (call_proof call n)
    → judged_answer program role state argument fuel proof out files ≡ Some (accepted_answer call.role out (projected_outcome call))
is_verified call n bytes role argument fuel is = is

pub is_proved : (invocation : Invocation) (files : Contents) (old new : Outside) (ended : Status) (i : IsProved invocation files old new ended)
    → ((shallow_told i.call.role (projected_outcome i.call)).status ≡ ended)
    × (new.written ≡ append_known old.written (concat ((shallow_told i.call.role (projected_outcome i.call)).lines ++ call_proof_line i.call i.kept ∷ [])))
    × AddsStores old.stores new.stores ((i.out, call_proof i.call i.kept) ∷ []) × IsAcceptedCall i.call i.kept
    × IsVerified i.call i.kept i.calls.role.program_file.bytes i.calls.role_name i.calls.argument_text i.calls.fuel_text
is_proved invocation files old new ended i = (i.status_told, i.written, i.stored, i.accepted, i.verified)

-- STATES AND WORKLOADS
pub stores_alone : (found : Option Answer) (name bytes : List ℕ) (s : StoresAlone found name bytes) → (found ≡ Some s.answer) × (s.answer.status ≡ Done)
    × (s.answer.stored ≡ (name, bytes) ∷ [])
stores_alone found name bytes s = (s.answered, s.done, s.stored)
