-- What a run of `audit` says, in the words of its command line and its files.
use Rattle.std.specs.Prelude.{◌≡◌, ◌⊎◌, ℕ, List, [], ◌∷◌, Option, Some}
use Rattle.std.specs.List.{concat}
use Rattle.std.specs.Io.KnownBytes.{append_known}
use Rattle.sha2.specs.Sha256.{sha256}
use Rattle.command_words.specs.Invocations.{Invocation, calls}
use Rattle.command_words.specs.declared.command.Command.TheVariants.{Audit}
use Rattle.lam_outside.specs.Told.{Contents}
use Rattle.ideal_meaning.specs.Checked.{Cause, Accepted, Rejected}
use Rattle.ideal_meaning.specs.Ideal.{honest_pieces}
use Rattle.printed_lines.specs.Lines.{collision_line, rejected_line}
use Rattle.collision_audit.specs.Splits.{HasNoSplit, Split, IsSplit, offered_in}
use Rattle.command_parts.specs.Answer.{agreeing}
use Rattle.command_parts.specs.AcceptedAnswers.{shallow_told}
use Rattle.command_parts.specs.RoleInputs.{role_verdict}
use Rattle.command_parts.specs.Outsides.{Outside}
use Rattle.command_parts.specs.IdealCalls.{IdealCall, call_pieces, called_program, projected_outcome, values_called}
use Rattle.call_commands.specs.NamedCalls.{NamesInputs, NamesRole}
use Rattle.call_commands.specs.ProvedCalls.{client_call}
use Rattle.call_commands.specs.TrueLines.{TellsOutcome}
use Rattle.command_parts.specs.declared.roles.Callee.TheVariants.{OfState}
use Rattle.command_parts.specs.declared.status.Status.{Status}
use Rattle.command_parts.specs.declared.status.Status.TheVariants as status

-- the command is `audit` on files and texts that name this call, and on this proof
pub record CallsAudit (invocation : Invocation) (files : Contents) (call : IdealCall) (proof : List ℕ) : Type 0 where
  pub program_name : List ℕ
  pub role_name : List ℕ
  pub image_name : List ℕ
  pub argument_text : List ℕ
  pub fuel_text : List ℕ
  pub proof_name : List ℕ
  pub words : invocation ≡ calls Audit (program_name ∷ role_name ∷ image_name ∷ argument_text ∷ fuel_text ∷ proof_name ∷ [])
  pub role : NamesRole OfState program_name role_name fuel_text files call.role
  pub inputs : NamesInputs image_name argument_text files call
  pub proof_file : files proof_name ≡ Some proof

-- nowhere do the pieces that the proof offers split from the honest ones
abbrev pub SplitsNowhere : IdealCall → List ℕ → Type 0
SplitsNowhere call proof = HasNoSplit sha256 (called_program call) call.role.role call.state call.argument call.role.fuel proof

-- the pieces that the proof offers split there from the honest ones, and these are the two pieces
abbrev pub SplitsAt : IdealCall → List ℕ → Split → Type 0
SplitsAt call proof split =
    IsSplit sha256 (called_program call).format (offered_in (called_program call).format proof)
    (honest_pieces sha256 (called_program call) call.role.role (values_called call) call.role.fuel) split

-- The collision was told: the first offered piece that differs from the honest one, which has its digest.
pub record ShowsCollision (call : IdealCall) (proof : List ℕ) (old new : Option (List ℕ)) : Type 0 where
  pub split : Split
  pub is_split : SplitsAt call proof split
  pub line : new ≡ append_known old (collision_line split.place split.offered split.honest split.print)

-- The verifier, given no more than the spellings of the projected state and of the argument, rejects the proof. Its cause was told.
pub record RejectsProof (call : IdealCall) (proof : List ℕ) (old new : Option (List ℕ)) : Type 0 where
  pub no_split : SplitsNowhere call proof
  pub cause : Cause
  pub rejected : role_verdict (client_call call) proof ≡ Rejected cause
  pub line : new ≡ append_known old (rejected_line cause)

-- The verifier accepts the proof with the projection of the ideal outcome, and the offered pieces are the honest ones. The outcome was
-- told, with its status.
pub record AgreesOnOutcome (call : IdealCall) (proof : List ℕ) (status : Status) (old new : Option (List ℕ)) : Type 0 where
  pub no_split : SplitsNowhere call proof
  pub honest : offered_in (called_program call).format proof ≡ call_pieces call
  pub accepted : role_verdict (client_call call) proof ≡ Accepted (projected_outcome call)
  pub status_told : (shallow_told call.role (projected_outcome call)).status ≡ status
  pub line : new ≡ append_known old (concat (agreeing (shallow_told call.role (projected_outcome call))).lines)

-- what an audit of a proof of the call says that ended in this status, which is one of an audit
abbrev pub AuditSays : IdealCall → List ℕ → Status → (old new : Option (List ℕ)) → Type 0
AuditSays call proof status.Collision old new = ShowsCollision call proof old new
AuditSays call proof status.Rejected old new = RejectsProof call proof old new
AuditSays call proof ended old new = AgreesOnOutcome call proof ended old new

-- the status of an outcome, of a rejection or of a collision, by its number
abbrev pub TellsAnAudit : ℕ → Type 0
TellsAnAudit number = TellsOutcome number ⊎ ((number ≡ 5) ⊎ (number ≡ 11))

-- The headline of a run of `audit` that ended in such a status. The command means a call and a proof of it, and what was told is so:
-- status 11 came exactly where the offered pieces split from the honest ones.
pub record IsAudited (invocation : Invocation) (files : Contents) (old new : Outside) (ended : Status) : Type 0 where
  pub call : IdealCall
  pub proof : List ℕ
  pub calls : CallsAudit invocation files call proof
  pub says : AuditSays call proof ended old.written new.written
