-- Calls of a query or an update on an ideal state: how they end in projection, their proofs, and audits of proofs of them.
use Rattle.std.specs.Prelude.{ℕ, List, [], length, count_by, Bool, true, false}
use Rattle.sha2.specs.Sha256.{sha256}
use Rattle.core_terms.specs.Values.{Value, Values}
use Rattle.core_terms.specs.Roles.{argument_type}
use Rattle.core_terms.specs.Terms.{Program}
use Rattle.ideal_meaning.specs.Ideal.{Outcome, bytes_of, honest_pieces, outcome_projection}
use Rattle.ideal_meaning.specs.Frames.{Frame, New, Use, honest_frames, proof_file}
use Rattle.ideal_meaning.specs.Headline.{call_values}
use Rattle.printed_lines.specs.Lines.{proof_line}
use Rattle.collision_audit.specs.Audits.{Audit, audit_of}
use Rattle.command_parts.specs.FueledRoles.{FueledRole}
use Rattle.command_parts.specs.RoleCalls.{EndedRole, ended_with, outcome_called, program_called, result_called}

-- a call of a query or an update, on an ideal state and argument
pub record IdealCall : Type 0 where
  pub role : FueledRole
  pub state : Value
  pub argument : Value

abbrev pub called_program : IdealCall → Program
called_program call = program_called call.role

-- the values that its function is called with
abbrev pub values_called : IdealCall → Values
values_called call = call_values call.state call.argument

-- the role, and how it ends
abbrev pub ended_call : IdealCall → EndedRole
ended_call call = ended_with call.role (values_called call)

-- how it ends, in projection: all that whoever holds no more than digests may learn of it
unfoldable pub projected_outcome : IdealCall → Outcome
projected_outcome call = outcome_projection sha256 (called_program call) (result_called call.role) (outcome_called call.role (values_called call))

-- its honest pieces
unfoldable pub call_pieces : IdealCall → List (List ℕ)
call_pieces call = bytes_of (honest_pieces sha256 (called_program call) call.role.role (values_called call) call.role.fuel)

-- the frames of its proof, where n pieces are kept, and the proof file
abbrev pub call_frames : IdealCall → ℕ → List Frame
call_frames call n = honest_frames n [] (call_pieces call)

abbrev pub call_proof : IdealCall → ℕ → List ℕ
call_proof call n = proof_file (called_program call).format n (call_pieces call)

-- a frame has a piece of its own; or it names one again
abbrev pub is_new : Frame → Bool
is_new (New bytes) = true
is_new (Use k) = false

abbrev pub is_used : Frame → Bool
is_used (New bytes) = false
is_used (Use k) = true

-- the line of its proof
abbrev pub call_proof_line : IdealCall → ℕ → List ℕ
call_proof_line call n = proof_line (count_by is_new (call_frames call n)) (count_by is_used (call_frames call n)) (length (call_proof call n))

-- what the audit of a proof of it comes to, which anybody may have made
unfoldable pub call_audit : IdealCall → List ℕ → Audit
call_audit call proof =
    let P = called_program call in
    audit_of sha256 P (argument_type P call.role.role) call.role.role call.state call.argument call.role.fuel proof
