-- What a run of `prove` says of the verifier, in the words of its command line and its files.
use Rattle.std.specs.Prelude.{◌≡◌, ℕ, true, List, [], ◌∷◌, ◌++◌, Option, Some}
use Rattle.std.specs.List.{concat}
use Rattle.std.specs.Io.KnownBytes.{append_known}
use Rattle.command_words.specs.Invocations.{Invocation, calls}
use Rattle.command_words.specs.declared.command.Command.TheVariants.{Prove}
use Rattle.lam_outside.specs.Told.{Contents, AddsStores}
use Rattle.core_terms.specs.Spelling.{spelling}
use Rattle.ideal_meaning.specs.Checked.{Accepted}
use Rattle.command_parts.specs.Answer.{judged_answer}
use Rattle.command_parts.specs.AcceptedAnswers.{accepted_answer, callee_of, shallow_told}
use Rattle.command_parts.specs.OutcomeAnswers.{state_projection}
use Rattle.command_parts.specs.RoleInputs.{RoleCall, role_verdict}
use Rattle.number_words.specs.Numbers.{number_within}
use Rattle.command_parts.specs.Outsides.{Outside}
use Rattle.command_parts.specs.IdealCalls.{IdealCall, call_proof, call_proof_line, called_program, projected_outcome}
use Rattle.call_commands.specs.NamedCalls.{NamesInputs, NamesRole}
use Rattle.command_parts.specs.RoleCalls.{is_called, kind_called}
use Rattle.command_parts.specs.declared.roles.Callee.TheVariants.{OfState}
use Rattle.command_parts.specs.declared.status.Status.{Status}

-- The call as a client makes it, who holds the spelling of the state's projection, as `shallow` stores it, and that of the argument.
abbrev pub client_call : IdealCall → RoleCall
client_call call = record { role = call.role; state = spelling (state_projection (called_program call) call.state); argument = spelling call.argument }

-- The proof file of the call, where n pieces are kept, is accepted from the client, with the projection of the ideal outcome.
abbrev pub IsAcceptedCall : IdealCall → ℕ → Type 0
IsAcceptedCall call n = role_verdict (client_call call) (call_proof call n) ≡ Accepted (projected_outcome call)

-- the command is `prove` on files and texts that name this call, the number of pieces that are kept, and the file that is stored
pub record CallsProve (invocation : Invocation) (files : Contents) (call : IdealCall) (n : ℕ) (out : List ℕ) : Type 0 where
  pub program_name : List ℕ
  pub role_name : List ℕ
  pub image_name : List ℕ
  pub argument_text : List ℕ
  pub fuel_text : List ℕ
  pub kept_text : List ℕ
  pub words : invocation ≡ calls Prove (program_name ∷ role_name ∷ image_name ∷ argument_text ∷ fuel_text ∷ kept_text ∷ out ∷ [])
  pub role : NamesRole OfState program_name role_name fuel_text files call.role
  pub kept : number_within (called_program call).format.most_kept kept_text ≡ Some n
  pub inputs : NamesInputs image_name argument_text files call

-- Whatever files hold the bytes of the program, what `shallow` stores of the state, and this proof: `verify` answers it with the line and
-- the status of the outcome. Of an update, where a name is given for the new state, it stores there the spelling of the new state's
-- projection.
abbrev pub IsVerified : (call : IdealCall) → ℕ → (bytes role argument fuel : List ℕ) → Type 0
IsVerified call n bytes role argument fuel =
    (program state proof : List ℕ) (out : Option (List ℕ)) (files : Contents) → is_called (callee_of out) (kind_called call.role) ≡ true
    → files program ≡ Some bytes → files state ≡ Some (client_call call).state → files proof ≡ Some (call_proof call n)
    → judged_answer program role state argument fuel proof out files ≡ Some (accepted_answer call.role out (projected_outcome call))

-- The companion of a run of `prove` that ended with the status of an outcome. The command means a call; its proof was stored, and the
-- line of its projected outcome written, and then that of the proof. Given no more than the spellings of the projected state and of the
-- argument, this very proof is accepted with this outcome: `verify` answers it with the status of the run, and with that line.
pub record IsProved (invocation : Invocation) (files : Contents) (old new : Outside) (status : Status) : Type 0 where
  pub call : IdealCall
  pub kept : ℕ
  pub out : List ℕ
  pub calls : CallsProve invocation files call kept out
  pub status_told : (shallow_told call.role (projected_outcome call)).status ≡ status
  pub written : new.written ≡ append_known old.written (concat ((shallow_told call.role (projected_outcome call)).lines ++ call_proof_line call kept ∷ []))
  pub stored : AddsStores old.stores new.stores ((out, call_proof call kept) ∷ [])
  pub accepted : IsAcceptedCall call kept
  pub verified : IsVerified call kept calls.role.program_file.bytes calls.role_name calls.argument_text calls.fuel_text
