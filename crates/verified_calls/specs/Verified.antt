-- What a call whose file was verified says.
use Rattle.std.specs.Prelude.{◌≡◌, ℕ, List, Ok}
use Rattle.core_terms.specs.Formats.{Hash}
use Rattle.core_terms.specs.Roles.{argument_type}
use Rattle.core_terms.specs.Terms.{Program}
use Rattle.core_terms.specs.declared.program.FunctionId.{FunctionId}
use Rattle.ideal_meaning.specs.Checked as checked
use Rattle.verifier_mode.specs.Verdicts.{AnswersVerdict}
use Rattle.verified_calls.specs.declared.call.VerifiedCall.{VerifiedCall}

-- it is this call, with this proof file
pub record IsCallOf (role : FunctionId) (state argument : List ℕ) (fuel : ℕ) (file : List ℕ) (call : VerifiedCall) : Type 0 where
  pub of_role : call.role ≡ role
  pub of_state : call.state ≡ state
  pub of_argument : call.argument ≡ argument
  pub of_fuel : call.fuel ≡ fuel
  pub of_file : call.file.items ≡ file

-- the verdict on its file is that it is accepted, with its outcome
abbrev pub IsVerified : Hash → Program → VerifiedCall → Type 0
IsVerified hash P call = AnswersVerdict P call.role.0 (checked.verdict hash P (argument_type P call.role.0) call.role.0 call.state call.argument call.fuel call.file.items) (Ok call.outcome)
