-- The law of the verdicts that `verify` tells.
use Rattle.std.specs.Prelude.{◌≡◌, ℕ, List}
use Rattle.core_terms.specs.Reading.{Good}
use Rattle.core_terms.specs.RoleTypes.{ReadsState}
use Rattle.core_terms.specs.Spelling.{spelling}
use Rattle.core_terms.specs.Values.{Value}
use Rattle.printed_syntax.specs.Literals.{IsValue}
use Rattle.collision_audit.specs.Audits.{IsOnProof}
use Rattle.command_parts.specs.RoleInputs.{role_verdict}
use Rattle.command_parts.specs.FileInputs.{state_read}
use Rattle.command_parts.specs.FilePrograms.{program_of_file}
use Rattle.command_parts.specs.FueledRoles.{FueledRole}
use Rattle.command_parts.specs.RoleCalls.{kind_called, passed_literal, program_called}
use Rattle.command_parts.specs.TextPrograms.{IsProgram}

-- Of a query or an update of a program, as a text or as an object: where the bytes of a state are read, and a text is a literal of what is passed, the verdict on
-- each proof of the call is one on the proof. So neither of the two other verdicts is ever told, on the state or on the argument.
abbrev pub VerdictsAreOnProofs : Type 0
VerdictsAreOnProofs =
    (program : List ℕ) (r : FueledRole) → program_of_file program ≡ IsProgram (program_called r) → ReadsState (kind_called r)
    → (state : List ℕ) (s : Value) (rest : List ℕ) (place : ℕ) → state_read (program_called r) state ≡ Good s rest place
    → (argument : List ℕ) (a : Value) → passed_literal r argument ≡ IsValue a
    → (proof : List ℕ) → IsOnProof (role_verdict (record { role = r; state = state; argument = spelling a }) proof)
