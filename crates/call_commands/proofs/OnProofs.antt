-- The verdict on a call whose state is read, and whose argument is the value of a literal.
use Rattle.std.proofs.Common.{◌≡◌, ◌<◌, ◌^◌, ℕ, List, [], refl, ap, sym, subst, slice_index_or}
use Rattle.sha2.specs.Sha256.{sha256}
use Rattle.core_terms.specs.Projection.{read_at}
use Rattle.core_terms.specs.Reading.{Read, Good}
use Rattle.core_terms.specs.Roles.{argument_place, argument_type}
use Rattle.core_terms.specs.RoleTypes.{ReadsState}
use Rattle.core_terms.specs.Spelling.{spelling}
use Rattle.core_terms.specs.Terms.{Kind, Inner, Init, Query, Update, Program, function_at}
use Rattle.core_terms.specs.Types.{Ty, UnitTy}
use Rattle.core_terms.specs.Values.{Value, NoV, AndV}
use Rattle.printed_syntax.specs.LiteralLaws.{IsLiteralValue}
use Rattle.printed_syntax.proofs.LiteralsReadBack.{literals_are_read_back}
use Rattle.ideal_meaning.specs.Frames.{header}
use Rattle.collision_audit.specs.Audits.{IsOnProof}
use Rattle.collision_audit.proofs.OnProof.{header_is_on_proof}
use Rattle.ideal_meaning.specs.Checked.{verdict, with_argument, with_state}
use Rattle.command_parts.specs.RoleInputs.{role_verdict}
use Rattle.command_parts.specs.FileInputs.{state_read}
use Rattle.command_parts.specs.FueledRoles.{FueledRole}
use Rattle.command_parts.specs.RoleCalls.{kind_called, named_literal, program_called, type_passed}
use Rattle.call_commands.specs.VerdictLaws.{VerdictsAreOnProofs}
use Rattle.command_parts.proofs.SoundFiles.{file_is_sound, sound_format}

-- what is passed to a role that reads a state is its second parameter
behind_state : (kind : Kind) → ReadsState kind → argument_place kind ≡ 1
behind_state Query reads = refl
behind_state Update reads = refl
behind_state Init reads = absurd reads
behind_state Inner reads = absurd reads

pub passed_behind : (r : FueledRole) → ReadsState (kind_called r) → type_passed r ≡ argument_type (program_called r) r.role
passed_behind r reads = ap (λ place. slice_index_or (function_at (program_called r) r.role).parameters place UnitTy) (behind_state (kind_called r) reads)

-- where both are read, the verdict is on the proof
both_read : (P : Program) (t : Ty) (state argument : List ℕ) (s a : Value) (rest end : List ℕ) (place other : ℕ) → read_at P P.state state ≡ Good s rest place
    → read_at P t argument ≡ Good a end other → (f k : ℕ) (proof : List ℕ) → IsOnProof (verdict sha256 P t f state argument k proof)
both_read P t state argument s a rest end place other state_is argument_is f k proof =
    subst IsOnProof (sym (ap (λ (r : Read Value). with_state sha256 P t r argument f k proof) state_is))
    (subst IsOnProof (sym (ap (λ (r : Read Value). with_argument sha256 P s r f k proof) argument_is))
    (header_is_on_proof sha256 P (header P.format proof) f (AndV s (AndV a NoV)) k proof))

pub verdicts_are_on_proofs : VerdictsAreOnProofs
unfolding role_verdict named_literal state_read
verdicts_are_on_proofs program r is reads state s rest place state_is argument a argument_is proof =
    let P = program_called r in
    let fits : P.format.limit < 2 ^ 32 = (sound_format P (file_is_sound program P is)).limit_fits in
    let written : IsLiteralValue P (type_passed r) a = literals_are_read_back P fits r.program.names (type_passed r) argument a argument_is in
    subst (λ t. IsOnProof (verdict sha256 P t r.role state (spelling a) r.fuel proof)) (passed_behind r reads)
    (both_read P (type_passed r) state (spelling a) s a rest [] place written.read_back.0 state_is written.read_back.1 r.role r.fuel proof)
