-- The proof of a call that the words and the files name is accepted, by the headline's companion.
use Rattle.std.proofs.Common.{◌≡◌, ℕ, ◌≤◌, List, sym, ap, ◌∙◌, subst}
use Rattle.sha2.specs.Sha256.{sha256}
use Rattle.sha2.proofs.Facts256.{length-sha256}
use Rattle.lam_outside.specs.Told.{Contents}
use Rattle.core_terms.specs.Spelling.{spelling}
use Rattle.core_terms.specs.Terms.{function_at}
use Rattle.core_terms.specs.Types.{Ty}
use Rattle.core_terms.specs.Values.{Value}
use Rattle.core_terms.specs.Projection.{digest_at, projection}
use Rattle.core_terms.specs.Roles.{argument_type}
use Rattle.core_terms.proofs.LawProofs.{plain_is_own_projection}
use Rattle.ideal_meaning.specs.Checked.{Accepted, verdict}
use Rattle.ideal_meaning.specs.Headline.{call_values}
use Rattle.ideal_meaning.specs.Ideal.{ideal, outcome, outcome_projection}
use Rattle.ideal_meaning.proofs.Companion.{companion}
use Rattle.printed_syntax.specs.LiteralLaws.{IsLiteralValue}
use Rattle.printed_syntax.proofs.LiteralsReadBack.{literals_are_read_back}
use Rattle.command_parts.specs.OutcomeAnswers.{state_projection}
use Rattle.command_parts.specs.RoleInputs.{role_verdict}
use Rattle.command_parts.specs.FileInputs.{image_read}
use Rattle.command_parts.specs.IdealCalls.{IdealCall, call_pieces, call_proof, called_program, projected_outcome}
use Rattle.call_commands.specs.NamedCalls.{NamesInputs, NamesRole}
use Rattle.call_commands.specs.ProvedCalls.{IsAcceptedCall}
use Rattle.command_parts.specs.RoleCalls.{named_literal, outcome_called, type_passed}
use Rattle.command_parts.specs.declared.roles.Callee.TheVariants.{OfState}
use Rattle.images.proofs.ImageRoots.{IsKept, root_is_kept}
use Rattle.call_commands.proofs.OnProofs.{passed_behind}
use Rattle.call_commands.proofs.SoundRoles.{IsReader, named_reader}

-- A call of a role that reads a state, on an ideal state and an ideal argument within the limits; nothing is authenticated in the argument.
pub record IsMeant (call : IdealCall) : Type 0 where
  pub reader : IsReader (called_program call) call.role.role
  pub state : IsKept (called_program call) (called_program call).state call.state
  pub argument : IsLiteralValue (called_program call) (argument_type (called_program call) call.role.role) call.argument

pub call_is_meant : (program role image argument fuel : List ℕ) (files : Contents) (call : IdealCall) → NamesRole OfState program role fuel files call.role
    → NamesInputs image argument files call → IsMeant call
unfolding image_read named_literal
call_is_meant program role image argument fuel files call names inputs =
    let r = call.role in
    let P = called_program call in
    let reader = named_reader OfState tt program role fuel files r names in
    record {
      reader = reader;
      state = root_is_kept P r.program.digested.digest inputs.image_file.image call.state inputs.image_file.root;
      argument =
          subst (λ (t : Ty). IsLiteralValue P t call.argument) (passed_behind r reader.reads)
          (literals_are_read_back P reader.format.limit_fits r.program.names (type_passed r) argument call.argument inputs.argument);
    }

-- the spelling of the argument is that of its projection
pub own_projection : (call : IdealCall) → IsMeant call
    → projection sha256 (called_program call) (argument_type (called_program call) call.role.role) call.argument ≡ call.argument
own_projection call meant =
    let P = called_program call in
    plain_is_own_projection (digest_at sha256 P) P.types (argument_type P call.role.role) call.argument meant.reader.role.plain meant.argument.ideal

pub call_is_accepted : (call : IdealCall) (n : ℕ) → IsMeant call → n ≤ (called_program call).format.most_kept → IsAcceptedCall call n
unfolding role_verdict call_pieces projected_outcome outcome_called state_projection
call_is_accepted call n meant few =
    let P = called_program call in
    let f = call.role.role in
    let k = call.role.fuel in
    let t = argument_type P f in
    let s = call.state in
    let x = call.argument in
    let reader = meant.reader in
    let accepted =
    companion sha256 length-sha256 P reader.format reader.typed f (function_at P f).kind t reader.answer reader.role reader.reads s x meant.state.ideal
    meant.argument.ideal
    meant.state.fits meant.argument.fits meant.state.deep k n few in
    subst (λ (own : Value). verdict sha256 P t f (spelling (projection sha256 P P.state s)) (spelling own) k (call_proof call n) ≡ Accepted (projected_outcome call))
    (own_projection call meant)
    (accepted ∙ ap (λ (t : Ty). Accepted (outcome_projection sha256 P t (outcome (ideal P f (call_values s x) k)))) (sym reader.result))
