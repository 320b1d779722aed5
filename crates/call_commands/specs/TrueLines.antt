-- What a run of `verify` says of the ideal run, in the words of its command line and its files.
use Rattle.std.specs.Prelude.{◌≡◌, ◌⊎◌, ℕ, true, List, [], ◌∷◌, drop, Option, Some, None}
use Rattle.std.specs.List.{concat}
use Rattle.std.specs.Io.KnownBytes.{append_known}
use Rattle.command_words.specs.Invocations.{calls, invocation_of}
use Rattle.command_words.specs.declared.command.Command.TheVariants.{Verify}
use Rattle.sha2.specs.Sha256.{sha256}
use Rattle.lam_outside.specs.Told.{Contents, AddsStores}
use Rattle.core_terms.specs.Values.{Value, IsIdeal}
use Rattle.core_terms.specs.Spelling.{spelling}
use Rattle.core_terms.specs.Projection.{projection}
use Rattle.core_terms.specs.Roles.{argument_type, role_named}
use Rattle.printed_syntax.specs.Literals.{IsValue}
use Rattle.ideal_meaning.specs.Ideal.{Outcome}
use Rattle.ideal_meaning.specs.Frames.{offered, offered_pieces, header}
use Rattle.ideal_meaning.specs.Headline.{TrueOrSplit, call_values}
use Rattle.command_parts.specs.AcceptedAnswers.{accepted_answer, callee_of}
use Rattle.command_parts.specs.Arguments.{fuel_of}
use Rattle.command_parts.specs.Outsides.{Outside}
use Rattle.command_parts.specs.FilePrograms.{program_of_file}
use Rattle.command_parts.specs.FueledRoles.{FueledRole}
use Rattle.call_commands.specs.NamedPrograms.{named_program}
use Rattle.command_parts.specs.RoleCalls.{is_called, kind_called, passed_literal, program_called, result_called}
use Rattle.command_parts.specs.TextPrograms.{IsProgram}
use Rattle.command_parts.specs.declared.roles.Callee.{Callee}

-- the word of the name that the new state is stored under, where there is one
abbrev pub words_of : Option (List ℕ) → List (List ℕ)
words_of None = []
words_of (Some out) = out ∷ []

-- The files and texts of a command line mean a query or an update of a program, of a kind that the command calls, with so much fuel, on an ideal
-- state and an ideal argument. The state's file has the spelling of its projection, and the argument is a literal of its own.
pub record MeansCall (callee : Callee) (program_name role_name state_name argument_text fuel_text : List ℕ) (files : Contents) (r : FueledRole) (state argument : Value) : Type 0 where
  pub bytes : List ℕ
  pub program_file : files program_name ≡ Some bytes
  pub program : program_of_file bytes ≡ IsProgram (program_called r)
  pub named : r.program ≡ named_program bytes (program_called r)
  pub role : role_named (program_called r) role_name ≡ Some r.role
  pub called : is_called callee (kind_called r) ≡ true
  pub fuel : fuel_of fuel_text ≡ Some r.fuel
  pub ideal_state : IsIdeal (program_called r).types (program_called r).state state
  pub state_file : files state_name ≡ Some (spelling (projection sha256 (program_called r) (program_called r).state state))
  pub ideal_argument : IsIdeal (program_called r).types (argument_type (program_called r) r.role) argument
  pub argument_is : passed_literal r argument_text ≡ IsValue (projection sha256 (program_called r) (argument_type (program_called r) r.role) argument)

-- The words call `verify` on files and arguments that mean such a call, and on a proof, whose file has any bytes; and they name a file for the new
-- state, or none. Where there is a name, it is an update.
pub record CallsVerify (line : List (List ℕ)) (files : Contents) (r : FueledRole) (state argument : Value) (proof : List ℕ) (out : Option (List ℕ)) : Type 0 where
  pub program_name : List ℕ
  pub role_name : List ℕ
  pub state_name : List ℕ
  pub argument_text : List ℕ
  pub fuel_text : List ℕ
  pub proof_name : List ℕ
  pub words : invocation_of line ≡ Some (calls Verify (program_name ∷ role_name ∷ state_name ∷ argument_text ∷ fuel_text ∷ proof_name ∷ words_of out))
  pub call : MeansCall (callee_of out) program_name role_name state_name argument_text fuel_text files r state argument
  pub proof_file : files proof_name ≡ Some proof

-- the statuses of an outcome
abbrev pub TellsOutcome : ℕ → Type 0
TellsOutcome number = (number ≡ 0) ⊎ ((number ≡ 3) ⊎ (number ≡ 4))

-- The headline of a run. Whatever ideal state and argument the words and files stand for: where the status is that of an outcome, the
-- line of an outcome was written, the spelling of its new state stored where there is a name for it, and the outcome is the projection of
-- the ideal one; or the first offered piece that differs from the honest one has its digest, and its place is named.
abbrev pub IsTrueLine : List (List ℕ) → Contents → Outside → Outside → ℕ → Type 0
IsTrueLine line files old new number =
    (r : FueledRole) (state argument : Value) (proof : List ℕ) (out : Option (List ℕ)) → CallsVerify line files r state argument proof out → TellsOutcome number
    → let P = program_called r in
    (o : Outcome) × (new.written ≡ append_known old.written (concat (accepted_answer r out o).lines)) × AddsStores old.stores new.stores (accepted_answer r out o).stored
    × ((n : ℕ) × (header P.format proof ≡ Some n)
    × TrueOrSplit sha256 P r.role (result_called r) (call_values state argument) r.fuel (offered_pieces (offered P.format.limit (drop 6 proof) n [])) o)
