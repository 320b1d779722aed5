-- Rows for what a run of `verify` says of the ideal run, and for the programs of texts and objects. What each word takes, and what it refuses.
use Rattle.std.specs.Prelude.{◌≡◌, ◌≤◌, ℕ, true, List, [], ◌∷◌, length, map, drop, Option, Some, None, refl}
use Rattle.std.specs.List.{concat}
use Rattle.std.specs.Io.KnownBytes.{append_known}
use Rattle.std.proofs.Common.{arith, inl, inr}
use Rattle.core_terms.specs.Formats.{first_format, second_format}
use Rattle.core_terms.specs.declared.format.Format.TheVariants.{First, Second}
use Rattle.command_words.specs.Invocations.{calls, invocation_of}
use Rattle.command_words.specs.declared.command.Command.TheVariants.{Verify}
use Rattle.core_terms.specs.Projection.{projection}
use Rattle.core_terms.specs.Roles.{argument_type, role_named}
use Rattle.core_terms.specs.Spelling.{spelling}
use Rattle.core_terms.specs.Terms.{Program}
use Rattle.core_terms.specs.Typing.{is_shaped, is_typed}
use Rattle.core_terms.specs.Values.{IsIdeal, Value}
use Rattle.ideal_meaning.specs.Frames.{header, offered, offered_pieces}
use Rattle.ideal_meaning.specs.Headline.{TrueOrSplit, call_values}
use Rattle.ideal_meaning.specs.Ideal.{Outcome}
use Rattle.lam_outside.specs.Told.{AddsStores, Contents}
use Rattle.printed_syntax.specs.Literals.{IsValue}
use Rattle.sha2.specs.Sha256.{sha256}
use Rattle.command_parts.specs.AcceptedAnswers.{accepted_answer, callee_of}
use Rattle.command_parts.specs.Arguments.{fuel_of}
use Rattle.command_parts.specs.Outsides.{Outside}
use Rattle.command_parts.specs.FilePrograms.{longest_program, program_of_file, IsOfTextOrObject}
use Rattle.command_parts.specs.FueledRoles.{FueledRole}
use Rattle.call_commands.specs.NamedPrograms.{named_program}
use Rattle.command_parts.specs.RoleCalls.{is_called, kind_called, passed_literal, program_called, result_called}
use Rattle.command_parts.specs.SoundPrograms.{GivesSound, IsOfDeclared, IsOneOfTwo, IsOutcome, IsSound}
use Rattle.command_parts.specs.TextPrograms.{FileProgram, IsProgram, program_of_text, types_text_of_text}
use Rattle.call_commands.specs.TrueLines.{CallsVerify, IsTrueLine, TellsOutcome, words_of}
use Rattle.command_parts.specs.declared.status.Status.TheVariants.{Done, Usage, Trap, OutOfFuel, Rejected, ProgramRefused, InputRefused, ReadFault, WriteFault, NoMemory, Collision}

-- OUTCOMES
-- a value, a trap and the end of the fuel are outcomes, and nothing else is
pub outcomes : TellsOutcome 0 × TellsOutcome 3 × TellsOutcome 4 × (TellsOutcome 5 → ⊥)
outcomes = (inl refl, inr (inl refl), inr (inr refl), by)
  where
    by : TellsOutcome 5 → ⊥
    by (inl e) = omega (arith, e)
    by (inr (inl e)) = omega (arith, e)
    by (inr (inr e)) = omega (arith, e)

pub of_outcomes : IsOutcome Done × IsOutcome Trap × IsOutcome OutOfFuel × (IsOutcome Usage → ⊥) × (IsOutcome Rejected → ⊥) × (IsOutcome ProgramRefused → ⊥) × (IsOutcome InputRefused → ⊥)
    × (IsOutcome ReadFault → ⊥) × (IsOutcome WriteFault → ⊥) × (IsOutcome NoMemory → ⊥) × (IsOutcome Collision → ⊥)
of_outcomes = (tt, tt, tt, (λ o. o), (λ o. o), (λ o. o), (λ o. o), (λ o. o), (λ o. o), (λ o. o), (λ o. o))

-- PROGRAMS OF TEXTS AND OBJECTS
pub is_sound : (P : Program) (s : IsSound P) → (is_typed P ≡ true) × (is_shaped P ≡ true) × IsOneOfTwo P.format
is_sound P s = (s.typed, s.shaped, s.format)

pub of_text_or_object : (P : Program) (of : IsOfTextOrObject P) → (length of.bytes ≤ longest_program of.bytes) × (program_of_file of.bytes ≡ IsProgram P)
of_text_or_object P of = (of.fits, of.program)

pub of_declared : (P : Program) (text declared : List ℕ) → program_of_text text ≡ IsProgram P → types_text_of_text text ≡ declared → IsOfDeclared declared P
of_declared P text declared is declares = (text, is, declares)

-- and its format is the first or the second
pub one_of_two : (text : List ℕ) → IsOneOfTwo (first_format 1024) × IsOneOfTwo (second_format text 1024)
one_of_two text = ((First, [], refl), (Second, text, refl))

pub gives_sound : (reading : List ℕ → FileProgram) → GivesSound reading → (bytes : List ℕ) (P : Program) → reading bytes ≡ IsProgram P → IsSound P
gives_sound reading gives = gives

-- A RUN OF `verify`
-- a name for the new state is the last word, where there is one
pub words : map words_of (None ∷ Some (7 ∷ []) ∷ []) ≡ [] ∷ ((7 ∷ []) ∷ []) ∷ []
words = refl

module _ (line : List (List ℕ)) (files : Contents) (r : FueledRole) (state argument : Value) (proof : List ℕ) (out : Option (List ℕ)) where
  -- what the words of a line call
  pub words_call : (c : CallsVerify line files r state argument proof out)
      → (invocation_of line ≡ Some (calls Verify (c.program_name ∷ c.role_name ∷ c.state_name ∷ c.argument_text ∷ c.fuel_text ∷ c.proof_name ∷ words_of out)))
      × (role_named (program_called r) c.role_name ≡ Some r.role) × (is_called (callee_of out) (kind_called r) ≡ true) × (fuel_of c.fuel_text ≡ Some r.fuel)
  words_call c = (c.words, c.call.role, c.call.called, c.call.fuel)

  -- what its files hold
  pub files_hold : (c : CallsVerify line files r state argument proof out) → (files c.program_name ≡ Some c.call.bytes) × (program_of_file c.call.bytes ≡ IsProgram (program_called r))
      × (r.program ≡ named_program c.call.bytes (program_called r)) × IsIdeal (program_called r).types (program_called r).state state
      × (files c.state_name ≡ Some (spelling (projection sha256 (program_called r) (program_called r).state state))) × (files c.proof_name ≡ Some proof)
  files_hold c = (c.call.program_file, c.call.program, c.call.named, c.call.ideal_state, c.call.state_file, c.proof_file)

  pub argument_is : (c : CallsVerify line files r state argument proof out) → IsIdeal (program_called r).types (argument_type (program_called r) r.role) argument
      × (passed_literal r c.argument_text ≡ IsValue (projection sha256 (program_called r) (argument_type (program_called r) r.role) argument))
  argument_is c = (c.call.ideal_argument, c.call.argument_is)

  -- where the status is that of an outcome, it is told and stored, and is the ideal one's projection, or there is a split
  pub line_is_true : (old new : Outside) (number : ℕ) → IsTrueLine line files old new number → CallsVerify line files r state argument proof out → TellsOutcome number
      → let P = program_called r in
      (o : Outcome) × (new.written ≡ append_known old.written (concat (accepted_answer r out o).lines)) × AddsStores old.stores new.stores (accepted_answer r out o).stored
      × ((n : ℕ) × (header P.format proof ≡ Some n)
      × TrueOrSplit sha256 P r.role (result_called r) (call_values state argument) r.fuel (offered_pieces (offered P.format.limit (drop 6 proof) n [])) o)
  line_is_true old new number is called tells = is r state argument proof out called tells
