-- What a run of `fetch` says of the ideal run, in the words of its command line and its files.
use Rattle.std.specs.Prelude.{◌≡◌, ℕ, List, [], ◌∷◌, Some}
use Rattle.std.specs.List.{concat}
use Rattle.std.specs.Io.KnownBytes.{append_known}
use Rattle.command_words.specs.Invocations.{calls, invocation_of}
use Rattle.command_words.specs.declared.command.Command.TheVariants.{Fetch}
use Rattle.sha2.specs.Sha256.{sha256}
use Rattle.lam_outside.specs.Told.{Contents, AddsStores}
use Rattle.core_terms.specs.Values.{Value}
use Rattle.ideal_meaning.specs.Checked.{Accepted}
use Rattle.ideal_meaning.specs.Fetched.{Got, TrueFromOrSplit, answered}
use Rattle.ideal_meaning.specs.Frames.{offered_pieces}
use Rattle.ideal_meaning.specs.Headline.{call_values}
use Rattle.ideal_meaning.specs.Ideal.{Outcome}
use Rattle.piece_mirror.specs.Files.{Holds}
use Rattle.piece_mirror.specs.Answers.{given_by}
use Rattle.command_parts.specs.Answer.{mirror_read}
use Rattle.command_parts.specs.AcceptedAnswers.{shallow_told}
use Rattle.command_parts.specs.Outsides.{Outside}
use Rattle.fetched_verdicts.specs.Verdicts.{AreAnswersOf}
use Rattle.command_parts.specs.FueledRoles.{FueledRole}
use Rattle.command_parts.specs.RoleCalls.{program_called, result_called}
use Rattle.call_commands.specs.TrueLines.{MeansCall, TellsOutcome}
use Rattle.command_parts.specs.declared.roles.Callee.TheVariants.{OfState}

-- The words call `fetch` on files and arguments that mean such a call, over a mirror with these pieces, which anybody may have made.
pub record CallsFetch (line : List (List ℕ)) (files : Contents) (r : FueledRole) (state argument : Value) (pieces : List (List ℕ)) : Type 0 where
  pub program_name : List ℕ
  pub role_name : List ℕ
  pub state_name : List ℕ
  pub argument_text : List ℕ
  pub fuel_text : List ℕ
  pub mirror_name : List ℕ
  pub words : invocation_of line ≡ Some (calls Fetch (program_name ∷ role_name ∷ state_name ∷ argument_text ∷ fuel_text ∷ mirror_name ∷ []))
  pub call : MeansCall OfState program_name role_name state_name argument_text fuel_text files r state argument
  pub mirror : List ℕ
  pub mirror_file : files mirror_name ≡ Some mirror
  pub held : mirror_read mirror ≡ Holds pieces

-- Whatever ideal state and argument and whatever mirror the words and files stand for: where the status is that of an outcome, the line of an
-- outcome was written and nothing stored. The mirror gave answers, each to the digest then held, up to the end of the run with this outcome;
-- and their pieces are the honest ones and the outcome is the projection of the ideal one, or the first piece that differs from the honest one
-- has its digest, and its place is named.
abbrev pub IsTrueFetch : List (List ℕ) → Contents → Outside → Outside → ℕ → Type 0
IsTrueFetch line files old new number =
    (r : FueledRole) (state argument : Value) (pieces : List (List ℕ)) → CallsFetch line files r state argument pieces → TellsOutcome number
    → (o : Outcome) × (new.written ≡ append_known old.written (concat (shallow_told r o).lines)) × AddsStores old.stores new.stores []
    × ((answers : List Got) × AreAnswersOf sha256 (given_by sha256 pieces) answers (Accepted o)
    × TrueFromOrSplit sha256 (program_called r) r.role (result_called r) (call_values state argument) r.fuel (offered_pieces (answered answers)) [] o)
