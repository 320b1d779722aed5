-- Roles of sound programs that read a state, and the headline of a call of one.
use Rattle.std.proofs.Common.{◌≡◌, ℕ, ◌<◌, true, List, [], ◌++◌, drop, length, Some, Option, None, slice_index_or, unwrap_or, refl, sym, ap, subst}
use Rattle.sha2.specs.Sha256.{sha256}
use Rattle.sha2.proofs.Facts256.{length-sha256}
use Rattle.lam_outside.specs.Told.{Contents}
use Rattle.core_terms.specs.Formats.{Format, IsFormat}
use Rattle.core_terms.specs.Types.{Ty, UnitTy}
use Rattle.core_terms.specs.Values.{Value, IsIdeal}
use Rattle.core_terms.specs.Spelling.{spelling}
use Rattle.core_terms.specs.Terms.{Kind, Inner, Init, Query, Update, Program, function_at}
use Rattle.core_terms.specs.TypingRules.{IsTyped}
use Rattle.core_terms.specs.Roles.{argument_type, is_entered}
use Rattle.core_terms.specs.RoleTypes.{IsRole, ReadsState, role_result}
use Rattle.core_terms.specs.Projection.{projection}
use Rattle.core_terms.proofs.CodePrograms.{there}
use Rattle.core_terms.proofs.LawProofs.{typing_test_is_exact, shape_test_is_exact}
use Rattle.ideal_meaning.specs.Ideal.{Outcome}
use Rattle.ideal_meaning.specs.Checked.{Accepted}
use Rattle.ideal_meaning.specs.Fetched.{Got, TrueFromOrSplit, answered}
use Rattle.ideal_meaning.specs.Frames.{offered, offered_pieces, header}
use Rattle.ideal_meaning.specs.Headline.{TrueOrSplit, call_values}
use Rattle.ideal_meaning.specs.PieceForms.{IsOfWhole}
use Rattle.ideal_meaning.proofs.Headline.{headline}
use Rattle.ideal_meaning.proofs.RoleCalls.{parameters_are, result_is}
use Rattle.piece_mirror.specs.Answers.{given_by}
use Rattle.command_parts.specs.Answer.{fetched_verdict}
use Rattle.command_parts.specs.AcceptedAnswers.{callee_of}
use Rattle.command_parts.specs.RoleInputs.{role_verdict}
use Rattle.fetched_verdicts.specs.Verdicts.{AreAnswersOf}
use Rattle.command_parts.specs.FueledRoles.{FueledRole}
use Rattle.call_commands.specs.NamedCalls.{NamesRole}
use Rattle.command_parts.specs.RoleCalls.{kind_called, program_called, result_called}
use Rattle.command_parts.specs.RolesCalled.{CallsOnStates}
use Rattle.command_parts.specs.SoundPrograms.{IsSound}
use Rattle.command_parts.specs.declared.roles.Callee.{Callee}
use Rattle.command_parts.proofs.RoleShapes.{calls_reads}
use Rattle.call_commands.proofs.RolesByName.{role_within}
use Rattle.command_parts.proofs.SoundFiles.{file_is_sound, sound_format}
use Rattle.fetched_verdicts.proofs.TrueOverStores.{true_over}

-- the roles that `verify` calls read a state
pub callee_reads : (out : Option (List ℕ)) → CallsOnStates (callee_of out)
callee_reads None = tt
callee_reads (Some out) = tt

reader_entered : (kind : Kind) → ReadsState kind → is_entered kind ≡ true
reader_entered Query reads = refl
reader_entered Update reads = refl
reader_entered Init reads = absurd reads
reader_entered Inner reads = absurd reads

-- Function f is a role of a sound program, and reads a state: it takes the state and an argument.
pub record IsReader (P : Program) (f : ℕ) : Type 0 where
  pub typed : IsTyped P
  pub format : IsFormat P.format
  pub reads : ReadsState (function_at P f).kind
  pub answer : Ty
  pub role : IsRole P f (function_at P f).kind (argument_type P f) answer
  pub result : (function_at P f).result ≡ role_result (function_at P f).kind P.state answer

-- a role of one that reads a state is such
pub reader : (P : Program) (f : ℕ) → IsSound P → f < length P.functions → ReadsState (function_at P f).kind → IsReader P f
reader P f sound within reads =
    let g = function_at P f in
    let found = (shape_test_is_exact P).0 sound.shaped f g (there P f within) (reader_entered g.kind reads) in
    let own : argument_type P f ≡ found.0 = ap (λ ts. slice_index_or ts 1 UnitTy) (parameters_are P f g.kind found.0 found.1 found.2 reads) in
    record {
      typed = (typing_test_is_exact P).0 sound.typed;
      format = sound_format P sound;
      reads = reads;
      answer = found.1;
      role = subst (λ t. IsRole P f g.kind t found.1) (sym own) found.2;
      result = result_is P f g.kind found.0 found.1 found.2;
    }

-- a role that the words name is one, where the command calls roles on states
pub named_reader : (callee : Callee) → CallsOnStates callee → (program role fuel : List ℕ) (files : Contents) (r : FueledRole)
    → NamesRole callee program role fuel files r
    → IsReader (program_called r) r.role
named_reader callee on_states program role fuel files r names =
    let P = program_called r in
    reader P r.role (file_is_sound names.program_file.bytes P names.program_file.program) (role_within P role r.role names.role)
    (calls_reads callee (kind_called r) on_states names.called)

-- what is accepted of a call is true, or there is a split
pub reader_headline : (r : FueledRole) (state argument : Value) (proof : List ℕ) (o : Outcome) → IsReader (program_called r) r.role
    → IsIdeal (program_called r).types (program_called r).state state → IsIdeal (program_called r).types (argument_type (program_called r) r.role) argument
    → role_verdict (record {
      role = r;
      state = spelling (projection sha256 (program_called r) (program_called r).state state);
      argument = spelling (projection sha256 (program_called r) (argument_type (program_called r) r.role) argument);
    }) proof ≡ Accepted o
    → (n : ℕ) × (header (program_called r).format proof ≡ Some n)
    × TrueOrSplit sha256 (program_called r) r.role (result_called r) (call_values state argument) r.fuel
    (offered_pieces (offered (program_called r).format.limit (drop 6 proof) n [])) o
unfolding role_verdict
reader_headline r state argument proof o reader ideal_state ideal_argument accepted =
    let P = program_called r in
    let f = r.role in
    let said =
    headline sha256 length-sha256 P reader.format reader.typed f (function_at P f).kind (argument_type P f) reader.answer reader.role reader.reads state
    argument ideal_state ideal_argument r.fuel proof o accepted in
    let pieces = offered_pieces (offered P.format.limit (drop 6 proof) said.0 []) in
    (said.0, said.1, subst (λ t. TrueOrSplit sha256 P f t (call_values state argument) r.fuel pieces o) (sym reader.result) said.2)

-- a piece of a sound program that is fetched is what the digest is of
pub sound_whole : (P : Program) → IsSound P → IsOfWhole sha256 P
sound_whole P sound = λ t bytes. subst (λ (F : Format). F.digest sha256 t bytes ≡ sha256 (unwrap_or (F.print sha256 t) [] ++ bytes)) (sym sound.format.2) refl

pub named_whole : (callee : Callee) (program role fuel : List ℕ) (files : Contents) (r : FueledRole) → NamesRole callee program role fuel files r → IsOfWhole sha256 (program_called r)
named_whole callee program role fuel files r names = sound_whole (program_called r) (file_is_sound names.program_file.bytes (program_called r) names.program_file.program)

-- what is accepted of a call over a mirror is true, or there is a split
pub reader_fetched : (r : FueledRole) (state argument : Value) (pieces : List (List ℕ)) (o : Outcome) → IsReader (program_called r) r.role → IsOfWhole sha256 (program_called r)
    → IsIdeal (program_called r).types (program_called r).state state → IsIdeal (program_called r).types (argument_type (program_called r) r.role) argument
    → fetched_verdict (record {
      role = r;
      state = spelling (projection sha256 (program_called r) (program_called r).state state);
      argument = spelling (projection sha256 (program_called r) (argument_type (program_called r) r.role) argument);
    }) pieces ≡ Accepted o
    → (answers : List Got) × AreAnswersOf sha256 (given_by sha256 pieces) answers (Accepted o)
    × TrueFromOrSplit sha256 (program_called r) r.role (result_called r) (call_values state argument) r.fuel (offered_pieces (answered answers)) [] o
unfolding fetched_verdict
reader_fetched r state argument pieces o reader whole ideal_state ideal_argument accepted =
    let P = program_called r in
    let f = r.role in
    let said =
    true_over sha256 length-sha256 P reader.format reader.typed whole f (function_at P f).kind (argument_type P f) reader.answer reader.role reader.reads state
    argument ideal_state ideal_argument r.fuel (given_by sha256 pieces) o accepted in
    (said.0, said.1, subst (λ t. TrueFromOrSplit sha256 P f t (call_values state argument) r.fuel (offered_pieces (answered said.0)) [] o) (sym reader.result) said.2)
