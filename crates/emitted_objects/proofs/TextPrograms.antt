-- What a text in the first format is checked to may be emitted, and so what is written of it is accepted.
use Rattle.std.proofs.Common.{◌≡◌, ℕ, ◌≤◌, false, List, [], length, map, sym, ap, ◌∙◌, subst}
use Rattle.std.specs.Prelude.{All}
use Rattle.std.proofs.lemmas.List.{length-map}
use Rattle.core_terms.specs.Formats.{Format}
use Rattle.core_terms.specs.ProgramFormats.{arrays_of}
use Rattle.core_terms.specs.ProgramLimits.{most_constructors, most_fields}
use Rattle.core_terms.specs.TypingRules.{IsTypedAs}
use Rattle.core_terms.specs.Terms as tree
use Rattle.core_terms.specs.Types.{Table}
use Rattle.core_terms.proofs.TypingSound.{typed_sound}
use Rattle.core_terms.specs.GeneratedCode.{function_code}
use Rattle.auth_syntax.specs.Grammar.{IsProgramText}
use Rattle.auth_syntax.specs.Nesting.{nesting_limit}
use Rattle.auth_syntax.specs.Syntax.{Program}
use Rattle.auth_syntax.proofs.Exact.{parsed_is_written}
use Rattle.declared_types.specs.Checking.{Checking, FaultAt, Sound}
use Rattle.declared_types.specs.DeclaredPrograms.{constructors_in, format_of, names_of, scope_of}
use Rattle.declared_types.specs.Signatures.{Scope}
use Rattle.declared_types.specs.WrittenTypes.{functions_in, states_in}
use Rattle.auth_types.specs.CheckedLaws.{IsScopeOf, IsWithinLimits, NamesTypesBelow, ProgramNamesTypesBelow}
use Rattle.auth_types.specs.CheckedPrograms.{IsProgram, all_passes, as_checked, checked}
use Rattle.auth_types.specs.ProgramRules.{Denotes}
use Rattle.auth_types.specs.TypingLaws.{IsWhole}
use Rattle.auth_types.proofs.RuledPrograms.{denotes_what_passes}
use Rattle.auth_types.proofs.SoundPrograms.{checked_is_within_limits, checked_names_its_types, parsed_is_typed, scope_is_of_program}
use Rattle.object_meaning.specs.ClosedPrograms.{FunctionsAreClosed, IsClosed, IsClosedProgram, TableIsClosed}
use Rattle.object_meaning.specs.EmittablePrograms.{IsNamedTable}
use Rattle.object_meaning.proofs.WrittenAccepted.{programs_are_accepted}
use Rattle.emitted_objects.specs.TextLaws.{EmittedIsAccepted, TextsAreEmittable}
use Rattle.emitted_objects.proofs.CheckedFunctions.{functions_closed, functions_written, results_closed}
use Rattle.emitted_objects.proofs.ClosedBodies.{AreFilled, IsClosedScope}
use Rattle.emitted_objects.proofs.ClosedTypes.{state_closed, table_closed}
use Rattle.emitted_objects.proofs.DeclaredWords.{text_declares_words}
use Rattle.emitted_objects.proofs.NewNames.{table_filled, text_named}
use Rattle.emitted_objects.proofs.NewRoles.{text_functions}

-- a program that is given passes
as_sound : (found : Checking tree.Program) (P : tree.Program) → as_checked found ≡ IsProgram P → found ≡ Sound P
as_sound (Sound Q) P is = cc
as_sound (FaultAt kind at) P is = absurd (cc)

all_sound : (program : Program) (P : tree.Program) → checked program ≡ IsProgram P → all_passes program ≡ Sound P
unfolding checked
all_sound program P is = as_sound (all_passes program) P is

-- what is known of the program of a text
record IsCheckedText (program : Program) (P : tree.Program) : Type 0 where
  text_is : (text : List ℕ) × IsProgramText text program
  denotes : Denotes program P
  scope : IsScopeOf (scope_of program) P
  limits : IsWithinLimits P
  below : ProgramNamesTypesBelow (length P.types) P
  no_arrays : arrays_of (format_of program) ≡ false

module _ (program : Program) (P : tree.Program) (is : IsCheckedText program P) where
  abbrev scope : Scope
  scope = scope_of program

  abbrev count : ℕ
  count = length scope.table

  types : P.types ≡ scope.table
  types = is.denotes.types

  below : ProgramNamesTypesBelow count P
  below = subst (λ n. ProgramNamesTypesBelow n P) (ap length types) is.below

  filled : AreFilled scope.table
  filled = table_filled (format_of program) (names_of program) nesting_limit program.declarations is.text_is.1.well_formed

  whole : IsWhole scope
  whole = is.scope.constructors ∙ ap (λ (t : Table). map length t) types

  closed_scope : IsClosedScope scope
  closed_scope = record {
    no_arrays = is.no_arrays;
    fields = table_closed count (format_of program) is.no_arrays (names_of program) program.declarations (subst (λ (t : Table). All (All (All (NamesTypesBelow count))) t) types below.table);
    filled = filled;
    as_many = sym (length-map scope.constructors length) ∙ ap length whole ∙ length-map scope.table length;
    results = results_closed (names_of program) scope is.no_arrays (functions_in program.declarations) P.functions is.denotes.functions below.functions;
  }

  closed_program : IsClosedProgram P
  closed_program =
      let state : IsClosed count P.state =
      subst (IsClosed count) (sym is.denotes.state) (state_closed count (format_of program) is.no_arrays (names_of program) (states_in program.declarations)
      (subst (NamesTypesBelow count) is.denotes.state below.state)) in
      let functions : FunctionsAreClosed count (map (function_code scope.table) P.functions) =
      functions_closed (names_of program) scope is.no_arrays closed_scope whole (functions_in program.declarations) P.functions is.denotes.functions below.functions is.limits.parameters in
      record {
        fields = subst (λ (t : Table). TableIsClosed (length t) t) (sym types) closed_scope.fields;
        state = subst (λ n. IsClosed n P.state) (sym (ap length types)) state;
        functions = subst (λ (t : Table). FunctionsAreClosed (length t) (map (function_code t) P.functions)) (sym types) functions;
      }

  named : IsNamedTable [] P.types (constructors_in program.declarations)
  named =
      let words = text_declares_words is.text_is.0 program is.text_is.1 in
      let few = subst (λ (t : Table). All (λ rows. length rows ≤ most_constructors) t) types is.limits.constructors in
      let fields = subst (λ (t : Table). All (All (λ ts. length ts ≤ most_fields)) t) types is.limits.fields in
      subst (λ (t : Table). IsNamedTable [] t (constructors_in program.declarations)) (sym types)
      (text_named (format_of program) (names_of program) program.declarations is.denotes.declared.all words filled few fields)

pub texts_are_emittable : TextsAreEmittable
texts_are_emittable text program P tree_is given first =
    let sound = all_sound program P given in
    let denotes = (denotes_what_passes program P).0 given in
    let written = parsed_is_written text program tree_is in
    let typed = parsed_is_typed text program P tree_is given in
    let limits = checked_is_within_limits program P sound in
    let no_arrays : arrays_of (format_of program) ≡ false = sym (ap (λ (f : Format). f.arrays) denotes.format) ∙ ap (λ (f : Format). f.arrays) first in
    let is : IsCheckedText program P = record {
      text_is = (text, written);
      denotes = denotes;
      scope = scope_is_of_program program P sound;
      limits = limits;
      below = (checked_names_its_types program P sound).1;
      no_arrays = no_arrays;
    } in
    let scope = scope_of program in
    let fs = functions_in program.declarations in
    record {
      limit = ap (λ (f : Format). f.limit) first;
      typed = subst (IsTypedAs P) denotes.code (typed_sound P typed.0);
      shaped = typed.1;
      written = functions_written (names_of program) scope no_arrays (closed_scope program P is) (whole program P is) P (sym denotes.types) fs P.functions denotes.functions
          (below program P is).functions limits.parameters;
      closed = closed_program program P is;
      few_types = limits.types;
      named = named program P is;
      few_functions = limits.functions;
      functions = text_functions nesting_limit (names_of program) scope program.declarations P.functions denotes.declared.all
          (text_declares_words text program written) written.well_formed denotes.functions limits.parameters;
    }

pub emitted_is_accepted : EmittedIsAccepted
emitted_is_accepted text program P bytes tree_is given first is =
    programs_are_accepted P (constructors_in program.declarations) bytes (texts_are_emittable text program P tree_is given first) is
