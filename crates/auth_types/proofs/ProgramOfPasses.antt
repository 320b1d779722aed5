-- The program that the passes give, of the parts that the code holds.
use Rattle.std.proofs.Common.{◌≡◌, ℕ, ◌<◌, true, List, [], ◌∷◌, length, map, nat_lt, refl, sym, ap, ap₂, ◌∙◌, subst, arith, lt-ltb, None}
use Rattle.std.specs.Prelude.{All}
use Rattle.std.specs.List.{list_all}
use Rattle.std.proofs.lemmas.List.{length-map}
use Rattle.std.proofs.lemmas.List.Elements.{All-cons, All-head, All-nil, All-tail}
use Rattle.core_terms.specs.TypeNames.{AreNamed, all_constructor_names}
use Rattle.core_terms.specs.ProgramSizes as programs
use Rattle.core_terms.specs.Types.{Ty}
use Rattle.core_terms.specs.TypeTables.{type_at, types_of_forms}
use Rattle.core_terms.specs.Typing.{is_shaped, is_typed}
use Rattle.core_terms.specs.ProgramTrees.{are_below, declared_text, function_of, has_fields_below, has_types_below, is_within, program_of, table_of}
use Rattle.core_terms.specs.Programs.{types_in}
use Rattle.core_terms.specs.declared.format.Format.{Format}
use Rattle.core_terms.specs.TypeDeclarations.{types_text}
use Rattle.core_terms.specs.ProgramFormats.{format_with}
use Rattle.core_terms.specs.declared.types.TyTable.{TyTable}
use Rattle.core_terms.specs.declared.types.TyId.{TyId}
use Rattle.core_terms.specs.declared.types.TyForm.{TyForm}
use Rattle.core_terms.specs.declared.term.Constructor.{Constructor}
use Rattle.core_terms.specs.declared.term.Function.{Function}
use Rattle.core_terms.specs.declared.term.NamedType.{NamedType}
use Rattle.core_terms.proofs.Limited.{all_pass}
use Rattle.auth_syntax.specs.Syntax.{FunctionSyntax, ParameterSyntax, Program}
use Rattle.auth_syntax.specs.TreeLimits as trees
use Rattle.auth_syntax.specs.Trees as written
use Rattle.auth_types.specs.Bodies.{checked_functions}
use Rattle.declared_types.specs.Signatures.{Scope as DefinedScope, Signature}
use Rattle.declared_types.specs.Checking.{Sound}
use Rattle.auth_types.specs.CheckedLaws.{HasGoodLiterals}
use Rattle.auth_types.specs.CheckedPrograms.{all_passes, declared_text_of, fourth_pass}
use Rattle.declared_types.specs.DeclaredPrograms.{constructors_in, format_of, names_of, signature_of, state_of, table_of_program, third_pass}
use Rattle.declared_types.specs.OverTypes.{Grows}
use Rattle.declared_types.specs.Passes.{TableStandsFor, names_known}
use Rattle.declared_types.specs.Scopes.{AreHeadsOf, AreWithin, IsConstructorWithin, IsCounted, IsHeadWithin, IsNamedWithin, IsWithin, functions_meant, scope_meant, signature_meant}
use Rattle.declared_types.specs.WrittenTypes.{type_meant}
use Rattle.declared_types.specs.declared.scope.Head.{Head}
use Rattle.declared_types.specs.declared.scope.Scope.{Scope}
use Rattle.auth_types.proofs.PassesOfTrees.{fourth_told, passes_end}
use Rattle.declared_types.proofs.FirstPasses.{table_is}
use Rattle.auth_types.proofs.LimitsOfPrograms.{are_named}
use Rattle.declared_types.proofs.ScopeStays.{grows_length, table_stays, type_stays_at, within_more}
use Rattle.auth_types.proofs.SoundPrograms.{checked_is_typed, checked_is_within_all_limits}

-- the program of these parts is the one that the passes give, and it is what a program has to be
pub record Passed (program : Program) (forms : List TyForm) (named : List NamedType) (state : TyId) (functions : List Function) : Type 0 where
  pub gives : all_passes program ≡ Sound (program_of (format_of program) forms named state functions)
  pub typed : is_typed (program_of (format_of program) forms named state functions) ≡ true
  pub shaped : is_shaped (program_of (format_of program) forms named state functions) ≡ true
  pub within : is_within forms named state functions ≡ true
  pub names : AreNamed named
  pub limits : programs.IsWithinLimits (program_of (format_of program) forms named state functions)

-- a head that stands for its function has as many numbers as the function has parameters
counted_each : (format : Format) (names : List (List ℕ)) (types : List Ty) (heads : List Head)
    → map (signature_meant types) heads ≡ map (signature_of format names) (map (λ (h : Head). written.function_of h.function.now) heads)
    → All IsCounted heads
counted_each format names types [] same = All-nil IsCounted
counted_each format names types (h ∷ heads) same =
    let here : signature_meant types h ≡ signature_of format names (written.function_of h.function.now) = cc in
    let many : length h.parameters.items ≡ length h.function.now.parameters.items =
    sym (length-map h.parameters.items (type_at types)) ∙ ap (λ (s : Signature). length s.parameters) here
    ∙ length-map (written.parameters_of h.function.now.parameters) (λ (p : ParameterSyntax). type_meant format names p.of_type)
    ∙ length-map h.function.now.parameters.items written.parameter_of in
    All-cons IsCounted h heads many (counted_each format names types heads (cc))

pub heads_counted : (format : Format) (names : List (List ℕ)) (types : List Ty) (scope : Scope) → AreHeadsOf format names types scope → All IsCounted scope.heads.items
heads_counted format names types scope are = counted_each format names types scope.heads.items are

-- each number that is within passes the test
ids_below : (count : ℕ) (ids : List TyId) → AreWithin count ids → are_below count ids ≡ true
ids_below count ids within = all_pass (λ (id : TyId). id.0 < count) (λ (id : TyId). nat_lt id.0 count) (λ id h. lt-ltb id.0 count h) ids within

named_below : (count : ℕ) (named : List NamedType) → All (IsNamedWithin count) named → list_all (has_fields_below count) named ≡ true
named_below count named within =
    all_pass (IsNamedWithin count) (has_fields_below count)
    (λ t h. all_pass (IsConstructorWithin count) (λ (c : Constructor). are_below count c.fields.items) (λ c h. ids_below count c.fields.items h)
    t.constructors.items h) named within

-- functions with the numbers of heads
functions_below : (count : ℕ) (functions : List Function) (heads : List Head) → All (IsHeadWithin count) heads
    → map (λ (f : Function). f.parameters.items) functions ≡ map (λ (h : Head). h.parameters.items) heads
    → map (λ (f : Function). f.result) functions ≡ map (λ (h : Head). h.result) heads → list_all (has_types_below count) functions ≡ true
functions_below count [] heads within parameters results = refl
functions_below count (f ∷ functions) [] within parameters results = absurd (cc)
functions_below count (f ∷ functions) (h ∷ heads) within parameters results =
    let head : IsHeadWithin count h = All-head (IsHeadWithin count) h heads within in
    let ids : f.parameters.items ≡ h.parameters.items = cc in
    let gives : f.result ≡ h.result = cc in
    let below : are_below count f.parameters.items ≡ true = ap (are_below count) ids ∙ ids_below count h.parameters.items head.parameters in
    let inside : nat_lt f.result.0 count ≡ true = ap (λ (id : TyId). nat_lt id.0 count) gives ∙ lt-ltb h.result.0 count head.result in
    let rest = functions_below count functions heads (All-tail (IsHeadWithin count) h heads within) (cc) (cc) in
    rw (below, inside, rest) refl

module _ (program : Program) (before : List Ty) (forms : List TyForm) (scope : Scope) (state : TyId) (functions : List Function)
    (grows : Grows before (types_of_forms forms)) (stands : TableStandsFor program before scope state) where
  program_within : map (λ (f : Function). f.parameters.items) functions ≡ map (λ (h : Head). h.parameters.items) scope.heads.items
      → map (λ (f : Function). f.result) functions ≡ map (λ (h : Head). h.result) scope.heads.items
      → is_within forms scope.named.items state functions ≡ true
  program_within parameters results =
      let count = length (types_of_forms forms) in
      let more = grows_length before (types_of_forms forms) grows in
      let all : IsWithin count scope = within_more (length before) count scope more stands.within in
      let inside = stands.inside in
      let here : nat_lt state.0 count ≡ true = lt-ltb state.0 count (omega (arith, inside, more)) in
      rw (here, named_below count scope.named.items all.named, functions_below count functions scope.heads.items all.heads parameters results) refl

  table_made : table_of (types_of_forms forms) scope.named.items ≡ table_of_program program
  table_made = table_stays before (types_of_forms forms) grows scope.named.items stands.within.named ∙ table_is program before scope state stands

  -- the type declarations, printed
  text_made : declared_text (types_of_forms forms) scope.named.items ≡ declared_text_of program
  text_made =
      let constructors = ap (λ (s : DefinedScope). s.constructors) stands.scope in
      ap (λ names. types_text names (all_constructor_names scope.named.items) (table_of (types_of_forms forms) scope.named.items)) stands.names
      ∙ ap (λ css. types_text (names_of program) css (table_of (types_of_forms forms) scope.named.items)) constructors
      ∙ ap (types_text (names_of program) (constructors_in program.declarations)) table_made

  state_made : type_at (types_of_forms forms) state ≡ state_of program
  state_made = type_stays_at before (types_of_forms forms) grows state stands.inside ∙ stands.state

  module _ (gives : all_passes program ≡ Sound (program_of (format_of program) forms scope.named.items state functions)) where
    typed_and_shaped : All (λ (f : FunctionSyntax). HasGoodLiterals f.body) (functions_meant scope)
        → (is_typed (program_of (format_of program) forms scope.named.items state functions) ≡ true)
        × (is_shaped (program_of (format_of program) forms scope.named.items state functions) ≡ true)
    typed_and_shaped good =
        checked_is_typed program (program_of (format_of program) forms scope.named.items state functions)
        (subst (All (λ (f : FunctionSyntax). HasGoodLiterals f.body)) stands.functions good) gives

  -- what the passes leave of a tree in which they find nothing
  pub passed : trees.IsWithinLimits program.declarations → names_known program ≡ Sound tt → third_pass program ≡ Sound tt
      → fourth_pass program ≡ Sound (map (function_of (types_of_forms forms)) functions)
      → map (λ (f : Function). f.parameters.items) functions ≡ map (λ (h : Head). h.parameters.items) scope.heads.items
      → map (λ (f : Function). f.result) functions ≡ map (λ (h : Head). h.result) scope.heads.items
      → All (λ (f : FunctionSyntax). HasGoodLiterals f.body) (functions_meant scope) → Passed program forms scope.named.items state functions
  passed limits known third fourth parameters results good =
      let table = table_made in
      let of_state = state_made in
      let gives : all_passes program ≡ Sound (program_of (format_of program) forms scope.named.items state functions) =
      passes_end program known third (map (function_of (types_of_forms forms)) functions) fourth
      ∙ ap (λ text. Sound (record {
        format = format_with (format_of program) text;
        types = table_of_program program;
        state = state_of program;
        functions = map (function_of (types_of_forms forms)) functions;
        code = None;
      })) (sym text_made)
      ∙ ap₂ (λ types state. Sound (record {
        format = format_with (format_of program) (declared_text (types_of_forms forms) scope.named.items);
        types = types;
        state = state;
        functions = map (function_of (types_of_forms forms)) functions;
        code = None;
      })) (sym table) (sym of_state) in
      let sound = typed_and_shaped gives good in
      record {
        gives = gives;
        typed = sound.0;
        shaped = sound.1;
        within = program_within parameters results;
        names = are_named program.declarations scope.named.items limits stands.names
            (ap (λ (s : DefinedScope). s.constructors) stands.scope);
        limits = checked_is_within_all_limits program (program_of (format_of program) forms scope.named.items state functions) limits gives;
      }

-- the same as the code tells it, over a table and a scope that are lent and given on
module _ (program : Program) (given : TyTable) (scope : Scope) (state : TyId) (stands : TableStandsFor program (types_in given) scope state)
    (told : given.format ≡ format_of program) (table : TyTable) (lent last : Scope) where
  pub passed_on : trees.IsWithinLimits program.declarations → table ≡ given → lent ≡ scope → last ≡ scope → (forms : List TyForm) (functions : List Function)
      → Grows (types_in table) (types_of_forms forms) → names_known program ≡ Sound tt → third_pass program ≡ Sound tt
      → ((names : List (List ℕ)) → AreHeadsOf table.format names (types_in table) lent
      → checked_functions names (scope_meant table.format (types_in table) lent)
      (functions_meant lent) ≡ Sound (map (function_of (types_of_forms forms)) functions))
      → map (λ (f : Function). f.parameters.items) functions ≡ map (λ (h : Head). h.parameters.items) lent.heads.items
      → map (λ (f : Function). f.result) functions ≡ map (λ (h : Head). h.result) lent.heads.items
      → All (λ (f : FunctionSyntax). HasGoodLiterals f.body) (functions_meant lent) → Passed program forms last.named.items state functions
  passed_on limits same same' same'' forms functions grows known third found parameters results good =
      subst (λ (h : Scope). Passed program forms h.named.items state functions) (sym same'')
      (passed program (types_in given) forms scope state functions (subst (λ (t : TyTable). Grows (types_in t) (types_of_forms forms)) same grows)
      stands limits known third
      (fourth_told program (types_in given) scope state stands (λ found. found ≡ Sound (map (function_of (types_of_forms forms)) functions)) table
      lent (ap (λ (t : TyTable). t.format) same ∙ told) (ap types_in same) same' found)
      (parameters ∙ ap (λ (h : Scope). map (λ (h : Head). h.parameters.items) h.heads.items) same')
      (results ∙ ap (λ (h : Scope). map (λ (h : Head). h.result) h.heads.items) same')
      (subst (λ (h : Scope). All (λ (f : FunctionSyntax). HasGoodLiterals f.body) (functions_meant h)) same' good))
