-- The laws of the passes, from the lemmas.
use Rattle.std.proofs.Common.{◌≡◌, ℕ, zero, suc, ◌≤◌, Bool, true, false, ◌||◌, List, [], ◌∷◌, length, map, Some, option_map, slice_get, bytes_eq, refl, sym, ap, ap₂, ◌∙◌, subst, arith, None}
use Rattle.std.proofs.lemmas.List.{length-map}
use Rattle.std.proofs.lemmas.List.Elements.{All-cons, All-head, All-nil, All-tail}
use Rattle.std.proofs.lemmas.Option.{slice_get-map}
use Rattle.std.proofs.lemmas.Slice.Eq.{bytes_eq-Decides}
use Rattle.std.specs.Prelude.{All}
use Rattle.core_terms.specs.Types.{Table}
use Rattle.core_terms.specs.declared.format.Format.{Format}
use Rattle.core_terms.specs.Terms.{Function}
use Rattle.core_terms.specs.Terms as tree
use Rattle.core_terms.specs.ProgramSizes.{IsBodyWithin, IsFlatType, IsShort, expressions_in_all}
use Rattle.core_terms.specs.Typing.{all_shaped, all_typed, is_typed_as}
use Rattle.auth_syntax.specs.Syntax.{ConstructorDeclaration, DeclarationSyntax, FunctionDeclaration, FunctionSyntax, ParameterSyntax, Program, StateDeclaration, TypeDeclaration}
use Rattle.declared_types.specs.Checking.{Checking, FaultAt, Sound, is_among, then_checked}
use Rattle.declared_types.specs.Signatures.{Signature}
use Rattle.declared_types.specs.Declarations.{checked_declarations, first_pass, most_constructors, most_fields, most_parameters, nothing_declared}
use Rattle.declared_types.specs.WrittenTypes.{functions_in, second_pass, states_in, table_of, type_meant}
use Rattle.auth_types.specs.CheckedPrograms.{IsProgram, all_passes, as_checked, checked, fourth_pass, program_format}
use Rattle.declared_types.specs.DeclaredPrograms.{constructors_in, format_of, names_of, scope_of, signature_of, state_of, table_of_program, third_pass}
use Rattle.auth_types.specs.CheckedLaws.{CheckedIsTyped, CheckedIsWithinAllLimits, CheckedIsWithinLimits, CheckedNamesDiffer, CheckedNamesItsTypes, FunctionNamesTypesBelow, IsScopeOf, ParsedIsTyped, ProgramNamesTypesBelow, ScopeIsOfProgram, signature}
use Rattle.declared_types.specs.declared.fault.TypeKind.TheVariants.{NoState}
use Rattle.declared_types.proofs.SoundSteps.{Gives, given, gives_then, gives_unless, then_sound}
use Rattle.auth_types.proofs.SoundLiterals.{parsed_has_good_literals}
use Rattle.declared_types.proofs.SoundNames.{AsMany}
use Rattle.auth_types.proofs.LimitsOfPrograms.{FunctionsAreWithin, each_within, expressions_counted, expressions_written, few_expressions, flat_state, flat_table}
use Rattle.auth_types.proofs.SoundFunctions.{HasShape, functions_shaped, functions_typed, roles_shaped, signatures_kept}
use Rattle.declared_types.proofs.SoundLimits.{AreNew, AreWithin, FewParameters, declarations_within}
use Rattle.auth_types.proofs.SoundTypes.{AreBelow, as_many_types, declarations_below, functions_below, state_below}

-- the program of these functions
abbrev program_of : Program → List Function → tree.Program
program_of program functions = record { format = program_format program; types = table_of_program program; state = state_of program; functions = functions; code = None }

-- what each pass gave
record Passed (program : Program) (P : tree.Program) : Type 0 where
  functions : List Function
  first : first_pass program ≡ Sound tt
  second : second_pass program ≡ Sound tt
  third : third_pass program ≡ Sound tt
  fourth : fourth_pass program ≡ Sound functions
  made : program_of program functions ≡ P

passed : (program : Program) (P : tree.Program) → all_passes program ≡ Sound P → Passed program P
passed program P is =
    let (a, first, later) = then_sound (first_pass program) (λ _. then_checked (second_pass program)
    (λ _. then_checked (third_pass program) (λ _. then_checked (fourth_pass program) (λ fs. Sound (program_of program fs))))) P is in
    let (b, second, last) = then_sound (second_pass program)
    (λ _. then_checked (third_pass program) (λ _. then_checked (fourth_pass program) (λ fs. Sound (program_of program fs)))) P later in
    let (c, third, end) = then_sound (third_pass program) (λ _. then_checked (fourth_pass program) (λ fs. Sound (program_of program fs))) P last in
    let (functions, fourth, made) = then_sound (fourth_pass program) (λ fs. Sound (program_of program fs)) P end in
    record { functions = functions; first = first; second = second; third = third; fourth = fourth; made = cc }

-- there are as many names of constructors as rows of the table
many_declared : (format : Format) (names : List (List ℕ)) (ds : List DeclarationSyntax) → AsMany (constructors_in ds) (table_of format names ds)
many_declared format names [] = refl
many_declared format names (TypeDeclaration at name cs ∷ ds) =
    ap₂ (λ n ns. n ∷ ns) (length-map cs (λ (c : ConstructorDeclaration). c.name.name)
    ∙ sym (length-map cs (λ (c : ConstructorDeclaration). map (type_meant format names) c.fields))) (many_declared format names ds)
many_declared format names (StateDeclaration at t ∷ ds) = many_declared format names ds
many_declared format names (FunctionDeclaration at f ∷ ds) = many_declared format names ds

-- what is declared for the bodies is what the program has
its_scope : (program : Program) (P : tree.Program) → Passed program P → IsScopeOf (scope_of program) P
its_scope program P is =
    subst (IsScopeOf (scope_of program)) is.made (record {
      functions = given (λ gs. map (signature_of (format_of program) (names_of program)) (functions_in program.declarations) ≡ map signature gs) (fourth_pass program)
          is.functions (signatures_kept (names_of program) (scope_of program) (functions_in program.declarations)) is.fourth;
      table = refl;
      constructors = many_declared (format_of program) (names_of program) program.declarations;
    })

module _ (program : Program) (P : tree.Program) (is : Passed program P) where
  -- what is known of the functions that the fourth pass gives is known of those of the program
  of_functions : (C : List Function → Type 0) → Gives C (fourth_pass program) → C P.functions
  of_functions C h = subst (λ (P : tree.Program). C P.functions) is.made (given C (fourth_pass program) is.functions h is.fourth)

  within : AreWithin (format_of program) (names_of program) nothing_declared program.declarations
  within =
      given (λ _. AreWithin (format_of program) (names_of program) nothing_declared program.declarations) (first_pass program) tt
      (gives_then (λ _. AreWithin (format_of program) (names_of program) nothing_declared program.declarations)
      (λ _. AreWithin (format_of program) (names_of program) nothing_declared program.declarations) (checked_declarations nothing_declared program.declarations) _
      (declarations_within (format_of program) (names_of program) nothing_declared program.declarations (omega arith) (omega arith))
      (λ declared h. gives_unless (λ _. AreWithin (format_of program) (names_of program) nothing_declared program.declarations) declared.state NoState program.end
      (Sound tt) (λ _. h))) is.first

  below : AreBelow (format_of program) (names_of program) program.declarations
  below = given (λ _. AreBelow (format_of program) (names_of program) program.declarations) (second_pass program) tt
      (declarations_below (format_of program) (names_of program) program.declarations) is.second

  shapes : All (HasShape (names_of program) (format_of program) P) (functions_in program.declarations)
  shapes =
      subst (λ (P : tree.Program). All (HasShape (names_of program) (format_of program) P) (functions_in program.declarations)) is.made
      (given (λ _. All (HasShape (names_of program) (format_of program) (program_of program is.functions)) (functions_in program.declarations)) (third_pass program) tt
      (roles_shaped (names_of program) (format_of program) (program_of program is.functions) (functions_in program.declarations)) is.third)

pub scope_is_of_program : ScopeIsOfProgram
scope_is_of_program program P sound = its_scope program P (passed program P sound)

pub checked_is_typed : CheckedIsTyped
checked_is_typed program P good sound =
    let is = passed program P sound in
    let fs = functions_in program.declarations in
    let written : None ≡ P.code = ap (λ (P : tree.Program). P.code) is.made in (
      subst (λ o. is_typed_as P o ≡ true) written (of_functions program P is (λ gs. all_typed P gs ≡ true)
          (functions_typed (names_of program) (scope_of program) P (its_scope program P is) fs good)),
      of_functions program P is (λ gs. all_shaped P gs ≡ true) (functions_shaped (names_of program) P (scope_of program) fs (shapes program P is)),
    )

-- a program that is given passes
passes_from_checked : (found : Checking tree.Program) (P : tree.Program) → as_checked found ≡ IsProgram P → found ≡ Sound P
passes_from_checked (Sound Q) P is = cc
passes_from_checked (FaultAt kind at) P is = absurd (cc)

pub parsed_is_typed : ParsedIsTyped
unfolding checked
parsed_is_typed text program P is given_it =
    checked_is_typed program P (parsed_has_good_literals text program is) (passes_from_checked (all_passes program) P given_it)

pub checked_names_its_types : CheckedNamesItsTypes
checked_names_its_types program P sound =
    let is = passed program P sound in
    let names = names_of program in
    let h = below program P is in
    let many = as_many_types (format_of program) names program.declarations in
    let functions = given (All (FunctionNamesTypesBelow (length names))) (fourth_pass program) is.functions
    (functions_below names (scope_of program) (functions_in program.declarations) h.functions) is.fourth in
    let made : ProgramNamesTypesBelow (length names) (program_of program is.functions) =
    record { table = h.table; state = state_below (format_of program) names (states_in program.declarations) h.states; functions = functions } in
    subst (λ (P : tree.Program). (length P.types ≡ length names) × ProgramNamesTypesBelow (length P.types) P) is.made
    (many, subst (λ n. ProgramNamesTypesBelow n (program_of program is.functions)) (sym many) made)

-- as many functions as are declared, with as many parameters
signatures : (program : Program) (P : tree.Program) → Passed program P
    → map (signature_of (format_of program) (names_of program)) (functions_in program.declarations) ≡ map signature P.functions
signatures program P is = (its_scope program P is).functions

few_parameters : (format : Format) (names : List (List ℕ)) (fs : List FunctionSyntax) (gs : List Function) → map (signature_of format names) fs ≡ map signature gs
    → All FewParameters fs → All (λ (g : Function). length g.parameters ≤ most_parameters) gs
few_parameters format names [] [] same few = All-nil (λ (g : Function). length g.parameters ≤ most_parameters)
few_parameters format names [] (g ∷ gs) same few = absurd (cc)
few_parameters format names (f ∷ fs) [] same few = absurd (cc)
few_parameters format names (f ∷ fs) (g ∷ gs) same few =
    let one : signature_of format names f ≡ signature g = cc in
    let rest : map (signature_of format names) fs ≡ map signature gs = cc in
    All-cons (λ (g : Function). length g.parameters ≤ most_parameters) g gs
    (omega (
      arith,
      All-head FewParameters f fs few,
      ap (λ (s : Signature). length s.parameters) one,
      length-map f.parameters
          (λ (p : ParameterSyntax). type_meant format names p.of_type),
    ))
    (few_parameters format names fs gs rest (All-tail FewParameters f fs few))

pub checked_is_within_limits : CheckedIsWithinLimits
checked_is_within_limits program P sound =
    let is = passed program P sound in
    let names = names_of program in
    let fs = functions_in program.declarations in
    let h = within program P is in
    let same = signatures program P is in
    let many : length fs ≡ length P.functions = sym (length-map fs (signature_of (format_of program) names)) ∙ ap length same ∙ length-map P.functions signature in
    let table : table_of_program program ≡ P.types = ap (λ (P : tree.Program). P.types) is.made in
    record {
      types = omega (arith, h.types, as_many_types (format_of program) names program.declarations, ap length table);
      constructors = subst (λ (t : Table). All (λ constructors. length constructors ≤ most_constructors) t) table h.constructors;
      fields = subst (λ (t : Table). All (All (λ fields. length fields ≤ most_fields)) t) table h.fields;
      functions = omega (arith, h.functions, many);
      parameters = few_parameters (format_of program) names fs P.functions same h.parameters;
    }

pub checked_is_within_all_limits : CheckedIsWithinAllLimits
checked_is_within_all_limits program P limits sound =
    let is = passed program P sound in
    let names = names_of program in
    let ds = program.declarations in
    let own = checked_is_within_limits program P sound in
    let table : table_of_program program ≡ P.types = ap (λ (P : tree.Program). P.types) is.made in
    let few : expressions_in_all P.functions ≤ expressions_written (functions_in ds) =
    of_functions program P is (λ gs. expressions_in_all gs ≤ expressions_written (functions_in ds)) (few_expressions names (scope_of program) (functions_in ds)) in
    let each : FunctionsAreWithin names (scope_of program) P.functions =
    of_functions program P is (FunctionsAreWithin names (scope_of program)) (each_within names (scope_of program) ds limits (within program P is).parameters) in
    record {
      types = own.types;
      constructors = own.constructors;
      fields = own.fields;
      functions = own.functions;
      each = each.functions;
      written = λ none. record {
        field_types = subst (λ (t : Table). All (All (All IsFlatType)) t) table (flat_table (format_of program) names ds limits.types);
        state_type = subst IsFlatType (ap (λ (P : tree.Program). P.state) is.made) (flat_state (format_of program) names ds limits.types);
        bodies = subst (λ (t : Table). All (IsBodyWithin t) P.functions) table each.bodies;
        expressions = omega (arith, few, expressions_counted ds, limits.expressions);
      };
      short = subst (λ (P : tree.Program). IsShort P.code) is.made (omega arith);
    }

-- a function that is new is none of those before
new_is_none : (format : Format) (names before : List (List ℕ)) (fs : List FunctionSyntax) (k : ℕ) (s : Signature) → AreNew before fs
    → slice_get (map (signature_of format names) fs) k ≡ Some s → is_among s.name before ≡ false
new_is_none format names before [] k s new there = absurd (cc)
new_is_none format names before (f ∷ fs) zero s new there = let same : f.name.name ≡ s.name = cc in subst (λ name. is_among name before ≡ false) same new.0
new_is_none format names before (f ∷ fs) (suc k) s new there =
    or_false (bytes_eq f.name.name s.name) (is_among s.name before) (new_is_none format names (f.name.name ∷ before) fs k s new.1 there)
  where
    or_false : (a b : Bool) → a || b ≡ false → b ≡ false
    or_false true b h = absurd (cc)
    or_false false b h = h

-- and so none that stands later
later_is_other : (format : Format) (names before : List (List ℕ)) (f : FunctionSyntax) (fs : List FunctionSyntax) (k : ℕ) (s : Signature) → AreNew before (f ∷ fs)
    → slice_get (map (signature_of format names) fs) k ≡ Some s → f.name.name ≡ s.name → ⊥
later_is_other format names before f fs k s new there same =
    let none = new_is_none format names (f.name.name ∷ before) fs k s new.1 there in
    let again : bytes_eq f.name.name s.name ≡ true = (bytes_eq-Decides f.name.name s.name).1 same in
    absurd (let both : true ≡ false = sym (ap (λ b. b || is_among s.name before) again) ∙ none in cc)

names_differ : (format : Format) (names before : List (List ℕ)) (fs : List FunctionSyntax) (k j : ℕ) (s t : Signature) → AreNew before fs
    → slice_get (map (signature_of format names) fs) k ≡ Some s → slice_get (map (signature_of format names) fs) j ≡ Some t → s.name ≡ t.name → k ≡ j
names_differ format names before [] k j s t new here there same = absurd (cc)
names_differ format names before (f ∷ fs) zero zero s t new here there same = refl
names_differ format names before (f ∷ fs) zero (suc j) s t new here there same = absurd (later_is_other format names before f fs j t new there (cc))
names_differ format names before (f ∷ fs) (suc k) zero s t new here there same = absurd (later_is_other format names before f fs k s new here (cc))
names_differ format names before (f ∷ fs) (suc k) (suc j) s t new here there same =
    ap suc (names_differ format names (f.name.name ∷ before) fs k j s t new.1 here there same)

pub checked_names_differ : CheckedNamesDiffer
checked_names_differ program P sound f g F G here there same =
    let is = passed program P sound in
    let kept = signatures program P is in
    names_differ (format_of program) (names_of program) [] (functions_in program.declarations) f g (signature F) (signature G) (within program P is).new
    (ap (λ ss. slice_get ss f) kept ∙ slice_get-map signature P.functions f ∙ ap (option_map signature) here)
    (ap (λ ss. slice_get ss g) kept ∙ slice_get-map signature P.functions g ∙ ap (option_map signature) there)
    same
