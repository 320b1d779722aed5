-- The functions of a checked program without arrays: their types and their code name no types but the program's, each match has an arm, and
-- at each place there are at most 255 locals.
use Rattle.std.proofs.Common.{◌≡◌, ℕ, ◌≤◌, false, List, [], ◌∷◌, length, map, sym, ap, ◌∙◌, subst, arith}
use Rattle.std.specs.Prelude.{All}
use Rattle.std.specs.List.{AllZip}
use Rattle.std.proofs.lemmas.List.{length-map}
use Rattle.std.proofs.lemmas.List.Elements.{All-cons, All-head, All-nil, All-tail}
use Rattle.core_terms.specs.Instructions.{Return}
use Rattle.core_terms.specs.ProgramFormats.{arrays_of}
use Rattle.core_terms.specs.ProgramLimits.{most_locals}
use Rattle.core_terms.specs.ProgramSizes.{locals_in}
use Rattle.core_terms.specs.Terms.{Function}
use Rattle.core_terms.specs.Terms as tree
use Rattle.core_terms.specs.Types.{Ty, Table}
use Rattle.core_terms.specs.GeneratedCode.{code_of, function_code}
use Rattle.auth_syntax.specs.Grammar.{expression_levels}
use Rattle.auth_syntax.specs.Syntax.{FunctionSyntax, ParameterSyntax}
use Rattle.auth_syntax.specs.TreeLimits.{expressions_in}
use Rattle.declared_types.specs.DeclaredPrograms.{signature_of}
use Rattle.declared_types.specs.Signatures.{Scope}
use Rattle.declared_types.specs.WrittenTypes.{type_meant}
use Rattle.declared_types.proofs.SoundSteps.{given}
use Rattle.auth_types.specs.Bodies.{Local, Typed, elaborated, parameter_locals}
use Rattle.auth_types.specs.CheckedLaws.{FunctionNamesTypesBelow, NamesTypesBelow}
use Rattle.auth_types.specs.ProgramRules.{FunctionStandsFor}
use Rattle.auth_types.specs.TypingLaws.{IsWhole}
use Rattle.auth_types.proofs.RulesOfBodies.{passes_by_the_rules}
use Rattle.auth_types.proofs.SoundSizes.{Sized, elaborated_sized}
use Rattle.object_meaning.specs.ClosedPrograms.{AreClosed, FunctionIsClosed, FunctionsAreClosed, IsClosed}
use Rattle.object_meaning.specs.KindLaws.{HasArms, IsWritten}
use Rattle.emitted_objects.proofs.ClosedBodies.{IsClosedScope, LocalsAreClosed, ResultsAreClosed, body_closed}
use Rattle.emitted_objects.proofs.ClosedCode.{closed_last}
use Rattle.emitted_objects.proofs.ClosedTypes.{parameters_closed, type_closed}
use Rattle.emitted_objects.proofs.NewRoles.{FewParameters}

module _ (names : List (List ℕ)) (scope : Scope) (no_arrays : arrays_of scope.format ≡ false) where
  abbrev count : ℕ
  count = length scope.table

  abbrev Stand : List FunctionSyntax → List Function → Type 0
  Stand fs gs = AllZip (FunctionStandsFor names scope) fs gs

  abbrev IsBelow : Function → Type 0
  IsBelow g = FunctionNamesTypesBelow count g

  abbrev types_of : List ParameterSyntax → List Ty
  types_of ps = map (λ (p : ParameterSyntax). type_meant scope.format names p.of_type) ps

  abbrev result_of : FunctionSyntax → Ty
  result_of f = type_meant scope.format names f.result_type

  abbrev locals_of : FunctionSyntax → List Local
  locals_of f = parameter_locals scope.format names f.parameters

  -- the types of a function, and of its parameters as locals
  record IsClosedHead (f : FunctionSyntax) : Type 0 where
    parameters : AreClosed count (types_of f.parameters)
    result : IsClosed count (result_of f)

  head_closed : (f : FunctionSyntax) (g : Function) → FunctionStandsFor names scope f g → IsBelow g → IsClosedHead f
  head_closed f g h below = record {
    parameters = parameters_closed count scope.format no_arrays names f.parameters (subst (All (NamesTypesBelow count)) h.parameters below.parameters);
    result = type_closed count scope.format no_arrays names f.result_type (subst (NamesTypesBelow count) h.result below.result);
  }

  locals_closed : (ps : List ParameterSyntax) → AreClosed count (types_of ps) → LocalsAreClosed count (parameter_locals scope.format names ps)
  locals_closed [] h = tt
  locals_closed (p ∷ ps) h = (h.0, locals_closed ps h.1)

  pub results_closed : (fs : List FunctionSyntax) (gs : List Function) → Stand fs gs → All IsBelow gs
      → ResultsAreClosed count (map (signature_of scope.format names) fs)
  results_closed [] gs stand below = tt
  results_closed (f ∷ fs) [] stand below = absurd stand
  results_closed (f ∷ fs) (g ∷ gs) stand below =
      ((head_closed f g stand.0 (All-head IsBelow g gs below)).result, results_closed fs gs stand.1 (All-tail IsBelow g gs below))

  module _ (closed : IsClosedScope scope) (whole : IsWhole scope) where
    -- a body has room for its locals
    body_has_room : (f : FunctionSyntax) (g : Function) → FunctionStandsFor names scope f g → FewParameters g
        → locals_in scope.table (length g.parameters) g.body ≤ most_locals
    body_has_room f g h few =
        let locals = locals_of f in
        let found : Typed = record { expression = g.body; of_type = result_of f } in
        let many : length locals ≡ length g.parameters =
        length-map f.parameters (λ (p : ParameterSyntax). record { name = p.name.name; of_type = type_meant scope.format names p.of_type })
        ∙ sym (length-map f.parameters (λ (p : ParameterSyntax). type_meant scope.format names p.of_type)) ∙ sym (ap length h.parameters) in
        let sized = given (Sized scope (length locals) (expressions_in f.body) (expression_levels f.body)) (elaborated scope locals f.body) found
        (elaborated_sized scope locals f.body) ((passes_by_the_rules scope whole locals f.body g.body (result_of f)).1 h.body) in
        subst (λ m. locals_in scope.table m g.body ≤ most_locals) many (sized.room (omega (arith, many, few)))

    -- a function, with its code
    record IsFunctionWell (g : Function) : Type 0 where
      code : FunctionIsClosed count (function_code scope.table g)
      arms : HasArms g.body
      locals : locals_in scope.table (length g.parameters) g.body ≤ most_locals

    function_well : (f : FunctionSyntax) (g : Function) → FunctionStandsFor names scope f g → IsBelow g → FewParameters g → IsFunctionWell g
    function_well f g h below few =
        let head = head_closed f g h below in
        let body = body_closed scope closed h.body (locals_closed f.parameters head.parameters) in
        record {
          code = record {
            parameters = subst (AreClosed count) (sym h.parameters) head.parameters;
            result = subst (IsClosed count) (sym h.result) head.result;
            code = closed_last count (code_of scope.table g.body) Return body.code tt;
          };
          arms = body.arms;
          locals = body_has_room f g h few;
        }

    pub functions_closed : (fs : List FunctionSyntax) (gs : List Function) → Stand fs gs → All IsBelow gs → All FewParameters gs
        → FunctionsAreClosed count (map (function_code scope.table) gs)
    functions_closed [] [] stand below few = tt
    functions_closed [] (g ∷ gs) stand below few = absurd stand
    functions_closed (f ∷ fs) [] stand below few = absurd stand
    functions_closed (f ∷ fs) (g ∷ gs) stand below few =
        let one = function_well f g stand.0 (All-head IsBelow g gs below) (All-head FewParameters g gs few) in
        (one.code, functions_closed fs gs stand.1 (All-tail IsBelow g gs below) (All-tail FewParameters g gs few))

    pub functions_written : (P : tree.Program) → scope.table ≡ P.types → (fs : List FunctionSyntax) (gs : List Function) → Stand fs gs → All IsBelow gs
        → All FewParameters gs → All (IsWritten P) gs
    functions_written P types [] [] stand below few = All-nil (IsWritten P)
    functions_written P types [] (g ∷ gs) stand below few = absurd stand
    functions_written P types (f ∷ fs) [] stand below few = absurd stand
    functions_written P types (f ∷ fs) (g ∷ gs) stand below few =
        let one = function_well f g stand.0 (All-head IsBelow g gs below) (All-head FewParameters g gs few) in
        All-cons (IsWritten P) g gs
        (record { arms = one.arms; locals = subst (λ (T : Table). locals_in T (length g.parameters) g.body ≤ most_locals) types one.locals })
        (functions_written P types fs gs stand.1 (All-tail IsBelow g gs below) (All-tail FewParameters g gs few))
