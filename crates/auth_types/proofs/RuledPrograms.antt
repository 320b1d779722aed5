-- The fourth pass is by the typing rules of bodies, and all passes together by the rules of programs.
use Rattle.std.proofs.Common.{◌≡◌, ℕ, List, [], ◌∷◌, ◌++◌, ◌⊎◌, inl, inr, length, map, refl, sym, ap, ap₂, ◌∙◌, subst, None}
use Rattle.std.specs.List.{AllZip}
use Rattle.std.proofs.lemmas.List.{length-map}
use Rattle.core_terms.specs.Types.{Ty}
use Rattle.core_terms.specs.declared.format.Format.{Format}
use Rattle.core_terms.specs.Terms.{Expression, Function}
use Rattle.core_terms.specs.Terms as tree
use Rattle.lexemes.specs.declared.place.Place.{Place}
use Rattle.auth_syntax.specs.Syntax.{ExpSyntax, ConstructorDeclaration, DeclarationSyntax, TypeDeclaration, StateDeclaration, FunctionDeclaration, FunctionSyntax, ParameterSyntax, Program, place_of}
use Rattle.declared_types.specs.Checking.{Checking, Sound, FaultAt, then_checked}
use Rattle.declared_types.specs.Declarations.{first_pass}
use Rattle.declared_types.specs.WrittenTypes.{functions_in, second_pass, table_of, type_meant}
use Rattle.declared_types.specs.RoleKinds.{kind_meant}
use Rattle.auth_types.specs.Bodies.{Local, checked_function, checked_functions, elaborated, parameter_locals, wanted}
use Rattle.declared_types.specs.Signatures.{Scope}
use Rattle.auth_types.specs.CheckedPrograms.{FirstFault, IsProgram, all_passes, as_checked, checked, fourth_pass, program_format}
use Rattle.declared_types.specs.DeclaredPrograms.{constructors_in, format_of, names_of, scope_of, state_of, table_of_program, third_pass}
use Rattle.auth_types.specs.InOrder.{OneBreaks, ThisBreaks, LaterBreaks}
use Rattle.auth_types.specs.TypingRules.{Elaborates}
use Rattle.auth_types.specs.BrokenRules.{Misfits}
use Rattle.auth_types.specs.TypingLaws.{DenotesWhatPasses, IsWhole, TellsTheFirst}
use Rattle.auth_types.specs.DeclarationRules.{AreDeclared, AreKnown, BreaksDeclared, BreaksTypeNames}
use Rattle.auth_types.specs.ProgramRules.{AreRoles, BreaksBodies, BreaksBody, BreaksProgram, BreaksRoles, Denotes, HasBody, InBodies, InDeclared, InRoles, InTypeNames, FunctionStandsFor}
use Rattle.declared_types.specs.declared.fault.TypeKind.{TypeKind}
use Rattle.auth_types.proofs.Judging.{wanted_is}
use Rattle.auth_types.proofs.JudgedBodies.{judged, wanted_judged}
use Rattle.auth_types.proofs.RuledBodies.{misfit_told, passes}
use Rattle.auth_types.proofs.Ruled.{Ruled, ruled_fault_is, ruled_like, ruled_sound, ruled_sound_is, ruled_then}
use Rattle.auth_types.proofs.RuledDeclarations.{declared_ruled}
use Rattle.auth_types.proofs.RuledTypeNames.{names_ruled}
use Rattle.auth_types.proofs.RuledRoles.{roles_ruled}

module _ (names : List (List ℕ)) (scope : Scope) (whole : IsWhole scope) where
  -- an expression of which a type is wanted
  wanted_ruled : (locals : List Local) (t : Ty) (body : ExpSyntax)
      → Ruled (wanted (place_of body) t (elaborated scope locals body)) (λ x. Elaborates scope locals body x t) (Misfits scope locals t body)
  wanted_ruled locals t body = record {
    judged = wanted_judged scope locals t body (elaborated scope locals body) (judged scope whole locals body);
    passes = λ x h. wanted_is (place_of body) t (elaborated scope locals body) x (passes scope h);
    tells = λ kind at m. misfit_told scope m;
  }

  -- a function with a body
  abbrev with_body : FunctionSyntax → Expression → Function
  with_body f body = record {
    name = f.name.name;
    kind = kind_meant f.kind;
    parameters = map (λ (p : ParameterSyntax). type_meant scope.format names p.of_type) f.parameters;
    result = type_meant scope.format names f.result_type;
    body = body;
  }

  function_ruled : (before : List FunctionSyntax) (f : FunctionSyntax) → Ruled (checked_function names scope f) (FunctionStandsFor names scope f) (BreaksBody names scope before f)
  function_ruled before f =
      let locals = parameter_locals scope.format names f.parameters in
      let t = type_meant scope.format names f.result_type in
      let Q : Expression → Type 0 = λ x. Elaborates scope locals f.body x t in
      ruled_like (checked_function names scope f) (λ g. (x : Expression) × Q x × (with_body f x ≡ g)) (FunctionStandsFor names scope f)
      (λ kind at. Misfits scope locals t f.body kind at ⊎ ((x : Expression) × Q x × ⊥)) (BreaksBody names scope before f)
      (λ g (x, h, is). subst (FunctionStandsFor names scope f) is (record { name = refl; kind = refl; parameters = refl; result = refl; body = h }))
      (λ g h. (g.body, h.body, same g h)) (λ kind at b. breaks kind at b) (λ kind at b. inl b)
      (ruled_then Q (Misfits scope locals t f.body) (λ x g. with_body f x ≡ g) (λ x kind at. ⊥) (wanted (place_of f.body) t (elaborated scope locals f.body)) (λ x. Sound (with_body f x))
      (wanted_ruled locals t f.body) (λ x h. ruled_sound (with_body f x)))
    where
      same : (g : Function) → FunctionStandsFor names scope f g → with_body f g.body ≡ g
      same g h = by g.name g.kind g.parameters g.result (sym h.name) (sym h.kind) (sym h.parameters) (sym h.result)
        where
          by : (name : List ℕ) (kind : tree.Kind) (parameters : List Ty) (result : Ty) → f.name.name ≡ name → kind_meant f.kind ≡ kind
              → map (λ (p : ParameterSyntax). type_meant scope.format names p.of_type) f.parameters ≡ parameters → type_meant scope.format names f.result_type ≡ result
              → with_body f g.body ≡ record { name = name; kind = kind; parameters = parameters; result = result; body = g.body }
          by name kind parameters result a b c d = cc

      breaks : (kind : TypeKind) (at : Place) → Misfits scope (parameter_locals scope.format names f.parameters) (type_meant scope.format names f.result_type) f.body kind at
          ⊎ ((x : Expression) × Elaborates scope (parameter_locals scope.format names f.parameters) f.body x (type_meant scope.format names f.result_type) × ⊥) → BreaksBody names scope before f kind at
      breaks kind at (inl m) = m
      breaks kind at (inr (x, h, never)) = absurd never

  abbrev Stand : List FunctionSyntax → List Function → Type 0
  Stand fs gs = AllZip (FunctionStandsFor names scope) fs gs

  abbrev Broken : List FunctionSyntax → List FunctionSyntax → TypeKind → Place → Type 0
  Broken before fs kind at = OneBreaks (HasBody names scope) (BreaksBody names scope) before fs kind at

  functions_ruled : (before fs : List FunctionSyntax) → Ruled (checked_functions names scope fs) (Stand fs) (Broken before fs)
  functions_ruled before [] = record { judged = tt; passes = none; tells = λ kind at b. absurd (elim b [ ]) }
    where
      none : (gs : List Function) → Stand [] gs → Sound [] ≡ Sound gs
      none [] h = refl
      none (g ∷ gs) h = absurd h
  functions_ruled before (f ∷ rest) =
      let found = checked_functions names scope (f ∷ rest) in
      let behind = before ++ f ∷ [] in
      let Rest : Function → List Function → Type 0 = λ g gs. (hs : List Function) × Stand rest hs × (g ∷ hs ≡ gs) in
      let Later : TypeKind → Place → Type 0 = λ kind at. Broken behind rest kind at ⊎ ((hs : List Function) × Stand rest hs × ⊥) in
      ruled_like found (λ gs. (g : Function) × FunctionStandsFor names scope f g × Rest g gs) (Stand (f ∷ rest))
      (λ kind at. BreaksBody names scope before f kind at ⊎ ((g : Function) × FunctionStandsFor names scope f g × Later kind at)) (Broken before (f ∷ rest))
      (λ gs (g, hg, (hs, hhs, is)). subst (Stand (f ∷ rest)) is (hg, hhs)) apart (λ kind at b. breaks kind at b) (λ kind at b. broken kind at b)
      (ruled_then (FunctionStandsFor names scope f) (BreaksBody names scope before f) Rest (λ g. Later) (checked_function names scope f)
      (λ g. then_checked (checked_functions names scope rest) (λ hs. Sound (g ∷ hs))) (function_ruled before f)
      (λ g hg. ruled_then (Stand rest) (Broken behind rest) (λ hs gs. g ∷ hs ≡ gs) (λ hs kind at. ⊥) (checked_functions names scope rest) (λ hs. Sound (g ∷ hs)) (functions_ruled behind rest)
      (λ hs hhs. ruled_sound (g ∷ hs))))
    where
      apart : (gs : List Function) → Stand (f ∷ rest) gs → (g : Function) × FunctionStandsFor names scope f g × ((hs : List Function) × Stand rest hs × (g ∷ hs ≡ gs))
      apart [] h = absurd h
      apart (g ∷ gs) h = (g, h.0, (gs, h.1, refl))

      breaks : (kind : TypeKind) (at : Place)
          → BreaksBody names scope before f kind at ⊎ ((g : Function) × FunctionStandsFor names scope f g × (Broken (before ++ f ∷ []) rest kind at ⊎ ((hs : List Function) × Stand rest hs × ⊥)))
          → Broken before (f ∷ rest) kind at
      breaks kind at (inl b) = ThisBreaks b
      breaks kind at (inr (g, hg, inl b)) = LaterBreaks (g, hg) b
      breaks kind at (inr (g, hg, inr (hs, hhs, never))) = absurd never

      broken : (kind : TypeKind) (at : Place) → Broken before (f ∷ rest) kind at
          → BreaksBody names scope before f kind at ⊎ ((g : Function) × FunctionStandsFor names scope f g × (Broken (before ++ f ∷ []) rest kind at ⊎ ((hs : List Function) × Stand rest hs × ⊥)))
      broken kind at (ThisBreaks b) = inl b
      broken kind at (LaterBreaks (g, hg) b) = inr (g, hg, inl b)

-- each constructor that is declared has its name and its fields
scope_whole : (format : Format) (names : List (List ℕ)) (ds : List DeclarationSyntax) → map length (constructors_in ds) ≡ map length (table_of format names ds)
scope_whole format names [] = refl
scope_whole format names (TypeDeclaration at name constructors ∷ rest) =
    ap₂ (λ n l. n ∷ l) (length-map constructors (λ (c : ConstructorDeclaration). c.name.name) ∙ sym (length-map constructors (λ (c : ConstructorDeclaration). map (type_meant format names) c.fields))) (scope_whole format names rest)
scope_whole format names (StateDeclaration at of_type ∷ rest) = scope_whole format names rest
scope_whole format names (FunctionDeclaration at function ∷ rest) = scope_whole format names rest

module _ (program : Program) where
  -- the program with these functions
  abbrev with_functions : List Function → tree.Program
  with_functions functions = record { format = program_format program; types = table_of_program program; state = state_of program; functions = functions; code = None }

  abbrev Functions : List Function → Type 0
  Functions = AllZip (FunctionStandsFor (names_of program) (scope_of program)) (functions_in program.declarations)

  -- what is behind a pass
  abbrev behind_third : Checking tree.Program
  behind_third = then_checked (fourth_pass program) (λ functions. Sound (with_functions functions))

  abbrev behind_second : Checking tree.Program
  behind_second = then_checked (third_pass program) (λ _. behind_third)

  abbrev behind_first : Checking tree.Program
  behind_first = then_checked (second_pass program) (λ _. behind_second)

  abbrev Fourth : tree.Program → Type 0
  Fourth P = (functions : List Function) × Functions functions × (with_functions functions ≡ P)

  abbrev FourthBreaks : TypeKind → Place → Type 0
  FourthBreaks kind at = BreaksBodies program kind at ⊎ ((functions : List Function) × Functions functions × ⊥)

  abbrev Third : tree.Program → Type 0
  Third P = (u : Unit {0}) × AreRoles program × Fourth P

  abbrev ThirdBreaks : TypeKind → Place → Type 0
  ThirdBreaks kind at = BreaksRoles program kind at ⊎ ((u : Unit {0}) × AreRoles program × FourthBreaks kind at)

  abbrev Second : tree.Program → Type 0
  Second P = (u : Unit {0}) × AreKnown program × Third P

  abbrev SecondBreaks : TypeKind → Place → Type 0
  SecondBreaks kind at = BreaksTypeNames program kind at ⊎ ((u : Unit {0}) × AreKnown program × ThirdBreaks kind at)

  abbrev First : tree.Program → Type 0
  First P = (u : Unit {0}) × AreDeclared program × Second P

  abbrev FirstBreaks : TypeKind → Place → Type 0
  FirstBreaks kind at = BreaksDeclared program kind at ⊎ ((u : Unit {0}) × AreDeclared program × SecondBreaks kind at)

  fourth_ruled : Ruled behind_third Fourth FourthBreaks
  fourth_ruled =
      ruled_then Functions (BreaksBodies program) (λ functions P. with_functions functions ≡ P) (λ _ kind at. ⊥) (fourth_pass program) (λ functions. Sound (with_functions functions))
      (functions_ruled (names_of program) (scope_of program) (scope_whole (format_of program) (names_of program) program.declarations) [] (functions_in program.declarations)) (λ functions h. ruled_sound (with_functions functions))

  steps_ruled : Ruled (all_passes program) First FirstBreaks
  steps_ruled =
      ruled_then (λ _. AreDeclared program) (BreaksDeclared program) (λ _. Second) (λ _. SecondBreaks) (first_pass program) (λ _. behind_first) (declared_ruled program)
      (λ _ _. ruled_then (λ _. AreKnown program) (BreaksTypeNames program) (λ _. Third) (λ _. ThirdBreaks) (second_pass program) (λ _. behind_second) (names_ruled program)
      (λ _ _. ruled_then (λ _. AreRoles program) (BreaksRoles program) (λ _. Fourth) (λ _. FourthBreaks) (third_pass program) (λ _. behind_third)
      (roles_ruled (format_of program) (names_of program) (table_of_program program) (state_of program) (functions_in program.declarations))
      (λ _ _. fourth_ruled)))

  denotes : (P : tree.Program) → First P → Denotes program P
  denotes P (u, declared, (v, known, (w, roles, (functions, h, is)))) =
      subst (Denotes program) is (record { declared = declared; known = known; roles = roles; functions = h; types = refl; state = refl; format = refl; code = refl })

  denoted : (P : tree.Program) → Denotes program P → First P
  denoted P h = (tt, h.declared, (tt, h.known, (tt, h.roles, (P.functions, h.functions, by P.format P.types P.state P.code (sym h.format) (sym h.types) (sym h.state) (sym h.code)))))
    where
      by : (format : _) (types : List (List (List Ty))) (state : Ty) (code : _) → program_format program ≡ format → table_of_program program ≡ types → state_of program ≡ state → None ≡ code
          → with_functions P.functions ≡ record { format = format; types = types; state = state; functions = P.functions; code = code }
      by format types state code a b c d = cc

  breaks : (kind : TypeKind) (at : Place) → FirstBreaks kind at → BreaksProgram program kind at
  breaks kind at (inl b) = InDeclared b
  breaks kind at (inr (u, declared, inl b)) = InTypeNames declared b
  breaks kind at (inr (u, declared, inr (v, known, inl b))) = InRoles declared known b
  breaks kind at (inr (u, declared, inr (v, known, inr (w, roles, inl b)))) = InBodies declared known roles b
  breaks kind at (inr (u, declared, inr (v, known, inr (w, roles, inr (functions, h, never))))) = absurd never

  broken : (kind : TypeKind) (at : Place) → BreaksProgram program kind at → FirstBreaks kind at
  broken kind at (InDeclared b) = inl b
  broken kind at (InTypeNames declared b) = inr (tt, declared, inl b)
  broken kind at (InRoles declared known b) = inr (tt, declared, inr (tt, known, inl b))
  broken kind at (InBodies declared known roles b) = inr (tt, declared, inr (tt, known, inr (tt, roles, inl b)))

  passes_ruled : Ruled (all_passes program) (Denotes program) (BreaksProgram program)
  passes_ruled = ruled_like (all_passes program) First (Denotes program) FirstBreaks (BreaksProgram program) denotes denoted breaks broken steps_ruled

-- as it is told outside
program_is : (found : Checking tree.Program) (P : tree.Program) → as_checked found ≡ IsProgram P → found ≡ Sound P
program_is (Sound Q) P is = cc
program_is (FaultAt kind at) P is = absurd (cc)

fault_is : (found : Checking tree.Program) (kind : TypeKind) (line column : ℕ) → as_checked found ≡ FirstFault kind line column
    → (at : Place) × (at.line ≡ line) × (at.column ≡ column) × (found ≡ FaultAt kind at)
fault_is (Sound Q) kind line column is = absurd (cc)
fault_is (FaultAt k at) kind line column is = (at, cc, cc, cc)

pub denotes_what_passes : DenotesWhatPasses
unfolding checked
denotes_what_passes program P = (
  λ is. ruled_sound_is (all_passes program) (Denotes program) (BreaksProgram program) P (passes_ruled program) (program_is (all_passes program) P is),
  λ h. ap as_checked ((passes_ruled program).passes P h),
)

pub tells_the_first : TellsTheFirst
unfolding checked
tells_the_first program kind line column = (
  λ is. let (at, l, c, found) = fault_is (all_passes program) kind line column is in
      (at, l, c, ruled_fault_is (all_passes program) (Denotes program) (BreaksProgram program) kind at (passes_ruled program) found),
  λ (at, l, c, b). ap as_checked ((passes_ruled program).tells kind at b) ∙ ap₂ (FirstFault kind) l c,
)
