-- Lemmas of functions: their parameters as locals, their bodies, and functions one by one.
use Rattle.std.proofs.Common.{◌≡◌, ℕ, zero, suc, ◌+◌, ◌<◌, List, [], ◌∷◌, ◌++◌, length, map, drop, take, slice_index_or, Result, Err, refl, sym, ap, ◌∙◌, arith, append_assoc}
use Rattle.std.proofs.lemmas.List.{append-nil, map-append}
use Rattle.core_terms.specs.Types.{Ty}
use Rattle.core_terms.specs.declared.format.Format.{Format}
use Rattle.core_terms.specs.Terms as tree
use Rattle.core_terms.specs.TypeTables.{type_at}
use Rattle.core_terms.specs.ProgramTrees.{expression_of, function_of, kind_of, types_at}
use Rattle.core_terms.specs.declared.term.Term.{Term}
use Rattle.core_terms.specs.declared.term.Function.{Function}
use Rattle.auth_syntax.specs.Syntax.{ExpSyntax, FunctionSyntax, ParameterSyntax, place_of}
use Rattle.auth_syntax.specs.Trees as written
use Rattle.lexemes.specs.declared.place.Place.{Place}
use Rattle.auth_syntax.specs.declared.tree.Parameter.{Parameter}
use Rattle.declared_types.specs.Checking.{Checking, Sound, FaultAt, then_checked}
use Rattle.auth_types.specs.Bodies.{Local, checked_function, checked_functions, elaborated, parameter_locals, wanted}
use Rattle.declared_types.specs.Signatures.{Scope, Signature}
use Rattle.declared_types.specs.DeclaredPrograms.{signature_of}
use Rattle.auth_types.specs.Elaborators.{boxed_of, found_at, locals_of, scope_of, types_of}
use Rattle.declared_types.specs.Scopes.{signature_meant}
use Rattle.declared_types.specs.declared.scope.Head.{Head}
use Rattle.auth_types.specs.declared.bodies.elaborator.Elaborator.{Elaborator}
use Rattle.declared_types.specs.OverTypes.{FindsOver, Grows, Shows}
use Rattle.declared_types.specs.RoleKinds.{kind_meant}
use Rattle.declared_types.specs.WrittenTypes.{type_meant}
use Rattle.declared_types.specs.declared.fault.TypeKind.{TypeKind}
use Rattle.declared_types.specs.Findings.{TypeFault}
use Rattle.auth_types.proofs.FindingSteps.{fault_first}

-- parameters as locals of these types
abbrev pub entered : List Parameter → List Ty → List Local
entered (p ∷ ps) (t ∷ ts) = record { name = p.name.name; of_type = t } ∷ entered ps ts
entered ps ts = []

-- the types that parameters are written with
abbrev pub types_written : Format → List (List ℕ) → List Parameter → List Ty
types_written format names ps = map (λ (p : ParameterSyntax). type_meant format names p.of_type) (map written.parameter_of ps)

pub entered_all : (format : Format) (names : List (List ℕ)) (ps : List Parameter) → entered ps (types_written format names ps) ≡ parameter_locals format names
    (map written.parameter_of ps)
entered_all format names [] = refl
entered_all format names (p ∷ ps) = ap (λ ls. record { name = p.name.name; of_type = type_meant format names (written.type_of p.of_type) } ∷ ls)
    (entered_all format names ps)

-- one parameter more, and the last one
pub entered_more : (ps : List Parameter) (ts : List Ty) (i : ℕ) (p : Parameter) (t : Ty) (locals inner all : List Local)
    → drop i ps ≡ p ∷ drop (i + 1) ps → drop i ts ≡ t ∷ drop (i + 1) ts
    → locals ++ entered (drop i ps) (drop i ts) ≡ all → inner ≡ locals ++ record { name = p.name.name; of_type = t } ∷ []
    → inner ++ entered (drop (i + 1) ps) (drop (i + 1) ts) ≡ all
entered_more ps ts i p t locals inner all here there so_far is =
    ap (λ ls. ls ++ entered (drop (i + 1) ps) (drop (i + 1) ts)) is
    ∙ append_assoc locals (record { name = p.name.name; of_type = t } ∷ []) (entered (drop (i + 1) ps) (drop (i + 1) ts))
    ∙ sym (ap (λ l. locals ++ entered l (drop i ts)) here ∙ ap (λ l. locals ++ entered (p ∷ drop (i + 1) ps) l) there) ∙ so_far

pub entered_last : (format : Format) (names : List (List ℕ)) (ps : List Parameter) (ts : List Ty) (i : ℕ) (before locals : List Local) → drop i ps ≡ [] → before ≡ []
    → ts ≡ types_written format names ps
    → locals ++ entered (drop i ps) (drop i ts) ≡ before ++ entered ps ts → locals ≡ parameter_locals format names (map written.parameter_of ps)
entered_last format names ps ts i before locals none nothing same so_far =
    sym (append-nil locals) ∙ sym (ap (λ l. locals ++ entered l (drop i ts)) none) ∙ so_far ∙ ap (λ ls. ls ++ entered ps ts) nothing
    ∙ ap (entered ps) same ∙ entered_all format names ps

-- functions before others
abbrev pub functions_behind : List tree.Function → Checking (List tree.Function) → Checking (List tree.Function)
functions_behind gs found = then_checked found (λ fs. Sound (gs ++ fs))

functions_behind_one : (gs : List tree.Function) (g : tree.Function) (found : Checking (List tree.Function))
    → functions_behind gs (then_checked found (λ fs. Sound (g ∷ fs))) ≡ functions_behind (gs ++ g ∷ []) found
functions_behind_one gs g (Sound fs) = ap Sound (sym (append_assoc gs (g ∷ []) fs))
functions_behind_one gs g (FaultAt kind at) = refl

module _ (names : List (List ℕ)) (scope : Scope) (fs : List FunctionSyntax) (i : ℕ) (f : FunctionSyntax) (here : drop i fs ≡ f ∷ drop (i + 1) fs)
    (gs : List Function) (all : Checking (List tree.Function)) where
  abbrev next_function : Checking tree.Function → Checking (List tree.Function)
  next_function found = then_checked found (λ g. then_checked (checked_functions names scope (drop (i + 1) fs)) (λ fs. Sound (g ∷ fs)))

  pub functions_more : (old new : List Ty) (g : Function) → Grows old new
      → ((more : List Ty) → all ≡ functions_behind (map (function_of (old ++ more)) gs) (checked_functions names scope (drop i fs)))
      → Shows new function_of (checked_function names scope f) g
      → (more : List Ty) → all ≡ functions_behind (map (function_of (new ++ more)) (gs ++ g ∷ [])) (checked_functions names scope (drop (i + 1) fs))
  functions_more old new g (m, grows) so_far shown more =
      let types : new ++ more ≡ old ++ (m ++ more) = ap (λ l. l ++ more) grows ∙ append_assoc old m more in
      let before = map (function_of (new ++ more)) gs in
      so_far (m ++ more) ∙ ap (λ l. functions_behind (map (function_of l) gs) (checked_functions names scope (drop i fs))) (sym types)
      ∙ ap (λ l. functions_behind before (checked_functions names scope l)) here
      ∙ ap (λ found. functions_behind before (next_function found)) (shown more)
      ∙ functions_behind_one before (function_of (new ++ more) g) (checked_functions names scope (drop (i + 1) fs))
      ∙ ap (λ gs. functions_behind gs (checked_functions names scope (drop (i + 1) fs))) (sym (map-append (function_of (new ++ more)) gs (g ∷ [])))

  pub functions_refused : (old : List Ty) (kind : TypeKind) (at : Place)
      → ((more : List Ty) → all ≡ functions_behind (map (function_of (old ++ more)) gs) (checked_functions names scope (drop i fs)))
      → checked_function names scope f ≡ FaultAt kind at → all ≡ FaultAt kind at
  functions_refused old kind at so_far is =
      so_far [] ∙ ap (λ l. functions_behind (map (function_of (old ++ [])) gs) (checked_functions names scope l)) here
      ∙ ap (λ found. functions_behind (map (function_of (old ++ [])) gs) (next_function found)) is

-- a function, whose body is refused, and whose body is found
module _ (names : List (List ℕ)) (scope : Scope) (f : FunctionSyntax) where
  abbrev pub body_found : Checking tree.Expression
  body_found = wanted (place_of f.body) (type_meant scope.format names f.result_type) (elaborated scope (parameter_locals scope.format names f.parameters) f.body)

  abbrev with_body : tree.Expression → tree.Function
  with_body body = record {
    name = f.name.name;
    kind = kind_meant f.kind;
    parameters = map (λ (p : ParameterSyntax). type_meant scope.format names p.of_type) f.parameters;
    result = type_meant scope.format names f.result_type;
    body = body;
  }

  pub function_refused : (types new : List Ty) (fault : TypeFault) (r : Result Function TypeFault) → r ≡ Err fault
      → FindsOver types boxed_of body_found (Err fault) → FindsOver new function_of (checked_function names scope f) r
  function_refused types new fault r is h = fault_first types new boxed_of function_of body_found (λ body. Sound (with_body body)) fault r is h

  pub function_shows : (types : List Ty) (g : Function) (body : Term) → g.name ≡ f.name.name → kind_of g.kind ≡ kind_meant f.kind
      → ((more : List Ty) → types_at (types ++ more) g.parameters.items ≡ map (λ (p : ParameterSyntax). type_meant scope.format names p.of_type) f.parameters)
      → ((more : List Ty) → type_at (types ++ more) g.result ≡ type_meant scope.format names f.result_type) → g.body ≡ body
      → Shows types expression_of body_found body → Shows types function_of (checked_function names scope f) g
  function_shows types g body same_name same_kind same_parameters same_result same_body shown = λ more.
      let ps = same_parameters more in
      let r = same_result more in
      let e : expression_of (types ++ more) g.body ≡ expression_of (types ++ more) body = ap (expression_of (types ++ more)) same_body in
      ap (λ found. then_checked found (λ body. Sound (with_body body))) (shown more) ∙ cc

-- no function is left
pub functions_last : (types : List Ty) (names : List (List ℕ)) (scope : Scope) (fs : List FunctionSyntax) (i : ℕ) (gs : List Function)
    (all : Checking (List tree.Function)) → drop i fs ≡ []
    → ((more : List Ty) → all ≡ functions_behind (map (function_of (types ++ more)) gs) (checked_functions names scope (drop i fs)))
    → all ≡ Sound (map (function_of types) gs)
functions_last types names scope fs i gs all none so_far =
    so_far [] ∙ ap (λ l. functions_behind (map (function_of (types ++ [])) gs) (checked_functions names scope l)) none
    ∙ ap Sound (append-nil (map (function_of (types ++ [])) gs)) ∙ ap (λ l. Sound (map (function_of l) gs)) (append-nil types)

-- the signature of the next head
pub head_signature : (types : List Ty) (format : Format) (names : List (List ℕ)) (heads : List Head) (i : ℕ) (h : Head) → i < length heads
    → h ≡ slice_index_or heads i h
    → map (signature_meant types) heads ≡ map (signature_of format names) (map (λ (h : Head). written.function_of h.function.now) heads)
    → signature_meant types h ≡ signature_of format names (written.function_of h.function.now)
head_signature types format names [] i h inside is same = absurd (omega arith)
head_signature types format names (g ∷ heads) zero h inside is same =
    let first : signature_meant types g ≡ signature_of format names (written.function_of g.function.now) = cc in
    ap (signature_meant types) is ∙ first ∙ ap (λ (h : Head). signature_of format names (written.function_of h.function.now)) (sym is)
head_signature types format names (g ∷ heads) (suc i) h inside is same =
    let others : map (signature_meant types) heads ≡ map (signature_of format names) (map (λ (h : Head). written.function_of h.function.now) heads) = cc in
    head_signature types format names heads i h (omega arith) is others

-- what stands for each so far, and for the next one
pub taken_more : {A B C : Type 0} (g : C → B) (f : A → B) (zs : List C) (z : C) (xs : List A) (i : ℕ) (x : A) → i < length xs
    → x ≡ slice_index_or xs i x → map g zs ≡ take i (map f xs) → g z ≡ f x → map g (zs ++ z ∷ []) ≡ take (i + 1) (map f xs)
taken_more {A} g f zs z xs i x inside is so_far same =
    map-append g zs (z ∷ []) ∙ ap (λ l. l ++ g z ∷ []) so_far ∙ ap (λ y. take i (map f xs) ++ y ∷ []) same ∙ by xs i inside is
  where
    by : (xs : List A) (i : ℕ) → i < length xs → x ≡ slice_index_or xs i x → take i (map f xs) ++ f x ∷ [] ≡ take (i + 1) (map f xs)
    by [] i inside is = absurd (omega arith)
    by (y ∷ xs) zero inside is = ap (λ y. f y ∷ []) is
    by (y ∷ xs) (suc i) inside is =
        let one : suc i + 1 ≡ suc (i + 1) = omega arith in
        ap (λ l. f y ∷ l) (by xs i (omega arith) is) ∙ sym (ap (λ n. take n (map f (y ∷ xs))) one)

-- the body of a function, behind its parameters
pub body_is : (a b : Elaborator) (names : List (List ℕ)) (head : Head) (at : Place) (x : ExpSyntax) → types_of b ≡ types_of a
    → scope_of b ≡ scope_of a
    → signature_meant (types_of a) head ≡ signature_of (scope_of a).format names (written.function_of head.function.now)
    → locals_of b ≡ parameter_locals (scope_of a).format names (map written.parameter_of head.function.now.parameters.items)
    → wanted at (type_at (types_of b) head.result) (found_at b x)
    ≡ wanted at (type_meant (scope_of a).format names (written.type_of head.function.now.result_type))
    (elaborated (scope_of a) (parameter_locals (scope_of a).format names (map written.parameter_of head.function.now.parameters.items)) x)
body_is a b names head at x types scope signature locals =
    ap (λ l. wanted at (type_at l head.result) (found_at b x)) types
    ∙ ap (λ t. wanted at t (found_at b x)) (ap (λ (s : Signature). s.result) signature)
    ∙ ap (λ s. wanted at (type_meant (scope_of a).format names (written.type_of head.function.now.result_type)) (elaborated s (locals_of b) x)) scope
    ∙ ap (λ ls. wanted at (type_meant (scope_of a).format names (written.type_of head.function.now.result_type)) (elaborated (scope_of a) ls x)) locals
