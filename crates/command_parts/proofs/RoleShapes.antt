-- What the code's roles say of the functions that they are.
use Rattle.std.proofs.Common.{◌≡◌, ℕ, ◌<◌, Bool, true, false, List, [], ◌∷◌, length, map, Option, Some, None, option_map, slice_get, slice_index_or, unwrap_or, if◌then◌else◌, refl, sym, ap, ◌∙◌, subst}
use Rattle.std.specs.List.{All}
use Rattle.std.proofs.lemmas.Option.{get_or_from_slice_get, slice_get-map, slice_get_within}
use Rattle.core_terms.specs.Programs.{meaning, types_of}
use Rattle.core_terms.specs.RoleViews as views
use Rattle.core_terms.specs.RoleViews.{role_kind_of}
use Rattle.core_terms.specs.Roles as definition
use Rattle.core_terms.specs.RoleTypes as role_types
use Rattle.core_terms.specs.Roles.{argument_place, is_entered, program_roles, role_named}
use Rattle.core_terms.specs.RoleTypes.{HasRoleShape, IsRole, ReadsState, role_function, role_parameters}
use Rattle.core_terms.specs.Terms as tree
use Rattle.core_terms.specs.Terms.{function_at, no_function}
use Rattle.core_terms.specs.Types.{Ty, UnitTy}
use Rattle.core_terms.specs.TypeTables.{type_at}
use Rattle.core_terms.specs.declared.program.Program.{Program}
use Rattle.core_terms.specs.declared.roles.Role.{Role}
use Rattle.printed_lines.specs.declared.refusal.InputFault.TheVariants.{RoleKind, RoleUnknown}
use Rattle.command_parts.specs.RoleInputs.{with_role, with_role_at}
use Rattle.command_parts.specs.AnswerForms.{Answer}
use Rattle.command_parts.specs.RefusedAnswers.{input_refused}
use Rattle.command_parts.specs.RoleCalls.{is_called, type_passed}
use Rattle.command_parts.specs.RolesCalled.{CallsOnStates, IsCalled, MakesStates, role_of}
use Rattle.command_parts.specs.declared.roles.CalledRole.{CalledRole}
use Rattle.command_parts.specs.declared.roles.Callee.{Callee}
use Rattle.command_parts.specs.declared.roles.Callee.TheVariants as callees

-- ---- the role that was found by its name

-- the place is that of a role of the program, whose function has the name
record IsNamed (p : Program) (name : List ℕ) (n : ℕ) : Type 0 where
  pub role : definition.Role
  pub there : slice_get (program_roles (meaning p)) n ≡ Some role
  pub named : role_named (meaning p) name ≡ Some role.function

is_named : (p : Program) (name : List ℕ) (n : ℕ) → Some (role_function (meaning p) n) ≡ option_map Some (role_named (meaning p) name) → IsNamed p name n
is_named p name n e = by (role_named (meaning p) name) refl e
  where
    at_place : (f : ℕ) → role_named (meaning p) name ≡ Some f → (o : Option definition.Role) → slice_get (program_roles (meaning p)) n ≡ o
        → option_map (λ (role : definition.Role). role.function) o ≡ Some f → IsNamed p name n
    at_place f found None at e = absurd (cc)
    at_place f found (Some role) at e = let same : role.function ≡ f = cc in record { role = role; there = at; named = found ∙ ap Some (sym same) }

    by : (o : Option ℕ) → role_named (meaning p) name ≡ o → Some (role_function (meaning p) n) ≡ option_map Some o → IsNamed p name n
    by None found e = absurd (cc)
    by (Some f) found e =
        let same : role_function (meaning p) n ≡ Some f = cc in
        at_place f found (slice_get (program_roles (meaning p)) n) refl same

module _ (p : Program) (name : List ℕ) (n : ℕ) (roles : List Role) (all : map (views.role_of (types_of p)) roles ≡ program_roles (meaning p))
    (found : Some (role_function (meaning p) n) ≡ option_map Some (role_named (meaning p) name)) where
  abbrev named : IsNamed p name n
  named = is_named p name n found

  told : option_map (views.role_of (types_of p)) (slice_get roles n) ≡ Some named.role
  told = sym (slice_get-map (views.role_of (types_of p)) roles n) ∙ ap (λ rs. slice_get rs n) all ∙ named.there

  of_code : (role : Role) × (slice_get roles n ≡ Some role) × (views.role_of (types_of p) role ≡ named.role)
  of_code = by (slice_get roles n) refl told
    where
      by : (o : Option Role) → slice_get roles n ≡ o → option_map (views.role_of (types_of p)) o ≡ Some named.role
          → (role : Role) × (slice_get roles n ≡ Some role) × (views.role_of (types_of p) role ≡ named.role)
      by None at e = absurd (cc)
      by (Some role) at e = (role, at, cc)

  pub role_inside : n < length roles
  role_inside = slice_get_within roles n of_code.0 of_code.1

  module _ (role none : Role) (is : role ≡ slice_index_or roles n none) where
    same_role : views.role_of (types_of p) role ≡ named.role
    same_role = ap (views.role_of (types_of p)) (is ∙ get_or_from_slice_get roles n of_code.0 none of_code.1) ∙ of_code.2

    pub role_is_named : role_named (meaning p) name ≡ Some role.function.0
    role_is_named = named.named ∙ ap (λ (r : definition.Role). Some r.function) (sym same_role)

    pub role_has_shape : All (HasRoleShape (meaning p)) (program_roles (meaning p)) → HasRoleShape (meaning p) (views.role_of (types_of p) role)
    role_has_shape shapes =
        subst (HasRoleShape (meaning p)) (get_or_from_slice_get (program_roles (meaning p)) n named.role named.role named.there ∙ sym same_role)
        (shapes n named.role (slice_get_within (program_roles (meaning p)) n named.role named.there))

-- ---- its function

-- the function of a role is that with its number
function_is : (P : tree.Program) (f : ℕ) (kind : tree.Kind) (argument answer : Ty) (role : IsRole P f kind argument answer) → role.function ≡ function_at P f
function_is P f kind argument answer role = sym (ap (λ o. unwrap_or o no_function) role.there)

module _ (P : tree.Program) (f : ℕ) (kind : tree.Kind) (argument answer : Ty) (role : IsRole P f kind argument answer) where
  abbrev own : role.function ≡ function_at P f
  own = function_is P f kind argument answer role

  pub kind_is : (function_at P f).kind ≡ kind
  kind_is = ap (λ (g : tree.Function). g.kind) (sym own) ∙ role.of_kind

  pub parameters_are : (function_at P f).parameters ≡ role_parameters kind P.state argument
  parameters_are = ap (λ (g : tree.Function). g.parameters) (sym own) ∙ role.parameters

  pub result_is : (function_at P f).result ≡ role_types.role_result kind P.state answer
  result_is = ap (λ (g : tree.Function). g.result) (sym own) ∙ role.result

  pub function_there : f < length P.functions
  function_there = slice_get_within P.functions f role.function role.there

at_its_place : (kind : tree.Kind) (state argument : Ty) → is_entered kind ≡ true → slice_index_or (role_parameters kind state argument) (argument_place kind) UnitTy ≡ argument
at_its_place tree.Inner state argument e = absurd (cc)
at_its_place tree.Init state argument e = refl
at_its_place tree.Query state argument e = refl
at_its_place tree.Update state argument e = refl

-- the type of what is passed is that which the code holds
pub passed_is : (callee : Callee) (p : Program) (called : CalledRole) → IsCalled callee p called → type_passed (role_of p called) ≡ type_at (types_of p) called.argument
passed_is callee p called is =
    let P = meaning p in
    let f = called.function.0 in
    let kind = role_kind_of called.kind in
    let argument = type_at (types_of p) called.argument in
    ap (λ k. slice_index_or (function_at P f).parameters (argument_place k) UnitTy) (kind_is P f kind argument is.answer is.shape)
    ∙ ap (λ ts. slice_index_or ts (argument_place kind) UnitTy) (parameters_are P f kind argument is.answer is.shape)
    ∙ at_its_place kind P.state argument is.shape.entered

-- the parameters of an init, and of a role that reads a state
pub init_takes : (P : tree.Program) (f : ℕ) (kind : tree.Kind) (argument answer : Ty) → IsRole P f kind argument answer → kind ≡ tree.Init → (function_at P f).parameters ≡ argument ∷ []
init_takes P f kind argument answer role same = parameters_are P f kind argument answer role ∙ ap (λ k. role_parameters k P.state argument) same

two_taken : (kind : tree.Kind) (state argument : Ty) → ReadsState kind → role_parameters kind state argument ≡ state ∷ argument ∷ []
two_taken tree.Query state argument reads = refl
two_taken tree.Update state argument reads = refl
two_taken tree.Init state argument reads = absurd reads
two_taken tree.Inner state argument reads = absurd reads

pub reader_takes : (P : tree.Program) (f : ℕ) (kind : tree.Kind) (argument answer : Ty) → IsRole P f kind argument answer → ReadsState kind
    → (function_at P f).parameters ≡ P.state ∷ argument ∷ []
reader_takes P f kind argument answer role reads = parameters_are P f kind argument answer role ∙ two_taken kind P.state argument reads

-- ---- what is gone on with

module _ (callee : Callee) (P : tree.Program) (name : List ℕ) (f : ℕ) (kind : tree.Kind) (named : role_named P name ≡ Some f) (is : (function_at P f).kind ≡ kind) (go : ℕ → Option Answer) where
  first : (b : Bool) (x y : Option Answer) → b ≡ true → (if b then x else y) ≡ x
  first true x y e = refl
  first false x y e = absurd (cc)

  second : (b : Bool) (x y : Option Answer) → b ≡ false → (if b then x else y) ≡ y
  second true x y e = absurd (cc)
  second false x y e = refl

  pub role_goes : is_called callee kind ≡ true → with_role callee P name go ≡ go f
  role_goes called = ap (λ o. with_role_at callee P o go) named ∙ first _ _ _ (ap (is_called callee) is ∙ called)

  pub role_refused : is_called callee kind ≡ false → with_role callee P name go ≡ Some (input_refused RoleKind)
  role_refused other = ap (λ o. with_role_at callee P o go) named ∙ second _ _ _ (ap (is_called callee) is ∙ other)

pub role_unknown : (callee : Callee) (P : tree.Program) (name : List ℕ) (go : ℕ → Option Answer) → None ≡ option_map Some (role_named P name)
    → with_role callee P name go ≡ Some (input_refused RoleUnknown)
role_unknown callee P name go e = by (role_named P name) e
  where
    by : (o : Option ℕ) → None ≡ option_map Some o → with_role_at callee P o go ≡ Some (input_refused RoleUnknown)
    by None e = refl
    by (Some f) e = absurd (cc)

-- ---- what a command calls

-- a command that calls roles on states calls those that read one
pub calls_reads : (callee : Callee) (kind : tree.Kind) → CallsOnStates callee → is_called callee kind ≡ true → ReadsState kind
calls_reads callees.Init kind calls called = absurd calls
calls_reads callees.OfState tree.Query calls called = tt
calls_reads callees.OfState tree.Update calls called = tt
calls_reads callees.OfState tree.Init calls called = absurd (cc)
calls_reads callees.OfState tree.Inner calls called = absurd (cc)
calls_reads callees.Update tree.Update calls called = tt
calls_reads callees.Update tree.Query calls called = absurd (cc)
calls_reads callees.Update tree.Init calls called = absurd (cc)
calls_reads callees.Update tree.Inner calls called = absurd (cc)

-- one that makes states calls no query, and one that calls inits calls nothing else
pub no_query : (callee : Callee) → MakesStates callee → is_called callee tree.Query ≡ true → ⊥
no_query callees.OfState makes called = makes
no_query callees.Init makes called = absurd (cc)
no_query callees.Update makes called = absurd (cc)

pub init_alone : (kind : tree.Kind) → is_called callees.Init kind ≡ true → kind ≡ tree.Init
init_alone tree.Init called = refl
init_alone tree.Query called = absurd (cc)
init_alone tree.Update called = absurd (cc)
init_alone tree.Inner called = absurd (cc)
