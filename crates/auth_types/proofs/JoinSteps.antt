-- Lemmas of two expressions that are joined.
use Rattle.std.proofs.Common.{◌≡◌, ◌≢◌, ◌<◌, Bool, true, false, List, [], ◌∷◌, ◌++◌, length, take, nat_lt, Result, Ok, Err, Some, slice_get, refl, sym, ap, ◌∙◌, subst}
use Rattle.std.specs.Prelude.{OnOk}
use Rattle.std.proofs.lemmas.Option.{get_or_from_slice_get}
use Rattle.core_terms.specs.declared.term.BinaryOperator.{BinaryOperator}
use Rattle.core_terms.specs.declared.term.Term as term
use Rattle.core_terms.specs.declared.types.TyId.{TyId}
use Rattle.core_terms.specs.ProgramLimits.{most_locals}
use Rattle.core_terms.specs.Terms.{Expression, LetE}
use Rattle.core_terms.specs.TypeTables.{type_at}
use Rattle.core_terms.specs.Types.{Ty, UnitTy, same_type}
use Rattle.core_terms.proofs.TermViews.{expression-Let}
use Rattle.core_terms.proofs.TypingComplete.{same_self}
use Rattle.core_terms.proofs.SameTypes.{same_sound}
use Rattle.lexemes.specs.declared.place.Place.{Place}
use Rattle.auth_syntax.specs.Syntax.{ExpSyntax, NameSyntax, LetSyntax, place_of}
use Rattle.declared_types.specs.Checking.{Checking, Sound, FaultAt, then_checked, unless_fault}
use Rattle.declared_types.specs.Findings.{Finds, TypeFault}
use Rattle.declared_types.specs.OverTypes.{FindsOver, Grows, Shows}
use Rattle.declared_types.specs.Signatures.{Scope}
use Rattle.declared_types.specs.declared.fault.TypeKind.{TypeKind}
use Rattle.declared_types.specs.declared.fault.TypeKind.TheVariants.{Limit, WrongType}
use Rattle.declared_types.specs.declared.fault.Limited.TheVariants.{Locals}
use Rattle.declared_types.proofs.ScopeStays.{type_stays_at}
use Rattle.declared_types.proofs.TypeNumbers.{shows_now}
use Rattle.auth_types.specs.Bodies.{Local, Typed, binary, binary_expression, elaborated, operand_type, pair, result_type, typed, wanted}
use Rattle.auth_types.specs.Elaborators.{ShowsTerm, boxed_of, typed_of}
use Rattle.auth_types.specs.Joins.{inner_locals, joined, two}
use Rattle.auth_types.specs.declared.bodies.Typed.{Typed as TypedTerm}
use Rattle.auth_types.specs.declared.bodies.joins.Join.{Join}
use Rattle.auth_types.specs.declared.bodies.joins.Join.TheVariants.{Pair, Operation, Let}
use Rattle.auth_types.proofs.BoundNames.{named_local, with_local, with_local_is}
use Rattle.auth_types.proofs.ElaboratorSteps.{one_outer}
use Rattle.auth_types.proofs.FindingSteps.{finds_is, refused_at, refused_by}

-- all that stand there
pub all_taken : (locals : List Local) → take (length locals) locals ≡ locals
all_taken [] = refl
all_taken (l ∷ locals) = ap (λ ls. l ∷ ls) (all_taken locals)

-- what is found of the forms of expressions that are two
pub pair_is_two : (scope : Scope) (locals : List Local) (x y : ExpSyntax) → two scope locals Pair x y ≡ pair (elaborated scope locals x)
    (elaborated scope locals y)
pair_is_two scope locals x y = by (elaborated scope locals x)
  where
    by : (found : Checking Typed) → then_checked found (λ a. joined Pair a (place_of y) (elaborated scope locals y)) ≡ pair found (elaborated scope
        locals y)
    by (Sound a) = refl
    by (FaultAt kind at) = refl

pub operation_is_two : (scope : Scope) (locals : List Local) (operation : BinaryOperator) (x y : ExpSyntax)
    → two scope locals (Operation operation) x y
    ≡ binary operation (place_of x) (elaborated scope locals x) (place_of y) (elaborated scope locals y)
operation_is_two scope locals operation x y = by (elaborated scope locals x)
  where
    first : (a : Typed) (same : Bool)
        → then_checked (unless_fault same WrongType (place_of x) (Sound locals))
        (λ inner. joined (Operation operation) a (place_of y) (elaborated scope inner y))
        ≡ then_checked (unless_fault same WrongType (place_of x) (Sound a.expression))
        (λ e. then_checked (wanted (place_of y) (operand_type operation) (elaborated scope locals y))
        (λ b. typed (binary_expression operation e b) (result_type operation)))
    first a true = refl
    first a false = refl

    by : (found : Checking Typed)
        → then_checked found (λ a. then_checked (inner_locals (Operation operation) locals (place_of x) a.of_type)
        (λ inner. joined (Operation operation) a (place_of y) (elaborated scope inner y)))
        ≡ binary operation (place_of x) found (place_of y) (elaborated scope locals y)
    by (Sound a) = first a (same_type a.of_type (operand_type operation))
    by (FaultAt kind at) = refl

abbrev let_behind : Scope → ExpSyntax → Typed → List Local → Checking Typed
let_behind scope y a inner = then_checked (elaborated scope inner y) (λ b. typed (LetE a.of_type a.expression b.expression) b.of_type)

pub let_is_two : (scope : Scope) (locals : List Local) (at : Place) (name : NameSyntax) (x y : ExpSyntax)
    → then_checked (elaborated scope locals x) (λ a. then_checked (with_local locals name a.of_type) (let_behind scope y a))
    ≡ elaborated scope locals (LetSyntax at name x y)
let_is_two scope locals at name x y = by (elaborated scope locals x)
  where
    few : (a : Typed) (b : Bool) (inner : List Local)
        → then_checked (unless_fault b (Limit Locals) name.at (Sound inner)) (let_behind scope y a) ≡ unless_fault b (Limit Locals) name.at (let_behind scope y a inner)
    few a true inner = refl
    few a false inner = refl

    by : (found : Checking Typed)
        → then_checked found (λ a. then_checked (with_local locals name a.of_type) (let_behind scope y a))
        ≡ then_checked found (λ e. unless_fault (nat_lt (length locals) most_locals) (Limit Locals) name.at
        (let_behind scope y e (locals ++ named_local name e.of_type ∷ [])))
    by (Sound a) = few a (nat_lt (length locals) most_locals) (locals ++ named_local name a.of_type ∷ [])
    by (FaultAt kind at) = refl

pub joined_fault : (join : Join) (a : Typed) (place : Place) (kind : TypeKind) (at : Place) → joined join a place (FaultAt kind at) ≡ FaultAt kind at
joined_fault Pair a place kind at = refl
joined_fault (Operation operation) a place kind at = refl
joined_fault (Let name) a place kind at = refl

-- the locals of the second, where the first was found in other words
pub inner_found : (join : Join) {locals locals' : List Local} {at at' : Place} → locals ≡ locals' → at ≡ at' → (t : Ty) (inner : List Local)
    (r : Result (Unit {0}) TypeFault)
    → Finds {A = Unit {0}} (λ _. inner) (inner_locals join locals at t) r → Finds {A = Unit {0}} (λ _. inner) (inner_locals join locals' at' t) r
inner_found join {locals} {locals'} {at} {at'} same there t inner r h =
    subst (λ ls. Finds {A = Unit {0}} {B = List Local} (λ _. inner) (inner_locals join ls at' t) r) same
    (subst (λ at. Finds {A = Unit {0}} {B = List Local} (λ _. inner) (inner_locals join locals at t) r) there h)

-- the first of two is found
module _ (scope : Scope) (locals : List Local) (join : Join) (x y : ExpSyntax) (old : List Ty) (one : TypedTerm)
    (shown : Shows old typed_of (elaborated scope locals x) one) where
  abbrev behind : Typed → Checking Typed
  behind a = then_checked (inner_locals join locals (place_of x) a.of_type) (λ inner. joined join a (place_of y) (elaborated scope inner y))

  found_first : two scope locals join x y ≡ behind (typed_of old one)
  found_first = ap (λ found. then_checked found behind) (shows_now old typed_of (elaborated scope locals x) one shown)

  pub between_refused : (new : List Ty) (ls : List Local) (fault : TypeFault) (r : Result TypedTerm TypeFault) → r ≡ Err fault
      → Finds {A = Unit {0}} (λ _. ls) (inner_locals join locals (place_of x) (type_at old one.ty)) (Err fault)
      → FindsOver new typed_of (two scope locals join x y) r
  between_refused new ls fault r is h =
      refused_at {A = Unit {0}} new (λ _. ls) typed_of (inner_locals join locals (place_of x) (type_at old one.ty)) (two scope locals join x y) fault r is
      (λ kind at is. found_first
      ∙ ap (λ found. then_checked found (λ inner. joined join (typed_of old one) (place_of y) (elaborated scope inner y))) is) h

  module _ (inner : List Local) (there : inner_locals join locals (place_of x) (type_at old one.ty) ≡ Sound inner) where
    both : two scope locals join x y ≡ joined join (typed_of old one) (place_of y) (elaborated scope inner y)
    both = found_first ∙ ap (λ found. then_checked found (λ inner. joined join (typed_of old one) (place_of y) (elaborated scope inner y))) there

    pub second_refused : (types new : List Ty) (fault : TypeFault) (r : Result TypedTerm TypeFault) → r ≡ Err fault
        → FindsOver types typed_of (elaborated scope inner y) (Err fault) → FindsOver new typed_of (two scope locals join x y) r
    second_refused types new fault r is h =
        refused_by types new typed_of typed_of (elaborated scope inner y) (two scope locals join x y) fault r is
        (λ kind at is. both ∙ ap (joined join (typed_of old one) (place_of y)) is ∙ joined_fault join (typed_of old one) (place_of y) kind at) h

    pub two_found : (new : List Ty) (r : Result TypedTerm TypeFault)
        → FindsOver new typed_of (then_checked (elaborated scope locals x) (λ a. joined join a (place_of y) (elaborated scope inner y))) r
        → FindsOver new typed_of (two scope locals join x y) r
    two_found new r h =
        finds_is new typed_of (then_checked (elaborated scope locals x) (λ a. joined join a (place_of y) (elaborated scope inner y)))
        (two scope locals join x y) r
        (ap (λ found. then_checked found (λ a. joined join a (place_of y) (elaborated scope inner y)))
        (shows_now old typed_of (elaborated scope locals x) one shown) ∙ sym both) h

-- the type of the first, compared with the one that an operation wants
module _ (at : Place) (locals : List Local) where
  pub same_passes : (t u : Ty) → t ≡ u → unless_fault (same_type t u) WrongType at (Sound locals) ≡ Sound locals
  same_passes t u same = ap (λ b. unless_fault b WrongType at (Sound locals)) (ap (same_type t) (sym same) ∙ same_self t)

  pub other_fails : (t u : Ty) → t ≢ u → unless_fault (same_type t u) WrongType at (Sound locals) ≡ FaultAt WrongType at
  other_fails t u other = by (same_type t u) refl
    where
      by : (b : Bool) → same_type t u ≡ b → unless_fault b WrongType at (Sound locals) ≡ FaultAt WrongType at
      by true is = absurd (other (same_sound t u is))
      by false is = refl

  pub operand_compared : (operation : BinaryOperator) (old new : List Ty) (inner : List Local) (ty want : TyId)
      (r : Result (Unit {0}) TypeFault) → Grows old new
      → ty.0 < length old → inner ≡ locals → slice_get new want.0 ≡ Some (operand_type operation)
      → Finds {A = Unit {0}} (λ _. locals) (unless_fault (same_type (type_at new ty) (type_at new want)) WrongType at (Sound locals)) r
      → Finds {A = Unit {0}} (λ _. inner) (unless_fault (same_type (type_at old ty) (operand_type operation)) WrongType at (Sound locals)) r
  operand_compared operation old new inner ty want r grows inside same there h =
      subst (λ ls. Finds {A = Unit {0}} {B = List Local} (λ _. ls)
      (unless_fault (same_type (type_at old ty) (operand_type operation)) WrongType at (Sound locals)) r) (sym same)
      (subst (λ t. Finds {A = Unit {0}} {B = List Local} (λ _. locals) (unless_fault (same_type (type_at old ty) t) WrongType at (Sound locals)) r)
      (get_or_from_slice_get new want.0 (operand_type operation) UnitTy there)
      (subst (λ t. Finds {A = Unit {0}} {B = List Local} (λ _. locals) (unless_fault (same_type t (type_at new want)) WrongType at (Sound locals)) r)
      (type_stays_at old new grows ty inside) h))

pub bound_outer : (before inner : List Local) (name : NameSyntax) (t : Ty) (r : Result (Unit {0}) TypeFault)
    → Finds {A = Unit {0}} (λ _. inner) (with_local before name t) r → OnOk r (take (length before) inner ≡ before)
bound_outer before inner name t (Ok value) h = one_outer before inner _ (with_local_is before inner name t h)
bound_outer before inner name t (Err fault) h = tt

-- two terms as one
pub expression_first : (x : Checking Typed) (go : Expression → Checking Typed)
    → then_checked (then_checked x (λ a. Sound a.expression)) go ≡ then_checked x (λ a. go a.expression)
expression_first (Sound a) go = refl
expression_first (FaultAt kind at) go = refl

pub let_joined : (types : List Ty) (a b : TypedTerm) (x y : Checking Typed) → Shows types typed_of x a → Shows types typed_of y b
    → ShowsTerm types (then_checked x (λ a. then_checked y (λ b. typed (LetE a.of_type a.expression b.expression) b.of_type)))
    (term.Let a.ty a.term b.term) b.ty
let_joined types a b x y shown shown' = λ more.
    let form = expression-Let (types ++ more) a.ty a.term b.term in
    ap (λ x. then_checked x (λ a. then_checked y (λ b. typed (LetE a.of_type a.expression b.expression) b.of_type))) (shown more)
    ∙ ap (λ y. then_checked y (λ b. typed (LetE (type_at (types ++ more) a.ty) (boxed_of (types ++ more) a.term) b.expression) b.of_type)) (shown' more)
    ∙ cc
