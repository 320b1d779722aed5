-- Lemmas of calls and constructors.
use Rattle.std.proofs.Common.{◌≡◌, ℕ, ◌<◌, ◌++◌, List, Result, Err, Vec, sym, ap, ◌∙◌, subst, length}
use Rattle.std.specs.Global.{Global}
use Rattle.core_terms.specs.Terms.{Expressions}
use Rattle.core_terms.specs.Types.{Ty}
use Rattle.core_terms.specs.TypeTables.{type_at}
use Rattle.core_terms.specs.ProgramTrees.{expression_of, types_at}
use Rattle.core_terms.specs.declared.fault.Fault.TheVariants.{At, NoMemory}
use Rattle.core_terms.specs.declared.term.Term.{Term}
use Rattle.core_terms.specs.declared.program.FunctionId.{FunctionId}
use Rattle.lexemes.specs.declared.place.Place.{Place}
use Rattle.auth_syntax.specs.Syntax.{ExpsSyntax}
use Rattle.declared_types.specs.Checking.{Checking, then_checked}
use Rattle.declared_types.specs.Findings.{TypeFault}
use Rattle.declared_types.specs.OverTypes.{FindsOver, Grows, Shows}
use Rattle.declared_types.specs.Scopes.{signature_meant}
use Rattle.declared_types.specs.Signatures.{Numbered, Scope, Signature, constructor_named, function_named}
use Rattle.declared_types.specs.declared.scope.Head.{Head}
use Rattle.declared_types.proofs.ScopeStays.{type_stays_at}
use Rattle.auth_types.specs.Applications.{Applies, application, applied_expression}
use Rattle.auth_types.specs.Bodies.{Typed, elaborated_each, typed}
use Rattle.auth_types.specs.Elaborators.{Calls, Constructs, Keeps, ShowsTerm, locals_of, row_found, row_of, scope_of, typed_of}
use Rattle.auth_types.specs.declared.bodies.elaborator.Elaborator.{Elaborator}
use Rattle.auth_types.specs.declared.bodies.Typed.{Typed as TypedTerm}
use Rattle.auth_types.specs.declared.bodies.calls.Callee.{Callee}
use Rattle.auth_types.specs.declared.bodies.calls.Space.{Space}
use Rattle.auth_types.specs.declared.bodies.calls.Space.TheVariants.{Functions, Constructors}
use Rattle.auth_types.proofs.FindingSteps.{fault_first, finds_is, grown}

module _ (scope : Scope) (space : Space) (at : Place) (name : List ℕ) (n count : ℕ) (same : n ≡ count)
    (each : List Ty → Checking Expressions) where
  -- a name that is not there, or is followed by another number of expressions
  pub name_unfit : (types new : List Ty) (fault : TypeFault) (r : Result TypedTerm TypeFault) → r ≡ Err fault
      → Applies scope space at name n types (Err fault) → FindsOver new typed_of (application scope space at name count each) r
  name_unfit types new fault r is h =
      subst (λ (r : Result TypedTerm TypeFault). FindsOver new typed_of (application scope space at name count each) r) (sym is) (by fault h)
    where
      by : (fault : TypeFault) → Applies scope space at name n types (Err fault)
          → FindsOver new typed_of (application scope space at name count each) (Err fault)
      by (At kind place) h = ap (λ n. application scope space at name n each) (sym same) ∙ h each
      by NoMemory h = tt

  module _ (types : List Ty) (callee : Callee)
      (is : application scope space at name n each ≡ then_checked (each (types_at types callee.types.now))
      (λ es. typed (applied_expression callee.applied es) (type_at types callee.ty))) where
    whole_is : then_checked (each (types_at types callee.types.now)) (λ es. typed (applied_expression callee.applied es) (type_at types callee.ty))
        ≡ application scope space at name count each
    whole_is = sym is ∙ ap (λ n. application scope space at name n each) same

    pub parts_refused : (middle new : List Ty) (fault : TypeFault) (r : Result TypedTerm TypeFault) → r ≡ Err fault
        → FindsOver middle row_of (each (types_at types callee.types.now)) (Err fault)
        → FindsOver new typed_of (application scope space at name count each) r
    parts_refused middle new fault r r_is h =
        finds_is new typed_of (then_checked (each (types_at types callee.types.now))
        (λ es. typed (applied_expression callee.applied es) (type_at types callee.ty))) (application scope space at name count each) r whole_is
        (fault_first middle new row_of typed_of (each (types_at types callee.types.now))
        (λ es. typed (applied_expression callee.applied es) (type_at types callee.ty)) fault r r_is h)

    pub application_shows : (new : List Ty) (terms : Vec Term Global) (term : Term) → Grows types new → callee.ty.0 < length types
        → ((l : List Ty) → expression_of l term ≡ applied_expression callee.applied (row_of l terms))
        → Shows new row_of (each (types_at types callee.types.now)) terms
        → ShowsTerm new (application scope space at name count each) term callee.ty
    application_shows new terms term grows inside form shown = λ more.
        let t = type_stays_at types (new ++ more) (grown types new grows more) callee.ty inside in
        sym whole_is
        ∙ ap (λ found. then_checked found (λ es. typed (applied_expression callee.applied es) (type_at types callee.ty))) (shown more)
        ∙ ap (λ e. typed e (type_at types callee.ty)) (sym (form (new ++ more)))
        ∙ ap (typed (expression_of (new ++ more) term)) (sym t)

-- what a call finds of the arguments, by the function's head
pub called_by : (types : List Ty) (whole : Checking Typed) (each : List Ty → Checking Expressions) (go : Ty → Expressions → Checking Typed)
    (v : Signature) (head : Head)
    → whole ≡ then_checked (each v.parameters) (go v.result) → v ≡ signature_meant types head
    → whole ≡ then_checked (each (types_at types head.parameters.items)) (go (type_at types head.result))
called_by types whole each go v head is same = is ∙ ap (λ (v : Signature). then_checked (each v.parameters) (go v.result)) same

-- expressions in a row, where an elaborator stands, are the same where it stood
pub row_kept : (a b : Elaborator) → Keeps a b → (xs : ExpsSyntax) (ts : List Ty) → row_found b xs ts ≡ row_found a xs ts
row_kept a b keeps xs ts =
    ap (λ s. elaborated_each s (locals_of b) xs ts) keeps.scope ∙ ap (λ ls. elaborated_each (scope_of a) ls xs ts) keeps.locals

-- a refusal of a function, and of a constructor
module _ (scope : Scope) (at : Place) (name : List ℕ) (n : ℕ) (types : List Ty) (fault : TypeFault) (r : Result Callee TypeFault) (is : r ≡ Err fault)
  where
    pub call_unfit : (meant : FunctionId → Numbered Signature) → Calls at n (function_named 0 scope.functions name) meant (Err fault)
        → Applies scope Functions at name n types r
    call_unfit meant h = subst (λ (r : Result Callee TypeFault). Applies scope Functions at name n types r) (sym is) (by fault h)
      where
        by : (fault : TypeFault) → Calls at n (function_named 0 scope.functions name) meant (Err fault)
            → Applies scope Functions at name n types (Err fault)
        by (At kind place) h = h
        by NoMemory h = tt

    pub constructor_unfit : Constructs at n scope.table (constructor_named 0 scope.constructors name) (Err fault)
        → Applies scope Constructors at name n types r
    constructor_unfit h = subst (λ (r : Result Callee TypeFault). Applies scope Constructors at name n types r) (sym is) (by fault h)
      where
        by : (fault : TypeFault) → Constructs at n scope.table (constructor_named 0 scope.constructors name) (Err fault)
            → Applies scope Constructors at name n types (Err fault)
        by (At kind place) h = h
        by NoMemory h = tt
