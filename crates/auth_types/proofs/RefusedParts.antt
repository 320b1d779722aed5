-- A part of an expression is refused, and so the expression, where the parts before it are found.
use Rattle.std.proofs.Common.{◌≡◌, List, Result, Err, refl, ap, ◌∙◌}
use Rattle.std.specs.declared.alloc.Global.{Global}
use Rattle.std.specs.declared.boxed.Box.{Box}
use Rattle.core_terms.specs.Types.{Ty, BoolTy}
use Rattle.core_terms.specs.Terms.{IfE}
use Rattle.core_terms.specs.TypeTables.{type_at}
use Rattle.core_terms.specs.declared.term.Term.{Term}
use Rattle.auth_syntax.specs.Syntax.{UnaryOperation, FstOperation, SndOperation, AuthOperation, UnauthOperation, LenOperation, NotOperation, ExpSyntax, IfSyntax, place_of}
use Rattle.lexemes.specs.declared.place.Place.{Place}
use Rattle.declared_types.specs.Checking.{Checking, FaultAt, then_checked}
use Rattle.auth_types.specs.Bodies.{Local, Typed, elaborated, typed, unary, wanted}
use Rattle.declared_types.specs.Signatures.{Scope}
use Rattle.auth_types.specs.Elaborators.{boxed_of, typed_of}
use Rattle.declared_types.specs.Findings.{TypeFault}
use Rattle.declared_types.specs.OverTypes.{FindsOver, Shows}
use Rattle.declared_types.specs.declared.fault.TypeKind.{TypeKind}
use Rattle.auth_types.specs.declared.bodies.Typed.{Typed as TypedTerm}
use Rattle.auth_types.proofs.ExpressionSteps.{behind_first, behind_test}
use Rattle.auth_types.proofs.FindingSteps.{behind_shown, fault_first, finds_is, refused_by}

module _ (scope : Scope) (locals : List Local) (at : Place) (new : List Ty) (fault : TypeFault) (r : Result TypedTerm TypeFault) (is : r ≡ Err fault)
  where
    module _ (test first other : ExpSyntax) where
      abbrev if_found : Checking Typed
      if_found = elaborated scope locals (IfSyntax at test first other)

      -- the parts of a condition
      pub test_refused : (types : List Ty) (t : Ty) → t ≡ BoolTy → FindsOver types boxed_of (wanted (place_of test) t (elaborated scope locals test))
          (Err fault) → FindsOver new typed_of if_found r
      test_refused types t truth h =
          finds_is new typed_of (then_checked (wanted (place_of test) t (elaborated scope locals test)) (behind_test scope locals at test first other))
          if_found r
          (ap (λ t. then_checked (wanted (place_of test) t (elaborated scope locals test)) (behind_test scope locals at test first other)) truth)
          (fault_first types new boxed_of typed_of (wanted (place_of test) t (elaborated scope locals test))
          (behind_test scope locals at test first other) fault r is h)

      module _ (tested : List Ty) (t : Ty) (condition : Box Term Global) (truth : t ≡ BoolTy)
          (shown : Shows tested boxed_of (wanted (place_of test) t (elaborated scope locals test)) condition) where
        behind_condition : FindsOver new typed_of (behind_test scope locals at test first other (boxed_of tested condition)) r
            → FindsOver new typed_of if_found r
        behind_condition h =
            finds_is new typed_of (then_checked (wanted (place_of test) t (elaborated scope locals test))
            (behind_test scope locals at test first other)) if_found r
            (ap (λ t. then_checked (wanted (place_of test) t (elaborated scope locals test)) (behind_test scope locals at test first other)) truth)
            (behind_shown tested new boxed_of typed_of (wanted (place_of test) t (elaborated scope locals test)) condition
            (behind_test scope locals at test first other) r shown h)

        pub first_refused : (types : List Ty) → FindsOver types typed_of (elaborated scope locals first) (Err fault) → FindsOver new typed_of if_found r
        first_refused types h =
            behind_condition (fault_first types new typed_of typed_of (elaborated scope locals first)
            (behind_first scope locals at test first other (boxed_of tested condition)) fault r is h)

        pub other_refused : (middle types : List Ty) (value : TypedTerm) (u : Ty) → u ≡ type_at middle value.ty
            → Shows middle typed_of (elaborated scope locals first) value
            → FindsOver types boxed_of (wanted (place_of other) u (elaborated scope locals other)) (Err fault) → FindsOver new typed_of if_found r
        other_refused middle types value u same shown' h =
            let c = boxed_of tested condition in
            behind_condition
            (behind_shown middle new typed_of typed_of (elaborated scope locals first) value (behind_first scope locals at test first other c) r shown'
            (finds_is new typed_of (then_checked (wanted (place_of other) u (elaborated scope locals other))
            (λ y. typed (IfE c (boxed_of middle value.term) y) (type_at middle value.ty)))
            (behind_first scope locals at test first other c (typed_of middle value)) r
            (ap (λ t. then_checked (wanted (place_of other) t (elaborated scope locals other))
            (λ y. typed (IfE c (boxed_of middle value.term) y) (type_at middle value.ty))) same)
            (fault_first types new boxed_of typed_of (wanted (place_of other) u (elaborated scope locals other))
            (λ y. typed (IfE c (boxed_of middle value.term) y) (type_at middle value.ty)) fault r is h)))

-- the operand of an operation
pub unary_refused : (operation : UnaryOperation) (at : Place) (types new : List Ty) (x : Checking Typed) (fault : TypeFault)
    (r : Result TypedTerm TypeFault) → r ≡ Err fault
    → FindsOver types typed_of x (Err fault) → FindsOver new typed_of (unary operation at x) r
unary_refused operation at types new x fault r is h =
    refused_by types new typed_of typed_of x (unary operation at x) fault r is (λ kind place e. ap (unary operation at) e ∙ by operation kind place) h
  where
    by : (operation : UnaryOperation) (kind : TypeKind) (place : Place) → unary operation at (FaultAt kind place) ≡ FaultAt kind place
    by FstOperation kind place = refl
    by SndOperation kind place = refl
    by AuthOperation kind place = refl
    by UnauthOperation kind place = refl
    by LenOperation kind place = refl
    by NotOperation kind place = refl
