-- Lemmas of operations on arrays: their operands, and what is found behind each.
use Rattle.std.proofs.Common.{◌≡◌, ◌≢◌, suc, ◌<◌, ◌≤◌, Bool, true, List, [], ◌∷◌, ◌++◌, length, map, Result, Err, Vec, refl, sym, ap, ◌∙◌, subst, arith, ne_eqb, eq-eqb}
use denote.Param.Weighed.{most}
use Rattle.std.specs.Global.{Global}
use Rattle.std.proofs.lemmas.List.{length-map}
use Rattle.core_terms.specs.ProgramTrees.{expression_of as term_of, operation_of, types_at}
use Rattle.core_terms.specs.Terms.{AndE, Expressions, OperateE, result_type}
use Rattle.core_terms.specs.Types.{Ty}
use Rattle.core_terms.specs.TypeTables.{type_at}
use Rattle.core_terms.specs.declared.term.Term.{Term}
use Rattle.core_terms.specs.declared.fault.Fault.TheVariants.{At, NoMemory}
use Rattle.lexemes.specs.declared.place.Place.{Place}
use Rattle.auth_syntax.specs.Nesting.{others_of}
use Rattle.auth_syntax.specs.Parsing.{in_a_row}
use Rattle.auth_syntax.specs.Syntax.{ArrayOperation, ExpSyntax, ExpsSyntax, OperateSyntax, place_of}
use Rattle.auth_syntax.specs.Trees.{expression_of}
use Rattle.auth_syntax.specs.declared.tree.ExpTree.{ExpTree}
use Rattle.auth_syntax.specs.declared.tree.ExpTree.TheViews.{size-ExpTree}
use Rattle.declared_types.specs.Checking.{Checking, FaultAt, then_checked, unless_fault}
use Rattle.declared_types.specs.Findings.{TypeFault}
use Rattle.declared_types.specs.OverTypes.{FindsOver, Grows, Shows}
use Rattle.declared_types.specs.Signatures.{Scope}
use Rattle.declared_types.specs.declared.fault.TypeKind.TheVariants.{NotVec, WrongCount}
use Rattle.declared_types.proofs.ScopeStays.{type_stays_at, types_stay_at}
use Rattle.declared_types.proofs.TypeNumbers.{grows_on, shows_grow}
use Rattle.auth_types.specs.Arrays.{AreTaken, Begins, IsTaken, taken_of}
use Rattle.auth_types.specs.Bodies.{Local, Taken, Typed, count_of, elaborated, elaborated_each, may_begin, operated_on, taken_by, typed}
use Rattle.auth_types.specs.CheckedLaws.{HasGoodLiterals, HaveGoodLiterals}
use Rattle.auth_types.specs.Elaborators.{ShowsTerm, boxed_of, row_of, typed_of}
use Rattle.auth_types.specs.declared.bodies.Typed.{Typed as TypedTerm}
use Rattle.auth_types.specs.declared.bodies.arrays.Operands.{Operands}
use Rattle.auth_types.specs.declared.bodies.arrays.Taken.{Taken as TakenCode}
use Rattle.auth_types.proofs.ExpressionSteps.{count_row}
use Rattle.auth_types.proofs.FindingSteps.{behind_shown, fault_first, finds_is, grown}

-- how many operands stand in a row
count_trees : (trees : List ExpTree) → count_of (in_a_row (map expression_of trees)) ≡ length trees
count_trees trees = count_row (map expression_of trees) ∙ length-map trees expression_of

-- an operation is taken where an elaborator stands as it was where it stood
pub taken_kept : (a b : Scope) (operation : ArrayOperation) (at place : Place) (t : Ty) → b ≡ a → at ≡ place
    → taken_by b.format operation at t ≡ taken_by a.format operation place t
taken_kept a b operation at place t scope same =
    ap (λ (s : Scope). taken_by s.format operation at t) scope ∙ ap (λ place. taken_by a.format operation place t) same

-- the parts are not deeper than the whole
pub parts_below : (operands : List ExpTree) (first : ExpTree) (others : List ExpTree) → operands ≡ first ∷ others
    → (size-ExpTree first ≤ most size-ExpTree operands) × (most size-ExpTree others ≤ most size-ExpTree operands)
parts_below operands first others is = rw is (omega arith, omega arith)

module _ (scope : Scope) (locals : List Local) (at : Place) (operation : ArrayOperation) where
  -- what is found of the first operand and of others, by tests of their number and of the array that a fill makes
  abbrev tested : Bool → Bool → ExpSyntax → ExpsSyntax → Checking Typed
  tested counts may first others =
      unless_fault counts WrongCount at (unless_fault may NotVec at
      (then_checked (elaborated scope locals first) (operated_on scope.format operation (place_of first) (elaborated_each scope locals others))))

  -- an operation of another number of operands
  pub miscounted : (operands : List ExpTree) → length operands ≢ suc (others_of operation)
      → elaborated scope locals (OperateSyntax at operation (in_a_row (map expression_of operands))) ≡ FaultAt WrongCount at
  miscounted [] other = refl
  miscounted (x ∷ xs) other =
      let others = in_a_row (map expression_of xs) in
      ap (λ b. tested b (may_begin scope.format operation) (expression_of x) others)
      (ne_eqb (count_of others) (others_of operation) (λ same. other (ap suc (sym (count_trees xs) ∙ same))))

  -- operands that are refused before the first is judged
  pub begin_refused : (operands : List ExpTree) (new : List Ty) (fault : TypeFault) (r : Result TypedTerm TypeFault) → r ≡ Err fault
      → Begins scope locals at operation operands (Err fault)
      → FindsOver new typed_of (elaborated scope locals (OperateSyntax at operation (in_a_row (map expression_of operands)))) r
  begin_refused operands new fault r is h =
      subst (λ (r : Result TypedTerm TypeFault). FindsOver new typed_of (elaborated scope locals (OperateSyntax at operation (in_a_row (map expression_of operands)))) r)
      (sym is) (by fault h)
    where
      by : (fault : TypeFault) → Begins scope locals at operation operands (Err fault)
          → FindsOver new typed_of (elaborated scope locals (OperateSyntax at operation (in_a_row (map expression_of operands)))) (Err fault)
      by (At kind place) h = h
      by NoMemory h = tt

  module _ (operands : List ExpTree) (parts : Operands) (are : AreTaken scope operation operands parts) where
    abbrev first : ExpSyntax
    first = expression_of parts.first.now

    abbrev others : ExpsSyntax
    others = in_a_row (map expression_of parts.others.now)

    abbrev each : List Ty → Checking Expressions
    each = elaborated_each scope locals others

    abbrev whole : Checking Typed
    whole = elaborated scope locals (OperateSyntax at operation (in_a_row (map expression_of operands)))

    abbrev takes : Ty → Checking Taken
    takes t = taken_by scope.format operation (place_of first) t

    whole_is : then_checked (elaborated scope locals first) (operated_on scope.format operation (place_of first) each) ≡ whole
    whole_is = sym (
        ap (λ l. elaborated scope locals (OperateSyntax at operation (in_a_row (map expression_of l)))) are.both
        ∙ ap (λ b. tested b (may_begin scope.format operation) first others) (eq-eqb (count_of others) (others_of operation) (count_trees parts.others.now ∙ are.count))
        ∙ ap (λ b. tested true b first others) are.may_begin
        )

    -- the literals of the operands are those of the parts
    pub literals_of_parts : HasGoodLiterals first → HaveGoodLiterals others → HaveGoodLiterals (in_a_row (map expression_of operands))
    literals_of_parts one rest = subst (λ l. HaveGoodLiterals (in_a_row (map expression_of l))) (sym are.both) (one, rest)

    pub first_operand_refused : (types new : List Ty) (fault : TypeFault) (r : Result TypedTerm TypeFault) → r ≡ Err fault
        → FindsOver types typed_of (elaborated scope locals first) (Err fault) → FindsOver new typed_of whole r
    first_operand_refused types new fault r is h =
        finds_is new typed_of (then_checked (elaborated scope locals first) (operated_on scope.format operation (place_of first) each)) whole r whole_is
        (fault_first types new typed_of typed_of (elaborated scope locals first) (operated_on scope.format operation (place_of first) each) fault r is h)

    module _ (before : List Ty) (a : TypedTerm) (shown : Shows before typed_of (elaborated scope locals first) a) where
      behind_first : (new : List Ty) (r : Result TypedTerm TypeFault)
          → FindsOver new typed_of (operated_on scope.format operation (place_of first) each (typed_of before a)) r → FindsOver new typed_of whole r
      behind_first new r h =
          finds_is new typed_of (then_checked (elaborated scope locals first) (operated_on scope.format operation (place_of first) each)) whole r whole_is
          (behind_shown before new typed_of typed_of (elaborated scope locals first) a (operated_on scope.format operation (place_of first) each) r shown h)

      -- what is made of an operation that is taken, over its operands
      abbrev made : Typed → Taken → Expressions → Checking Typed
      made x taken xs = typed (OperateE taken.operation (AndE x.expression xs)) (result_type taken.operation)

      abbrev behind_taken : Typed → Taken → Checking Typed
      behind_taken x taken = then_checked (each taken.others) (made x taken)

      pub not_taken : (types new : List Ty) (fault : TypeFault) (r : Result TypedTerm TypeFault) → r ≡ Err fault
          → FindsOver types taken_of (takes (type_at before a.ty)) (Err fault) → FindsOver new typed_of whole r
      not_taken types new fault r is h =
          behind_first new r (fault_first types new taken_of typed_of (takes (type_at before a.ty)) (behind_taken (typed_of before a)) fault r is h)

      module _ (middle : List Ty) (taken : TakenCode) (known : Shows middle taken_of (takes (type_at before a.ty)) taken) where
        pub others_refused : (types new : List Ty) (fault : TypeFault) (r : Result TypedTerm TypeFault) → r ≡ Err fault
            → FindsOver types row_of (each (types_at middle taken.others.items)) (Err fault) → FindsOver new typed_of whole r
        others_refused types new fault r is h =
            behind_first new r
            (behind_shown middle new taken_of typed_of (takes (type_at before a.ty)) taken (behind_taken (typed_of before a)) r known
            (fault_first types new row_of typed_of (each (types_at middle taken.others.items)) (made (typed_of before a) (taken_of middle taken)) fault r is h))

        pub operated_shows : (new : List Ty) (terms : Vec Term Global) (term : Term) → Grows before middle → Grows middle new → a.ty.0 < length before
            → IsTaken middle operation taken
            → ((l : List Ty) → term_of l term ≡ OperateE (operation_of l taken.operation) (AndE (boxed_of l a.term) (row_of l terms)))
            → Shows new row_of (each (types_at middle taken.others.items)) terms → ShowsTerm new whole term taken.ty
        operated_shows new terms term grows grows' inside is form rest = λ more.
            let l = new ++ more in
            let later : Grows middle l = grown middle new grows' more in
            let stays : type_at l a.ty ≡ type_at before a.ty = type_stays_at before l (grows_on before middle l grows later) a.ty inside in
            let same : types_at l taken.others.items ≡ types_at middle taken.others.items =
            types_stay_at middle l later taken.others.items is.within in
            let of_type : type_at l taken.ty ≡ result_type (operation_of l taken.operation) =
            subst (λ l. type_at l taken.ty ≡ result_type (operation_of l taken.operation)) (sym later.1) (is.whole later.0) in
            sym whole_is
            ∙ ap (λ found. then_checked found (operated_on scope.format operation (place_of first) each))
            (shows_grow before new typed_of (elaborated scope locals first) a (grows_on before middle new grows grows') shown more)
            ∙ ap (λ t. then_checked (takes t) (behind_taken (typed_of l a))) stays
            ∙ ap (λ found. then_checked found (behind_taken (typed_of l a)))
            (shows_grow middle new taken_of (takes (type_at before a.ty)) taken grows' known more)
            ∙ ap (λ ts. then_checked (each ts) (made (typed_of l a) (taken_of l taken))) same
            ∙ ap (λ found. then_checked found (made (typed_of l a) (taken_of l taken))) (rest more)
            ∙ ap (λ e. typed e (result_type (operation_of l taken.operation))) (sym (form l))
            ∙ ap (typed (term_of l term)) (sym of_type)
