-- What the typing rules give passes, and what is broken first is told.
use Rattle.std.proofs.Common.{◌≡◌, ℕ, suc, ◌<◌, ◌≤◌, true, List, [], length, Option, Some, None, unwrap_or, nat_eq, nat_lt, refl, sym, ap, ◌∙◌, subst, arith}
use Rattle.core_terms.specs.declared.term.BinaryOperator.{BinaryOperator}
use Rattle.core_terms.specs.Types.{Ty, UnitTy, BoolTy, IntTy, TextTy, PairTy, NamedTy, AuthTy}
use Rattle.core_terms.specs.Terms.{Expression, Expressions, Arms, NoArm, AndArm, AndE, CallE, ConE, LenE, NotE, MatchE, LocalE, LetE, IfE, OperateE}
use Rattle.core_terms.specs.Terms as tree
use Rattle.lexemes.specs.declared.place.Place.{Place}
use Rattle.auth_syntax.specs.Syntax.{NameSyntax, ExpSyntax, ExpsSyntax, NoExp, AndExp, OperateSyntax, ArmsSyntax, NoArmSyntax, AndArmSyntax, UnaryOperation, FstOperation, SndOperation, AuthOperation, UnauthOperation, LenOperation, NotOperation, ArrayOperation, place_of}
use Rattle.auth_syntax.specs.Nesting.{others_of}
use Rattle.declared_types.specs.Checking.{Checking, Sound, FaultAt, then_checked, unless_fault}
use Rattle.auth_types.specs.Bodies.{Local, Taken, Typed, TypedArms, arm_names, binary_expression, bound_names, called, constructed, count_of, elaborated, elaborated_arms, elaborated_each, first_of, local_at, matched, may_begin, most_locals, opened, operand_type, operated_on, result_type, same_names, second_of, taken_by, typed, unary, wanted, wanted_arm}
use Rattle.declared_types.specs.Signatures.{Scope, Signature}
use Rattle.auth_types.specs.TypingRules
use Rattle.auth_types.specs.TypingRules.{Operates, constructor_names, constructor_fields, field_types, with_local, with_fields, Elaborates, ElaborateEach, ElaborateArms}
use Rattle.auth_types.specs.BrokenRules
use Rattle.auth_types.specs.BrokenRules.{Breaks, Misfits, OneMisfits, BodyBreaks, ArmsBreak, IsOfType, IsNoPair, IsNoAuth, IsNoSum}
use Rattle.declared_types.specs.declared.fault.TypeKind.{TypeKind}
use Rattle.declared_types.specs.declared.fault.TypeKind.TheVariants.{ArmsWrong, Limit, WrongCount, NotPair, NotAuth, NotVec, NotSum}
use Rattle.declared_types.specs.declared.fault.Limited.TheVariants.{Locals}
use Rattle.auth_types.proofs.NamedParts.{local_named, no_local_named, type_of_local, function_is_named, no_function_named, constructor_is_named, no_constructor_named}
use Rattle.auth_types.proofs.Judging.{then_is, then_fault, unless_holds, unless_fails, wanted_is, wanted_fault, wanted_other, equal_decides, below_decides}
use Rattle.auth_types.proofs.JudgedNames.{pattern_binds, pattern_breaks}
use Rattle.auth_types.proofs.JudgedBodies.{names_decide, TypeFits}
use Rattle.auth_types.proofs.TakenArrays.{none_taken, takes_begin, takes_count, takes_is}

-- as an operation is in the table, so it is in the checker
operates_on : {operation : BinaryOperator} {t r : Ty} {made : Expression → Expression → Expression} → Operates operation t r made → operand_type operation ≡ t
operates_on (TypingRules.Computes operator) = refl
operates_on (TypingRules.Compares operator) = refl
operates_on (TypingRules.ComparesTexts operator) = refl
operates_on TypingRules.Joins = refl

gives_type : {operation : BinaryOperator} {t r : Ty} {made : Expression → Expression → Expression} → Operates operation t r made → (x y : Expression)
    → typed (binary_expression operation x y) (result_type operation) ≡ typed (made x y) r
gives_type (TypingRules.Computes operator) x y = refl
gives_type (TypingRules.Compares operator) x y = refl
gives_type (TypingRules.ComparesTexts operator) x y = refl
gives_type TypingRules.Joins x y = refl

-- a type that isn't of a form
no_first : (at : Place) (e : Expression) (t : Ty) → IsNoPair t → first_of at e t ≡ FaultAt NotPair at
no_first at e (PairTy a b) never = absurd (never a b refl)
no_first at e t never = refl

no_second : (at : Place) (e : Expression) (t : Ty) → IsNoPair t → second_of at e t ≡ FaultAt NotPair at
no_second at e (PairTy a b) never = absurd (never a b refl)
no_second at e t never = refl

no_opened : (at : Place) (e : Expression) (t : Ty) → IsNoAuth t → opened at e t ≡ FaultAt NotAuth at
no_opened at e (AuthTy t) never = absurd (never t refl)
no_opened at e t never = refl

no_match : (scope : Scope) (at subject : Place) (e : Expression) (t : Ty) (names : List (List ℕ)) (arms : List (List Ty) → Checking TypedArms)
    → IsNoSum t → matched scope at subject e t names arms ≡ FaultAt NotSum subject
no_match scope at subject e (NamedTy n) names arms never = absurd (never n refl)
no_match scope at subject e t names arms never = refl

-- expressions in a row are as many as their types
each_count : {scope : Scope} {locals : List Local} {trees : ExpsSyntax} {xs : Expressions} {ts : List Ty} → ElaborateEach scope locals trees xs ts → count_of trees ≡ length ts
each_count TypingRules.NoRule = refl
each_count (TypingRules.AndRule h rest) = ap suc (each_count rest)

below : (a b : ℕ) → b ≤ a → a < b → ⊥
below a b full room = absurd (omega (arith, full, room))

module _ (scope : Scope) where
  -- what is found of an expression, of one of which a type is wanted, of expressions in a row and of arms
  abbrev found_at : List Local → ExpSyntax → Checking Typed
  found_at locals tree = elaborated scope locals tree

  abbrev wanted_at : List Local → ExpSyntax → Ty → Checking Expression
  wanted_at locals tree t = wanted (place_of tree) t (elaborated scope locals tree)

  abbrev each_at : List Local → ExpsSyntax → List Ty → Checking Expressions
  each_at locals trees ts = elaborated_each scope locals trees ts

  abbrev arms_at : List Local → ArmsSyntax → Option Ty → List (List Ty) → Checking TypedArms
  arms_at locals arms before rows = elaborated_arms scope locals arms before rows

  abbrev typed_as : Expression → Ty → Typed
  typed_as x t = record { expression = x; of_type = t }

  -- what is behind a left operand, and behind both
  abbrev joined : BinaryOperator → Expression → Expression → Checking Typed
  joined operation x y = typed (binary_expression operation x y) (result_type operation)

  abbrev behind_left : List Local → BinaryOperator → ExpSyntax → Expression → Checking Typed
  behind_left locals operation second x = then_checked (wanted_at locals second (operand_type operation)) (joined operation x)

  -- what is behind what a name is bound to, and behind the body
  abbrev bound_in : Ty → Expression → Typed → Checking Typed
  bound_in a x b = typed (LetE a x b.expression) b.of_type

  abbrev behind_bound : List Local → NameSyntax → ExpSyntax → Typed → Checking Typed
  behind_bound locals name body e =
      unless_fault (nat_lt (length locals) most_locals) (Limit Locals) name.at
      (then_checked (found_at (with_local locals name.name e.of_type) body) (bound_in e.of_type e.expression))

  -- what is behind the first branch of a condition, and behind its test
  abbrev behind_first : List Local → ExpSyntax → Expression → Typed → Checking Typed
  behind_first locals other c x = then_checked (wanted_at locals other x.of_type) (λ y. typed (IfE c x.expression y) x.of_type)

  abbrev behind_test : List Local → ExpSyntax → ExpSyntax → Expression → Checking Typed
  behind_test locals first other c = then_checked (found_at locals first) (behind_first locals other c)

  -- what is behind the subject of a match, and behind its arms
  abbrev behind_subject : List Local → Place → ExpSyntax → ArmsSyntax → Typed → Checking Typed
  behind_subject locals at subject arms e = matched scope at (place_of subject) e.expression e.of_type (arm_names arms) (arms_at locals arms None)

  abbrev matched_by : ℕ → Expression → TypedArms → Checking Typed
  matched_by number x found = typed (MatchE number x found.arms) found.of_type

  -- what is behind the arguments of a call, and behind the fields of a constructor
  abbrev called_with : ℕ → Signature → Expressions → Checking Typed
  called_with f signature es = typed (CallE f es) signature.result

  abbrev made_with : ℕ → ℕ → Expressions → Checking Typed
  made_with number tag es = typed (ConE number tag es) (NamedTy number)

  -- what is behind the first operand of an operation on arrays, behind what is taken, and behind the tests of both
  abbrev made_on : Expression → Taken → Expressions → Checking Typed
  made_on x taken xs = typed (OperateE taken.operation (AndE x xs)) (tree.result_type taken.operation)

  abbrev behind_taken : List Local → ExpsSyntax → Expression → Taken → Checking Typed
  behind_taken locals rest x taken = then_checked (each_at locals rest taken.others) (made_on x taken)

  abbrev behind_operand : List Local → ArrayOperation → ExpSyntax → ExpsSyntax → Typed → Checking Typed
  behind_operand locals operation first rest = operated_on scope.format operation (place_of first) (each_at locals rest)

  abbrev behind_begin : List Local → Place → ArrayOperation → ExpSyntax → ExpsSyntax → Checking Typed
  behind_begin locals at operation first rest =
      unless_fault (may_begin scope.format operation) NotVec at (then_checked (found_at locals first) (behind_operand locals operation first rest))

  -- the operands are as many as the operation takes
  counted : (locals : List Local) (at : Place) (operation : ArrayOperation) (first : ExpSyntax) (rest : ExpsSyntax) → count_of rest ≡ others_of operation
      → found_at locals (OperateSyntax at operation (AndExp first rest)) ≡ behind_begin locals at operation first rest
  counted locals at operation first rest many =
      unless_holds (nat_eq (count_of rest) (others_of operation)) WrongCount at (behind_begin locals at operation first rest)
      (equal_decides (count_of rest) (others_of operation)) many

  -- and the program may have the array that a fill makes
  begun : (locals : List Local) (at : Place) (operation : ArrayOperation) (first : ExpSyntax) (rest : ExpsSyntax) → count_of rest ≡ others_of operation
      → may_begin scope.format operation ≡ true
      → found_at locals (OperateSyntax at operation (AndExp first rest)) ≡ then_checked (found_at locals first) (behind_operand locals operation first rest)
  begun locals at operation first rest many may =
      counted locals at operation first rest many
      ∙ ap (λ b. unless_fault b NotVec at (then_checked (found_at locals first) (behind_operand locals operation first rest))) may

  other_operands : (locals : List Local) (at : Place) (operation : ArrayOperation) (operands : ExpsSyntax) → (count_of operands ≡ suc (others_of operation) → ⊥)
      → found_at locals (OperateSyntax at operation operands) ≡ FaultAt WrongCount at
  other_operands locals at operation NoExp never = refl
  other_operands locals at operation (AndExp first rest) never =
      unless_fails (nat_eq (count_of rest) (others_of operation)) WrongCount at (behind_begin locals at operation first rest)
      (equal_decides (count_of rest) (others_of operation)) (λ same. never (ap suc same))

  fills_none : (locals : List Local) (at : Place) (operation : ArrayOperation) (operands : ExpsSyntax) → count_of operands ≡ suc (others_of operation)
      → (may_begin scope.format operation ≡ true → ⊥) → found_at locals (OperateSyntax at operation operands) ≡ FaultAt NotVec at
  fills_none locals at operation NoExp many never = absurd (cc)
  fills_none locals at operation (AndExp first rest) many never =
      counted locals at operation first rest (cc)
      ∙ unless_fails (may_begin scope.format operation) NotVec at (then_checked (found_at locals first) (behind_operand locals operation first rest)) (λ e. e, λ e. e) never

  -- what is behind the first of expressions in a row
  abbrev behind_one : List Local → ExpsSyntax → List Ty → Expression → Checking Expressions
  behind_one locals rest ts x = then_checked (each_at locals rest ts) (λ xs. Sound (AndE x xs))

  abbrev IsFound : List Local → ExpSyntax → Expression → Ty → Type 0
  IsFound locals tree x t = found_at locals tree ≡ Sound (typed_as x t)

  -- what is behind the arms after a body, behind the body of an arm, and behind its pattern
  abbrev behind_body : Expression → TypedArms → Checking TypedArms
  behind_body x found = Sound (record { arms = AndArm x found.arms; of_type = found.of_type })

  abbrev arm_behind : ArmsSyntax → List Local → List (List Ty) → Typed → Checking TypedArms
  arm_behind rest locals rows e = then_checked (arms_at locals rest (Some e.of_type) rows) (behind_body e.expression)

  abbrev arm_bound : Option Ty → ExpSyntax → ArmsSyntax → List Local → List (List Ty) → List Local → Checking TypedArms
  arm_bound before body rest locals rows inner = then_checked (wanted_arm before (place_of body) (found_at inner body)) (arm_behind rest locals rows)

  -- a fault of an operand
  unary_fault : (operation : UnaryOperation) (at : Place) (kind : TypeKind) (place : Place) → unary operation at (FaultAt kind place) ≡ FaultAt kind place
  unary_fault FstOperation at kind place = refl
  unary_fault SndOperation at kind place = refl
  unary_fault AuthOperation at kind place = refl
  unary_fault UnauthOperation at kind place = refl
  unary_fault LenOperation at kind place = refl
  unary_fault NotOperation at kind place = refl

  -- the type of the arms, where that of the bodies before is known
  after_first : (before : Option Ty) (constructor : NameSyntax) (fields : List NameSyntax) (body : ExpSyntax) (rest : ArmsSyntax) (t : Ty)
      → TypeFits scope before (AndArmSyntax constructor fields body rest) t → IsOfType before t
  after_first None constructor fields body rest t fits = tt
  after_first (Some b) constructor fields body rest t fits = fits

  body_passes : (before : Option Ty) (at : Place) (found : Checking Typed) (x : Expression) (t : Ty) → found ≡ Sound (typed_as x t) → IsOfType before t
      → wanted_arm before at found ≡ Sound (typed_as x t)
  body_passes None at found x t is fits = is
  body_passes (Some b) at found x t is fits =
      let same : b ≡ t = sym fits in
      subst (λ b. then_checked (wanted at b found) (λ e. typed e b) ≡ Sound (typed_as x t)) (sym same)
      (then_is (wanted at t found) (λ e. typed e t) x (wanted_is at t found x is))

  no_arms : (before : Option Ty) (t : Ty) → TypeFits scope before NoArmSyntax t → unwrap_or before UnitTy ≡ t
  no_arms None t fits = fits
  no_arms (Some b) t fits = sym fits

  mutual
    -- what has a meaning passes
    pub passes : {locals : List Local} {tree : ExpSyntax} {x : Expression} {t : Ty} → Elaborates scope locals tree x t → IsFound locals tree x t
    passes TypingRules.UnitRule = refl
    passes TypingRules.BoolRule = refl
    passes TypingRules.IntRule = refl
    passes TypingRules.TextRule = refl
    passes (TypingRules.LocalRule {locals = locals} {at = at} {name = name} {i = i} {local = local} named) =
        ap (local_at at locals) (local_named locals name i local named) ∙ ap (λ t. typed (LocalE i) t) (type_of_local locals name i local named)
    passes (TypingRules.PairRule h j) = rw (passes h, passes j) refl
    passes (TypingRules.FstRule h) = rw (passes h) refl
    passes (TypingRules.SndRule h) = rw (passes h) refl
    passes (TypingRules.AuthRule h) = rw (passes h) refl
    passes (TypingRules.UnauthRule h) = rw (passes h) refl
    passes (TypingRules.LenRule h) = rw (passes h) refl
    passes (TypingRules.NotRule h) = rw (passes h) refl
    passes (TypingRules.BinaryRule {locals = locals} {operation = operation} {first = first} {second = second} {x = x} {y = y} {t = t} {r = r} {made = made} op h j) =
        let is = operates_on op in
        let left : wanted_at locals first (operand_type operation) ≡ Sound x = ap (λ t. wanted_at locals first t) is ∙ wanted_is (place_of first) t (found_at locals first) x (passes h) in
        let right : wanted_at locals second (operand_type operation) ≡ Sound y = ap (λ t. wanted_at locals second t) is ∙ wanted_is (place_of second) t (found_at locals second) y (passes j) in
        then_is (wanted_at locals first (operand_type operation)) (behind_left locals operation second) x left
        ∙ then_is (wanted_at locals second (operand_type operation)) (joined operation x) y right
        ∙ gives_type op x y
    passes (TypingRules.CallRule {locals = locals} {at = at} {name = name} {operands = operands} {xs = xs} {f = f} {signature = signature} named h) =
        ap (λ o. called at (count_of operands) o (each_at locals operands)) (function_is_named scope.functions name f signature named)
        ∙ unless_holds (nat_eq (count_of operands) (length signature.parameters)) WrongCount at
        (then_checked (each_at locals operands signature.parameters) (called_with f signature))
        (equal_decides (count_of operands) (length signature.parameters)) (each_count h)
        ∙ then_is (each_at locals operands signature.parameters) (called_with f signature) xs (each_passes h)
    passes (TypingRules.ConstructorRule {locals = locals} {at = at} {name = name} {operands = operands} {xs = xs} {number = number} {tag = tag} named h) =
        let ts = field_types scope number tag in
        ap (λ o. constructed at (count_of operands) scope.table o (each_at locals operands)) (constructor_is_named scope name number tag named)
        ∙ unless_holds (nat_eq (count_of operands) (length ts)) WrongCount at (then_checked (each_at locals operands ts) (made_with number tag))
        (equal_decides (count_of operands) (length ts)) (each_count h)
        ∙ then_is (each_at locals operands ts) (made_with number tag) xs (each_passes h)
    passes (TypingRules.OperateRule {locals = locals} {at = at} {operation = operation} {first = first} {rest = rest} {x = x} {xs = xs} {t = t} {op = op} {ts = ts} h takes j) =
        begun locals at operation first rest (each_count j ∙ takes_count takes) (takes_begin takes)
        ∙ then_is (found_at locals first) (behind_operand locals operation first rest) (typed_as x t) (passes h)
        ∙ then_is (taken_by scope.format operation (place_of first) t) (behind_taken locals rest x) (record { operation = op; others = ts }) (takes_is (place_of first) takes)
        ∙ then_is (each_at locals rest ts) (made_on x (record { operation = op; others = ts })) xs (each_passes j)
    passes (TypingRules.LetRule {locals = locals} {name = name} {bound = bound} {body = body} {x = x} {y = y} {a = a} {b = b} h room j) =
        let inner = with_local locals name.name a in
        let rest = then_checked (found_at inner body) (bound_in a x) in
        then_is (found_at locals bound) (behind_bound locals name body) (typed_as x a) (passes h)
        ∙ unless_holds (nat_lt (length locals) most_locals) (Limit Locals) name.at rest (below_decides (length locals) most_locals) room
        ∙ then_is (found_at inner body) (bound_in a x) (typed_as y b) (passes j)
    passes (TypingRules.IfRule {locals = locals} {test = test} {first = first} {other = other} {c = c} {x = x} {y = y} {t = t} h j k) =
        then_is (wanted_at locals test BoolTy) (behind_test locals first other) c (wanted_is (place_of test) BoolTy (found_at locals test) c (passes h))
        ∙ then_is (found_at locals first) (behind_first locals other c) (typed_as x t) (passes j)
        ∙ then_is (wanted_at locals other t) (λ y. typed (IfE c x y) t) y (wanted_is (place_of other) t (found_at locals other) y (passes k))
    passes (TypingRules.MatchRule {locals = locals} {at = at} {subject = subject} {arms = arms} {x = x} {bodies = bodies} {number = number} {t = t} h same j fits) =
        let rows = constructor_fields scope number in
        then_is (found_at locals subject) (behind_subject locals at subject arms) (typed_as x (NamedTy number)) (passes h)
        ∙ unless_holds (same_names (arm_names arms) (constructor_names scope number)) ArmsWrong at (then_checked (arms_at locals arms None rows) (matched_by number x))
        (names_decide (arm_names arms) (constructor_names scope number)) same
        ∙ then_is (arms_at locals arms None rows) (matched_by number x) (record { arms = bodies; of_type = t }) (arms_pass j None fits)

    -- expressions in a row
    pub each_passes : {locals : List Local} {trees : ExpsSyntax} {xs : Expressions} {ts : List Ty} → ElaborateEach scope locals trees xs ts → each_at locals trees ts ≡ Sound xs
    each_passes TypingRules.NoRule = refl
    each_passes (TypingRules.AndRule {locals = locals} {expression = tree} {rest = rest} {x = x} {xs = xs} {t = t} {ts = ts} h j) =
        then_is (wanted_at locals tree t) (behind_one locals rest ts) x (wanted_is (place_of tree) t (found_at locals tree) x (passes h))
        ∙ then_is (each_at locals rest ts) (λ xs. Sound (AndE x xs)) xs (each_passes j)

    -- arms
    pub arms_pass : {locals : List Local} {arms : ArmsSyntax} {rows : List (List Ty)} {bodies : Arms} {t : Ty} → ElaborateArms scope locals arms rows bodies t
        → (before : Option Ty) → TypeFits scope before arms t → arms_at locals arms before rows ≡ Sound (record { arms = bodies; of_type = t })
    arms_pass TypingRules.NoArmRule before fits = ap (λ t. Sound (record { arms = NoArm; of_type = t })) (no_arms before _ fits)
    arms_pass (TypingRules.AndArmRule {locals = locals} {constructor = constructor} {fields = fields} {body = body} {rest = rest}
        {ts = ts} {others = rows} {x = x} {bodies = bodies} {t = t} many may h j) before fits =
        let inner = with_fields locals fields ts in
        let e : Typed = record { expression = x; of_type = t } in
        unless_holds (nat_eq (length fields) (length ts)) WrongCount constructor.at (then_checked (bound_names [] locals fields ts) (arm_bound before body rest locals rows))
        (equal_decides (length fields) (length ts)) many
        ∙ then_is (bound_names [] locals fields ts) (arm_bound before body rest locals rows) inner (pattern_binds locals fields ts may many)
        ∙ then_is (wanted_arm before (place_of body) (found_at inner body)) (arm_behind rest locals rows) e (body_passes before (place_of body) (found_at inner body) x t (passes h)
        (after_first before constructor fields body rest t fits))
        ∙ then_is (arms_at locals rest (Some t) rows) (behind_body x) (record { arms = bodies; of_type = t }) (arms_pass j (Some t) refl)

  mutual
    -- what is broken first is told
    pub tells : {locals : List Local} {tree : ExpSyntax} {kind : TypeKind} {place : Place} → Breaks scope locals tree kind place → found_at locals tree ≡ FaultAt kind place
    tells (BrokenRules.UnknownLocal {locals = locals} {at = at} {name = name} none) = ap (local_at at locals) (no_local_named locals name none)
    tells (BrokenRules.InFirst b) = rw (tells b) refl
    tells (BrokenRules.InSecond h b) = rw (passes h, tells b) refl
    tells (BrokenRules.InOperand {operation = operation} {operand = operand} b) = ap (unary operation (place_of operand)) (tells b) ∙ unary_fault operation (place_of operand) _ _
    tells (BrokenRules.FirstOfNoPair {operand = operand} {x = x} {t = t} h never) = ap (unary FstOperation (place_of operand)) (passes h) ∙ no_first (place_of operand) x t never
    tells (BrokenRules.SecondOfNoPair {operand = operand} {x = x} {t = t} h never) = ap (unary SndOperation (place_of operand)) (passes h) ∙ no_second (place_of operand) x t never
    tells (BrokenRules.OpensNoAuth {operand = operand} {x = x} {t = t} h never) = ap (unary UnauthOperation (place_of operand)) (passes h) ∙ no_opened (place_of operand) x t never
    tells (BrokenRules.LengthOfNoText {locals = locals} {operand = operand} {x = x} {t = t} h never) =
        ap (λ c. then_checked c (λ e. typed (LenE e) IntTy)) (wanted_other (place_of operand) TextTy t (found_at locals operand) x (passes h) never)
    tells (BrokenRules.NotOfNoBool {locals = locals} {operand = operand} {x = x} {t = t} h never) =
        ap (λ c. then_checked c (λ e. typed (NotE e) BoolTy)) (wanted_other (place_of operand) BoolTy t (found_at locals operand) x (passes h) never)
    tells (BrokenRules.InLeft {locals = locals} {operation = operation} {first = first} {second = second} {t = t} {kind = kind} {place = place} op m) =
        let left : wanted_at locals first (operand_type operation) ≡ FaultAt kind place = ap (λ t. wanted_at locals first t) (operates_on op) ∙ misfit_told m in
        then_fault (wanted_at locals first (operand_type operation)) (behind_left locals operation second) kind place left
    tells (BrokenRules.InRight {locals = locals} {operation = operation} {first = first} {second = second} {x = x} {t = t} {kind = kind} {place = place} op h m) =
        let is = operates_on op in
        let left : wanted_at locals first (operand_type operation) ≡ Sound x = ap (λ t. wanted_at locals first t) is ∙ wanted_is (place_of first) t (found_at locals first) x (passes h) in
        let right : wanted_at locals second (operand_type operation) ≡ FaultAt kind place = ap (λ t. wanted_at locals second t) is ∙ misfit_told m in
        then_is (wanted_at locals first (operand_type operation)) (behind_left locals operation second) x left
        ∙ then_fault (wanted_at locals second (operand_type operation)) (joined operation x) kind place right
    tells (BrokenRules.UnknownFunction {locals = locals} {at = at} {name = name} {operands = operands} none) =
        ap (λ o. called at (count_of operands) o (each_at locals operands)) (no_function_named scope.functions name none)
    tells (BrokenRules.OtherArguments {locals = locals} {at = at} {name = name} {operands = operands} {f = f} {signature = signature} named never) =
        ap (λ o. called at (count_of operands) o (each_at locals operands)) (function_is_named scope.functions name f signature named)
        ∙ unless_fails (nat_eq (count_of operands) (length signature.parameters)) WrongCount at
        (then_checked (each_at locals operands signature.parameters) (called_with f signature))
        (equal_decides (count_of operands) (length signature.parameters)) never
    tells (BrokenRules.InArguments {locals = locals} {at = at} {name = name} {operands = operands} {f = f} {signature = signature} {kind = kind} {place = place} named many m) =
        ap (λ o. called at (count_of operands) o (each_at locals operands)) (function_is_named scope.functions name f signature named)
        ∙ unless_holds (nat_eq (count_of operands) (length signature.parameters)) WrongCount at
        (then_checked (each_at locals operands signature.parameters) (called_with f signature))
        (equal_decides (count_of operands) (length signature.parameters)) many
        ∙ then_fault (each_at locals operands signature.parameters) (called_with f signature) kind place (one_told m)
    tells (BrokenRules.UnknownConstructor {locals = locals} {at = at} {name = name} {operands = operands} none) =
        ap (λ o. constructed at (count_of operands) scope.table o (each_at locals operands)) (no_constructor_named scope.constructors name none)
    tells (BrokenRules.OtherFields {locals = locals} {at = at} {name = name} {operands = operands} {number = number} {tag = tag} named never) =
        let ts = field_types scope number tag in
        ap (λ o. constructed at (count_of operands) scope.table o (each_at locals operands)) (constructor_is_named scope name number tag named)
        ∙ unless_fails (nat_eq (count_of operands) (length ts)) WrongCount at (then_checked (each_at locals operands ts) (made_with number tag))
        (equal_decides (count_of operands) (length ts)) never
    tells (BrokenRules.InFields {locals = locals} {at = at} {name = name} {operands = operands} {number = number} {tag = tag} {kind = kind} {place = place} named many m) =
        let ts = field_types scope number tag in
        ap (λ o. constructed at (count_of operands) scope.table o (each_at locals operands)) (constructor_is_named scope name number tag named)
        ∙ unless_holds (nat_eq (count_of operands) (length ts)) WrongCount at (then_checked (each_at locals operands ts) (made_with number tag))
        (equal_decides (count_of operands) (length ts)) many
        ∙ then_fault (each_at locals operands ts) (made_with number tag) kind place (one_told m)
    tells (BrokenRules.OtherOperands {locals = locals} {at = at} {operation = operation} {operands = operands} never) = other_operands locals at operation operands never
    tells (BrokenRules.FillsNoVec {locals = locals} {at = at} {operation = operation} {operands = operands} many never) = fills_none locals at operation operands many never
    tells (BrokenRules.InFirstOperand {locals = locals} {at = at} {operation = operation} {first = first} {rest = rest} {kind = kind} {place = place} many may b) =
        begun locals at operation first rest many may
        ∙ then_fault (found_at locals first) (behind_operand locals operation first rest) kind place (tells b)
    tells (BrokenRules.OperatesOnNoVec {locals = locals} {at = at} {operation = operation} {first = first} {rest = rest} {x = x} {t = t} many may h none) =
        begun locals at operation first rest many may
        ∙ then_is (found_at locals first) (behind_operand locals operation first rest) (typed_as x t) (passes h)
        ∙ then_fault (taken_by scope.format operation (place_of first) t) (behind_taken locals rest x) NotVec (place_of first)
        (none_taken scope.format operation (place_of first) t may none)
    tells (BrokenRules.InOthers {locals = locals} {at = at} {operation = operation} {first = first} {rest = rest} {x = x} {t = t} {op = op} {ts = ts} {kind = kind} {place = place} many h takes m) =
        begun locals at operation first rest many (takes_begin takes)
        ∙ then_is (found_at locals first) (behind_operand locals operation first rest) (typed_as x t) (passes h)
        ∙ then_is (taken_by scope.format operation (place_of first) t) (behind_taken locals rest x) (record { operation = op; others = ts }) (takes_is (place_of first) takes)
        ∙ then_fault (each_at locals rest ts) (made_on x (record { operation = op; others = ts })) kind place (one_told m)
    tells (BrokenRules.InBound {locals = locals} {name = name} {bound = bound} {body = body} {kind = kind} {place = place} b) =
        then_fault (found_at locals bound) (behind_bound locals name body) kind place (tells b)
    tells (BrokenRules.BindsTooMany {locals = locals} {name = name} {bound = bound} {body = body} {x = x} {a = a} h full) =
        then_is (found_at locals bound) (behind_bound locals name body) (typed_as x a) (passes h)
        ∙ unless_fails (nat_lt (length locals) most_locals) (Limit Locals) name.at (then_checked (found_at (with_local locals name.name a) body) (bound_in a x))
        (below_decides (length locals) most_locals) (below (length locals) most_locals full)
    tells (BrokenRules.InLetBody {locals = locals} {name = name} {bound = bound} {body = body} {x = x} {a = a} {kind = kind} {place = place} h room b) =
        let rest = then_checked (found_at (with_local locals name.name a) body) (bound_in a x) in
        then_is (found_at locals bound) (behind_bound locals name body) (typed_as x a) (passes h)
        ∙ unless_holds (nat_lt (length locals) most_locals) (Limit Locals) name.at rest (below_decides (length locals) most_locals) room
        ∙ then_fault (found_at (with_local locals name.name a) body) (bound_in a x) kind place (tells b)
    tells (BrokenRules.InTest {locals = locals} {test = test} {first = first} {other = other} {kind = kind} {place = place} m) =
        then_fault (wanted_at locals test BoolTy) (behind_test locals first other) kind place (misfit_told m)
    tells (BrokenRules.InThen {locals = locals} {test = test} {first = first} {other = other} {c = c} {kind = kind} {place = place} h b) =
        then_is (wanted_at locals test BoolTy) (behind_test locals first other) c (wanted_is (place_of test) BoolTy (found_at locals test) c (passes h))
        ∙ then_fault (found_at locals first) (behind_first locals other c) kind place (tells b)
    tells (BrokenRules.InElse {locals = locals} {test = test} {first = first} {other = other} {c = c} {x = x} {t = t} {kind = kind} {place = place} h j m) =
        then_is (wanted_at locals test BoolTy) (behind_test locals first other) c (wanted_is (place_of test) BoolTy (found_at locals test) c (passes h))
        ∙ then_is (found_at locals first) (behind_first locals other c) (typed_as x t) (passes j)
        ∙ then_fault (wanted_at locals other t) (λ y. typed (IfE c x y) t) kind place (misfit_told m)
    tells (BrokenRules.InSubject {locals = locals} {at = at} {subject = subject} {arms = arms} {kind = kind} {place = place} b) =
        then_fault (found_at locals subject) (behind_subject locals at subject arms) kind place (tells b)
    tells (BrokenRules.MatchesNoSum {locals = locals} {at = at} {subject = subject} {arms = arms} {x = x} {t = t} h never) =
        then_is (found_at locals subject) (behind_subject locals at subject arms) (typed_as x t) (passes h)
        ∙ no_match scope at (place_of subject) x t (arm_names arms) (arms_at locals arms None) never
    tells (BrokenRules.OtherArms {locals = locals} {at = at} {subject = subject} {arms = arms} {x = x} {number = number} h never) =
        let rows = constructor_fields scope number in
        then_is (found_at locals subject) (behind_subject locals at subject arms) (typed_as x (NamedTy number)) (passes h)
        ∙ unless_fails (same_names (arm_names arms) (constructor_names scope number)) ArmsWrong at (then_checked (arms_at locals arms None rows) (matched_by number x))
        (names_decide (arm_names arms) (constructor_names scope number)) never
    tells (BrokenRules.InArms {locals = locals} {at = at} {subject = subject} {arms = arms} {x = x} {number = number} {kind = kind} {place = place} h same b) =
        let rows = constructor_fields scope number in
        then_is (found_at locals subject) (behind_subject locals at subject arms) (typed_as x (NamedTy number)) (passes h)
        ∙ unless_holds (same_names (arm_names arms) (constructor_names scope number)) ArmsWrong at (then_checked (arms_at locals arms None rows) (matched_by number x))
        (names_decide (arm_names arms) (constructor_names scope number)) same
        ∙ then_fault (arms_at locals arms None rows) (matched_by number x) kind place (arms_told b)

    -- a part of which a type is wanted
    pub misfit_told : {locals : List Local} {t : Ty} {tree : ExpSyntax} {kind : TypeKind} {place : Place} → Misfits scope locals t tree kind place → wanted_at locals tree t ≡ FaultAt kind place
    misfit_told (BrokenRules.Inside {locals = locals} {t = t} {expression = tree} {kind = kind} {place = place} b) = wanted_fault (place_of tree) t (found_at locals tree) kind place (tells b)
    misfit_told (BrokenRules.OtherType {locals = locals} {t = t} {a = a} {expression = tree} {x = x} h never) = wanted_other (place_of tree) t a (found_at locals tree) x (passes h) never

    -- expressions in a row
    pub one_told : {locals : List Local} {ts : List Ty} {trees : ExpsSyntax} {kind : TypeKind} {place : Place}
        → OneMisfits scope locals ts trees kind place → each_at locals trees ts ≡ FaultAt kind place
    one_told (BrokenRules.ThisMisfits {locals = locals} {t = t} {ts = ts} {expression = tree} {rest = rest} {kind = kind} {place = place} m) =
        then_fault (wanted_at locals tree t) (behind_one locals rest ts) kind place (misfit_told m)
    one_told (BrokenRules.LaterMisfits {locals = locals} {t = t} {ts = ts} {expression = tree} {rest = rest} {x = x} {kind = kind} {place = place} h m) =
        then_is (wanted_at locals tree t) (behind_one locals rest ts) x (wanted_is (place_of tree) t (found_at locals tree) x (passes h))
        ∙ then_fault (each_at locals rest ts) (λ xs. Sound (AndE x xs)) kind place (one_told m)

    -- the body of an arm
    pub body_told : {locals : List Local} {before : Option Ty} {body : ExpSyntax} {kind : TypeKind} {place : Place} → BodyBreaks scope locals before body kind place
        → wanted_arm before (place_of body) (found_at locals body) ≡ FaultAt kind place
    body_told (BrokenRules.FirstBody b) = tells b
    body_told (BrokenRules.LaterBody {locals = locals} {t = t} {body = body} {kind = kind} {place = place} m) = then_fault (wanted_at locals body t) (λ e. typed e t) kind place (misfit_told m)

    -- arms
    pub arms_told : {locals : List Local} {arms : ArmsSyntax} {before : Option Ty} {rows : List (List Ty)} {kind : TypeKind} {place : Place} → ArmsBreak scope locals arms before rows kind place
        → arms_at locals arms before rows ≡ FaultAt kind place
    arms_told (BrokenRules.OtherNames {locals = locals} {constructor = constructor} {fields = fields} {body = body} {rest = rest} {before = before} {ts = ts} {others = rows} never) =
        unless_fails (nat_eq (length fields) (length ts)) WrongCount constructor.at (then_checked (bound_names [] locals fields ts) (arm_bound before body rest locals rows))
        (equal_decides (length fields) (length ts)) never
    arms_told (BrokenRules.InPattern {locals = locals} {constructor = constructor} {fields = fields} {body = body} {rest = rest} {before = before}
        {ts = ts} {others = rows} {kind = kind} {place = place} many b) =
        unless_holds (nat_eq (length fields) (length ts)) WrongCount constructor.at (then_checked (bound_names [] locals fields ts) (arm_bound before body rest locals rows))
        (equal_decides (length fields) (length ts)) many
        ∙ then_fault (bound_names [] locals fields ts) (arm_bound before body rest locals rows) kind place (pattern_breaks locals fields ts kind place b many)
    arms_told (BrokenRules.InBody {locals = locals} {constructor = constructor} {fields = fields} {body = body} {rest = rest} {before = before}
        {ts = ts} {others = rows} {kind = kind} {place = place} many may b) =
        let inner = with_fields locals fields ts in
        unless_holds (nat_eq (length fields) (length ts)) WrongCount constructor.at (then_checked (bound_names [] locals fields ts) (arm_bound before body rest locals rows))
        (equal_decides (length fields) (length ts)) many
        ∙ then_is (bound_names [] locals fields ts) (arm_bound before body rest locals rows) inner (pattern_binds locals fields ts may many)
        ∙ then_fault (wanted_arm before (place_of body) (found_at inner body)) (arm_behind rest locals rows) kind place (body_told b)
    arms_told (BrokenRules.InLaterArm {locals = locals} {constructor = constructor} {fields = fields} {body = body} {rest = rest} {before = before}
        {ts = ts} {others = rows} {x = x} {t = t} {kind = kind} {place = place} many may h is b) =
        let inner = with_fields locals fields ts in
        let e : Typed = record { expression = x; of_type = t } in
        unless_holds (nat_eq (length fields) (length ts)) WrongCount constructor.at (then_checked (bound_names [] locals fields ts) (arm_bound before body rest locals rows))
        (equal_decides (length fields) (length ts)) many
        ∙ then_is (bound_names [] locals fields ts) (arm_bound before body rest locals rows) inner (pattern_binds locals fields ts may many)
        ∙ then_is (wanted_arm before (place_of body) (found_at inner body)) (arm_behind rest locals rows) e (body_passes before (place_of body) (found_at inner body) x t (passes h) is)
        ∙ then_fault (arms_at locals rest (Some t) rows) (behind_body x) kind place (arms_told b)
