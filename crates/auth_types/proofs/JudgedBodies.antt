-- What passes is by the typing rules, and what is told is broken first.
use Rattle.std.proofs.Common.{◌≡◌, ℕ, suc, ◌<◌, ◌≤◌, Bool, true, false, List, [], ◌∷◌, length, inl, inr, Option, Some, None, bytes_eq, if◌then◌else◌, nat_eq, nat_lt, refl, sym, ap, ◌∙◌, subst, zero-add, arith}
use Rattle.std.specs.Bool.{Decides}
use Rattle.std.proofs.lemmas.Slice.Eq.{bytes_eq-Decides}
use Rattle.core_terms.specs.declared.term.BinaryOperator.TheVariants.{Arith, Compare, TextCompare, Cat}
use Rattle.core_terms.specs.declared.term.BinaryOperator.{BinaryOperator}
use Rattle.core_terms.specs.Types.{Ty, UnitTy, BoolTy, IntTy, TextTy, PairTy, NamedTy, AuthTy, VecTy, same_type}
use Rattle.core_terms.specs.Terms.{Expression, Expressions, AndArm, AndE, AuthE, CallE, ConE, LenE, NotE, MatchE, LocalE, OperateE}
use Rattle.core_terms.specs.Terms as tree
use Rattle.lexemes.specs.declared.place.Place.{Place}
use Rattle.auth_syntax.specs.Syntax.{NameSyntax, ExpSyntax, UnitSyntax, BoolSyntax, IntSyntax, TextSyntax, LocalSyntax, PairSyntax, UnarySyntax, BinarySyntax, CallSyntax, ConstructorSyntax, OperateSyntax, LetSyntax, IfSyntax, MatchSyntax, ExpsSyntax, NoExp, AndExp, ArmsSyntax, NoArmSyntax, AndArmSyntax, UnaryOperation, FstOperation, SndOperation, AuthOperation, UnauthOperation, LenOperation, NotOperation, ArrayOperation, place_of}
use Rattle.auth_syntax.specs.Nesting.{others_of}
use Rattle.declared_types.specs.Checking.{Checking, Sound, then_checked, unless_fault}
use Rattle.auth_types.specs.Bodies.{Local, Typed, TypedArms, arm_names, binary_expression, bound_names, called, constructed, count_of, elaborated, elaborated_arms, elaborated_each, first_of, last_named, local_at, matched, may_begin, most_locals, opened, operand_type, operated, operated_on, result_type, same_names, second_of, typed, unary, wanted, wanted_arm}
use Rattle.declared_types.specs.Signatures.{Numbered, Scope, Signature, constructor_named, function_named}
use Rattle.auth_types.specs.TypingRules
use Rattle.auth_types.specs.TypingRules.{Operates, NamesConstructor, constructor_names, constructor_fields, field_types, with_local, with_fields, MayBindAll, IsTypeOf, Elaborates, ElaborateEach, ElaborateArms}
use Rattle.auth_types.specs.BrokenRules
use Rattle.auth_types.specs.BrokenRules.{Breaks, Misfits, OneMisfits, BodyBreaks, ArmsBreak, BreaksNames, IsOfType}
use Rattle.auth_types.specs.TypingLaws.{IsWhole}
use Rattle.declared_types.specs.declared.fault.TypeKind.{TypeKind}
use Rattle.declared_types.specs.declared.fault.TypeKind.TheVariants.{ArmsWrong, Limit, NotVec, WrongCount, WrongType}
use Rattle.declared_types.specs.declared.fault.Limited.TheVariants.{Locals}
use Rattle.declared_types.proofs.SoundNames.{as_many_at}
use Rattle.auth_types.proofs.NamedParts.{LocalFound, FunctionFound, TypeFound, local_by_name, function_by_name, constructor_by_name, type_of_local}
use Rattle.auth_types.proofs.Judging.{Judges, judges_then, judges_unless, judges_more, type_decides, equal_decides, below_decides}
use Rattle.auth_types.proofs.JudgedNames.{pattern_judged}
use Rattle.auth_types.proofs.TakenArrays.{IsRuled, taken_ruled, takes_count}

-- the table of operations is that of the checker
pub operates : (operation : BinaryOperator) → Operates operation (operand_type operation) (result_type operation) (λ x y. binary_expression operation x y)
operates (Arith operator) = TypingRules.Computes operator
operates (Compare operator) = TypingRules.Compares operator
operates (TextCompare operator) = TypingRules.ComparesTexts operator
operates Cat = TypingRules.Joins

-- a test of names in order
pub names_decide : (names others : List (List ℕ)) → Decides (same_names names others) (names ≡ others)
names_decide [] [] = (λ e. refl, λ e. refl)
names_decide [] (b ∷ others) = (λ e. absurd (cc), λ e. absurd (cc))
names_decide (a ∷ names) [] = (λ e. absurd (cc), λ e. absurd (cc))
names_decide (a ∷ names) (b ∷ others) = by (bytes_eq a b) (bytes_eq-Decides a b) (names_decide names others)
  where
    by : (e : Bool) → Decides e (a ≡ b) → Decides (same_names names others) (names ≡ others) → Decides (if e then same_names names others else false) (a ∷ names ≡ b ∷ others)
    by true d rest = (λ e. let same : names ≡ others = rest.0 e in let here : a ≡ b = d.0 refl in cc, λ e. rest.1 (cc))
    by false d rest = (λ e. absurd (cc), λ e. let here : false ≡ true = d.1 (cc) in absurd (cc))

not_below : (a b : ℕ) → (a < b → ⊥) → b ≤ a
not_below a b never = grind arith

module _ (scope : Scope) where
  abbrev pub Means : List Local → ExpSyntax → Typed → Type 0
  Means locals tree e = Elaborates scope locals tree e.expression e.of_type

  abbrev pub IsJudged : List Local → ExpSyntax → Checking Typed → Type 0
  IsJudged locals tree found = Judges (Means locals tree) (Breaks scope locals tree) found

  abbrev pub IsWanted : List Local → Ty → ExpSyntax → Checking Expression → Type 0
  IsWanted locals t tree found = Judges (λ x. Elaborates scope locals tree x t) (Misfits scope locals t tree) found

  pub wanted_judged : (locals : List Local) (t : Ty) (tree : ExpSyntax) (found : Checking Typed) → IsJudged locals tree found → IsWanted locals t tree (wanted (place_of tree) t found)
  wanted_judged locals t tree found h =
      let R : Expression → Type 0 = λ x. Elaborates scope locals tree x t in
      judges_then (Means locals tree) (Breaks scope locals tree) R (Misfits scope locals t tree) found (λ e. unless_fault (same_type e.of_type t) WrongType (place_of tree) (Sound e.expression)) h
      (λ kind at b. BrokenRules.Inside b)
      (λ e he. judges_unless (e.of_type ≡ t) R (Misfits scope locals t tree) (same_type e.of_type t) WrongType (place_of tree) (Sound e.expression) (type_decides e.of_type t)
      (λ never. BrokenRules.OtherType he never) (λ same. subst (λ a. Elaborates scope locals tree e.expression a) same he))

  -- what goes on behind a part, and behind one of which a type is wanted
  behind_part : (inner : List Local) (part : ExpSyntax) (locals : List Local) (whole : ExpSyntax) (found : Checking Typed) (rest : Typed → Checking Typed)
      → IsJudged inner part found → ((kind : TypeKind) (at : Place) → Breaks scope inner part kind at → Breaks scope locals whole kind at)
      → ((e : Typed) → Means inner part e → IsJudged locals whole (rest e)) → IsJudged locals whole (then_checked found rest)
  behind_part inner part locals whole found rest =
      judges_then (Means inner part) (Breaks scope inner part) (Means locals whole) (Breaks scope locals whole) found rest

  behind_wanted : (locals : List Local) (t : Ty) (part whole : ExpSyntax) (found : Checking Typed) (rest : Expression → Checking Typed)
      → IsJudged locals part found → ((kind : TypeKind) (at : Place) → Misfits scope locals t part kind at → Breaks scope locals whole kind at)
      → ((x : Expression) → Elaborates scope locals part x t → IsJudged locals whole (rest x))
      → IsJudged locals whole (then_checked (wanted (place_of part) t found) rest)
  behind_wanted locals t part whole found rest h =
      judges_then (λ x. Elaborates scope locals part x t) (Misfits scope locals t part) (Means locals whole) (Breaks scope locals whole)
      (wanted (place_of part) t found) rest (wanted_judged locals t part found h)

  local_judged : (locals : List Local) (at : Place) (name : List ℕ) (found : Option ℕ) → LocalFound 0 locals name found → IsJudged locals (LocalSyntax at name) (local_at at locals found)
  local_judged locals at name None none = BrokenRules.UnknownLocal none
  local_judged locals at name (Some i) (k, l, is, names) =
      let same : k ≡ i = sym (is ∙ zero-add k) in
      let named = subst (λ j. TypingRules.NamesLocal locals name j l) same names in
      subst (λ t. Elaborates scope locals (LocalSyntax at name) (LocalE i) t) (sym (type_of_local locals name i l named)) (TypingRules.LocalRule named)

  -- an operation on one operand
  first_judged : (locals : List Local) (at : Place) (tree : ExpSyntax) (e : Expression) (t : Ty) → Elaborates scope locals tree e t
      → IsJudged locals (UnarySyntax at FstOperation tree) (first_of (place_of tree) e t)
  first_judged locals at tree e (PairTy a b) h = TypingRules.FstRule h
  first_judged locals at tree e UnitTy h = BrokenRules.FirstOfNoPair h (λ a b same. absurd (cc))
  first_judged locals at tree e BoolTy h = BrokenRules.FirstOfNoPair h (λ a b same. absurd (cc))
  first_judged locals at tree e IntTy h = BrokenRules.FirstOfNoPair h (λ a b same. absurd (cc))
  first_judged locals at tree e TextTy h = BrokenRules.FirstOfNoPair h (λ a b same. absurd (cc))
  first_judged locals at tree e (VecTy n t) h = BrokenRules.FirstOfNoPair h (λ a b same. absurd (cc))
  first_judged locals at tree e (NamedTy n) h = BrokenRules.FirstOfNoPair h (λ a b same. absurd (cc))
  first_judged locals at tree e (AuthTy t) h = BrokenRules.FirstOfNoPair h (λ a b same. absurd (cc))

  second_judged : (locals : List Local) (at : Place) (tree : ExpSyntax) (e : Expression) (t : Ty) → Elaborates scope locals tree e t
      → IsJudged locals (UnarySyntax at SndOperation tree) (second_of (place_of tree) e t)
  second_judged locals at tree e (PairTy a b) h = TypingRules.SndRule h
  second_judged locals at tree e UnitTy h = BrokenRules.SecondOfNoPair h (λ a b same. absurd (cc))
  second_judged locals at tree e BoolTy h = BrokenRules.SecondOfNoPair h (λ a b same. absurd (cc))
  second_judged locals at tree e IntTy h = BrokenRules.SecondOfNoPair h (λ a b same. absurd (cc))
  second_judged locals at tree e TextTy h = BrokenRules.SecondOfNoPair h (λ a b same. absurd (cc))
  second_judged locals at tree e (VecTy n t) h = BrokenRules.SecondOfNoPair h (λ a b same. absurd (cc))
  second_judged locals at tree e (NamedTy n) h = BrokenRules.SecondOfNoPair h (λ a b same. absurd (cc))
  second_judged locals at tree e (AuthTy t) h = BrokenRules.SecondOfNoPair h (λ a b same. absurd (cc))

  opened_judged : (locals : List Local) (at : Place) (tree : ExpSyntax) (e : Expression) (t : Ty) → Elaborates scope locals tree e t
      → IsJudged locals (UnarySyntax at UnauthOperation tree) (opened (place_of tree) e t)
  opened_judged locals at tree e (AuthTy t) h = TypingRules.UnauthRule h
  opened_judged locals at tree e UnitTy h = BrokenRules.OpensNoAuth h (λ a same. absurd (cc))
  opened_judged locals at tree e BoolTy h = BrokenRules.OpensNoAuth h (λ a same. absurd (cc))
  opened_judged locals at tree e IntTy h = BrokenRules.OpensNoAuth h (λ a same. absurd (cc))
  opened_judged locals at tree e TextTy h = BrokenRules.OpensNoAuth h (λ a same. absurd (cc))
  opened_judged locals at tree e (VecTy n t) h = BrokenRules.OpensNoAuth h (λ a same. absurd (cc))
  opened_judged locals at tree e (NamedTy n) h = BrokenRules.OpensNoAuth h (λ a same. absurd (cc))
  opened_judged locals at tree e (PairTy a b) h = BrokenRules.OpensNoAuth h (λ a same. absurd (cc))

  -- a text's length, and a bool's opposite
  misfit_length : (locals : List Local) (at : Place) (tree : ExpSyntax) (kind : TypeKind) (place : Place) → Misfits scope locals TextTy tree kind place
      → Breaks scope locals (UnarySyntax at LenOperation tree) kind place
  misfit_length locals at tree kind place (BrokenRules.Inside b) = BrokenRules.InOperand b
  misfit_length locals at tree _ _ (BrokenRules.OtherType h never) = BrokenRules.LengthOfNoText h never

  misfit_not : (locals : List Local) (at : Place) (tree : ExpSyntax) (kind : TypeKind) (place : Place) → Misfits scope locals BoolTy tree kind place
      → Breaks scope locals (UnarySyntax at NotOperation tree) kind place
  misfit_not locals at tree kind place (BrokenRules.Inside b) = BrokenRules.InOperand b
  misfit_not locals at tree _ _ (BrokenRules.OtherType h never) = BrokenRules.NotOfNoBool h never

  unary_judged : (locals : List Local) (at : Place) (operation : UnaryOperation) (tree : ExpSyntax) (found : Checking Typed) → IsJudged locals tree found
      → IsJudged locals (UnarySyntax at operation tree) (unary operation (place_of tree) found)
  unary_judged locals at FstOperation tree found h =
      let whole = UnarySyntax at FstOperation tree in
      behind_part locals tree locals whole found (λ e. first_of (place_of tree) e.expression e.of_type) h
      (λ kind place b. BrokenRules.InOperand b) (λ e he. first_judged locals at tree e.expression e.of_type he)
  unary_judged locals at SndOperation tree found h =
      let whole = UnarySyntax at SndOperation tree in
      behind_part locals tree locals whole found (λ e. second_of (place_of tree) e.expression e.of_type) h
      (λ kind place b. BrokenRules.InOperand b) (λ e he. second_judged locals at tree e.expression e.of_type he)
  unary_judged locals at AuthOperation tree found h =
      let whole = UnarySyntax at AuthOperation tree in
      behind_part locals tree locals whole found (λ e. typed (AuthE e.of_type e.expression) (AuthTy e.of_type)) h
      (λ kind place b. BrokenRules.InOperand b) (λ e he. TypingRules.AuthRule he)
  unary_judged locals at UnauthOperation tree found h =
      let whole = UnarySyntax at UnauthOperation tree in
      behind_part locals tree locals whole found (λ e. opened (place_of tree) e.expression e.of_type) h
      (λ kind place b. BrokenRules.InOperand b) (λ e he. opened_judged locals at tree e.expression e.of_type he)
  unary_judged locals at LenOperation tree found h =
      let whole = UnarySyntax at LenOperation tree in
      behind_wanted locals TextTy tree whole found (λ e. typed (LenE e) IntTy)
      h (misfit_length locals at tree) (λ e he. TypingRules.LenRule he)
  unary_judged locals at NotOperation tree found h =
      let whole = UnarySyntax at NotOperation tree in
      behind_wanted locals BoolTy tree whole found (λ e. typed (NotE e) BoolTy)
      h (misfit_not locals at tree) (λ e he. TypingRules.NotRule he)

  -- expressions in a row
  abbrev pub AreJudged : List Local → ExpsSyntax → List Ty → Checking Expressions → Type 0
  AreJudged locals trees ts found = Judges (λ xs. ElaborateEach scope locals trees xs ts) (OneMisfits scope locals ts trees) found

  call_judged : (locals : List Local) (at : Place) (name : List ℕ) (operands : ExpsSyntax) (found : Option (Numbered Signature)) → FunctionFound 0 scope.functions name found
      → ((ts : List Ty) → count_of operands ≡ length ts → AreJudged locals operands ts (elaborated_each scope locals operands ts))
      → IsJudged locals (CallSyntax at name operands) (called at (count_of operands) found (elaborated_each scope locals operands))
  call_judged locals at name operands None none each = BrokenRules.UnknownFunction none
  call_judged locals at name operands (Some f) (k, is, first) each =
      let whole = CallSyntax at name operands in
      let same : k ≡ f.number = sym (is ∙ zero-add k) in
      let named = subst (λ j. TypingRules.NamesFunction scope name j f.value) same first in
      let ts = f.value.parameters in
      judges_unless (count_of operands ≡ length ts) (Means locals whole) (Breaks scope locals whole) (nat_eq (count_of operands) (length ts)) WrongCount at _
      (equal_decides (count_of operands) (length ts))
      (λ never. BrokenRules.OtherArguments named never)
      (λ many. judges_then (λ xs. ElaborateEach scope locals operands xs ts) (OneMisfits scope locals ts operands) (Means locals whole) (Breaks scope locals whole)
      (elaborated_each scope locals operands ts) (λ xs. typed (CallE f.number xs) f.value.result) (each ts many)
      (λ kind place m. BrokenRules.InArguments named many m) (λ xs hxs. TypingRules.CallRule named hxs))

  constructor_judged : (locals : List Local) (at : Place) (name : List ℕ) (operands : ExpsSyntax) (found : Option (Numbered ℕ)) → TypeFound 0 scope.constructors name found
      → ((ts : List Ty) → count_of operands ≡ length ts → AreJudged locals operands ts (elaborated_each scope locals operands ts))
      → IsJudged locals (ConstructorSyntax at name operands) (constructed at (count_of operands) scope.table found (elaborated_each scope locals operands))
  constructor_judged locals at name operands None none each = BrokenRules.UnknownConstructor none
  constructor_judged locals at name operands (Some c) (k, siblings, is, first, tagged) each =
      let whole = ConstructorSyntax at name operands in
      let same : k ≡ c.number = sym (is ∙ zero-add k) in
      let here : NamesConstructor scope name k c.value = record { siblings = siblings; of_type = first; tagged = tagged } in
      let named = subst (λ j. NamesConstructor scope name j c.value) same here in
      let ts = field_types scope c.number c.value in
      judges_unless (count_of operands ≡ length ts) (Means locals whole) (Breaks scope locals whole) (nat_eq (count_of operands) (length ts)) WrongCount at _
      (equal_decides (count_of operands) (length ts))
      (λ never. BrokenRules.OtherFields named never)
      (λ many. judges_then (λ xs. ElaborateEach scope locals operands xs ts) (OneMisfits scope locals ts operands) (Means locals whole) (Breaks scope locals whole)
      (elaborated_each scope locals operands ts) (λ xs. typed (ConE c.number c.value xs) (NamedTy c.number)) (each ts many)
      (λ kind place m. BrokenRules.InFields named many m) (λ xs hxs. TypingRules.ConstructorRule named hxs))

  -- an operation on arrays
  operated_judged : (locals : List Local) (at : Place) (operation : ArrayOperation) (first : ExpSyntax) (rest : ExpsSyntax) (found : Checking Typed)
      → IsJudged locals first found
      → ((ts : List Ty) → count_of rest ≡ length ts → AreJudged locals rest ts (elaborated_each scope locals rest ts))
      → IsJudged locals (OperateSyntax at operation (AndExp first rest))
      (operated scope.format at operation (count_of rest) (place_of first) found (elaborated_each scope locals rest))
  operated_judged locals at operation first rest found h each =
      let whole = OperateSyntax at operation (AndExp first rest) in
      judges_unless (count_of rest ≡ others_of operation) (Means locals whole) (Breaks scope locals whole) (nat_eq (count_of rest) (others_of operation)) WrongCount at _
      (equal_decides (count_of rest) (others_of operation))
      (λ never. BrokenRules.OtherOperands (λ same. never (cc)))
      (λ many. judges_unless (may_begin scope.format operation ≡ true) (Means locals whole) (Breaks scope locals whole) (may_begin scope.format operation) NotVec at _
      (λ e. e, λ e. e) (λ never. BrokenRules.FillsNoVec (ap suc many) never)
      (λ may. behind_part locals first locals whole found (operated_on scope.format operation (place_of first) (elaborated_each scope locals rest)) h
      (λ kind place b. BrokenRules.InFirstOperand many may b)
      (λ x hx. by many may x hx (taken_ruled scope.format operation (place_of first) x.of_type may))))
    where
      by : count_of rest ≡ others_of operation → may_begin scope.format operation ≡ true → (x : Typed) → Means locals first x
          → IsRuled scope.format operation (place_of first) x.of_type
          → IsJudged locals (OperateSyntax at operation (AndExp first rest)) (operated_on scope.format operation (place_of first) (elaborated_each scope locals rest) x)
      by many may x hx (inl (op, ts, takes, is)) =
          let whole = OperateSyntax at operation (AndExp first rest) in
          subst (λ c. IsJudged locals whole (then_checked c (λ taken. then_checked (elaborated_each scope locals rest taken.others)
          (λ xs. typed (OperateE taken.operation (AndE x.expression xs)) (tree.result_type taken.operation))))) (sym is)
          (judges_then (λ xs. ElaborateEach scope locals rest xs ts) (OneMisfits scope locals ts rest) (Means locals whole) (Breaks scope locals whole)
          (elaborated_each scope locals rest ts) (λ xs. typed (OperateE op (AndE x.expression xs)) (tree.result_type op))
          (each ts (many ∙ sym (takes_count takes))) (λ kind place m. BrokenRules.InOthers many hx takes m) (λ xs hxs. TypingRules.OperateRule hx takes hxs))
      by many may x hx (inr (none, is)) =
          subst (λ c. IsJudged locals (OperateSyntax at operation (AndExp first rest)) (then_checked c (λ taken. then_checked (elaborated_each scope locals rest taken.others)
          (λ xs. typed (OperateE taken.operation (AndE x.expression xs)) (tree.result_type taken.operation))))) (sym is)
          (BrokenRules.OperatesOnNoVec many may hx none)

  -- arms
  abbrev pub TypeFits : Option Ty → ArmsSyntax → Ty → Type 0
  TypeFits None arms t = IsTypeOf arms t
  TypeFits (Some before) arms t = t ≡ before

  abbrev pub HaveMeaning : List Local → ArmsSyntax → Option Ty → List (List Ty) → TypedArms → Type 0
  HaveMeaning locals arms before rows found = ElaborateArms scope locals arms rows found.arms found.of_type × TypeFits before arms found.of_type

  abbrev pub HasBody : List Local → Option Ty → ExpSyntax → Typed → Type 0
  HasBody locals before body e = Means locals body e × IsOfType before e.of_type

  body_judged : (locals : List Local) (before : Option Ty) (body : ExpSyntax) (found : Checking Typed) → IsJudged locals body found
      → Judges (HasBody locals before body) (BodyBreaks scope locals before body) (wanted_arm before (place_of body) found)
  body_judged locals None body found h =
      judges_more (Means locals body) (HasBody locals None body) (Breaks scope locals body) (BodyBreaks scope locals None body) found (λ e he. (he, tt)) (λ kind place b. BrokenRules.FirstBody b) h
  body_judged locals (Some t) body found h =
      judges_then (λ x. Elaborates scope locals body x t) (Misfits scope locals t body) (HasBody locals (Some t) body) (BodyBreaks scope locals (Some t) body)
      (wanted (place_of body) t found) (λ x. typed x t)
      (wanted_judged locals t body found h) (λ kind place m. BrokenRules.LaterBody m) (λ x hx. (hx, refl))

  -- what follows of an arm and of those behind it
  arm_and_rest : (locals : List Local) (constructor : NameSyntax) (fields : List NameSyntax) (body : ExpSyntax) (rest : ArmsSyntax) (before : Option Ty)
      (ts : List Ty) (rows : List (List Ty)) (e : Typed) (found : TypedArms)
      → length fields ≡ length ts → MayBindAll locals fields → HasBody (with_fields locals fields ts) before body e → HaveMeaning locals rest (Some e.of_type) rows found
      → HaveMeaning locals (AndArmSyntax constructor fields body rest) before (ts ∷ rows) (record { arms = AndArm e.expression found.arms; of_type = found.of_type })
  arm_and_rest locals constructor fields body rest before ts rows e found many may he hrest =
      let here = subst (λ t. Elaborates scope (with_fields locals fields ts) body e.expression t) (sym hrest.1) he.0 in
      (TypingRules.AndArmRule many may here hrest.0, by before he.1)
    where
      by : (before : Option Ty) → IsOfType before e.of_type → TypeFits before (AndArmSyntax constructor fields body rest) found.of_type
      by None h = tt
      by (Some t) h = hrest.1 ∙ h

  match_judged : (locals : List Local) (at : Place) (subject : ExpSyntax) (arms : ArmsSyntax) (e : Expression) (t : Ty) → Elaborates scope locals subject e t
      → ((rows : List (List Ty)) → length (arm_names arms) ≡ length rows
      → Judges (HaveMeaning locals arms None rows) (ArmsBreak scope locals arms None rows) (elaborated_arms scope locals arms None rows))
      → IsWhole scope
      → IsJudged locals (MatchSyntax at subject arms) (matched scope at (place_of subject) e t (arm_names arms) (elaborated_arms scope locals arms None))
  match_judged locals at subject arms e UnitTy h each whole = BrokenRules.MatchesNoSum h (λ n same. absurd (cc))
  match_judged locals at subject arms e BoolTy h each whole = BrokenRules.MatchesNoSum h (λ n same. absurd (cc))
  match_judged locals at subject arms e IntTy h each whole = BrokenRules.MatchesNoSum h (λ n same. absurd (cc))
  match_judged locals at subject arms e TextTy h each whole = BrokenRules.MatchesNoSum h (λ n same. absurd (cc))
  match_judged locals at subject arms e (PairTy a b) h each whole = BrokenRules.MatchesNoSum h (λ n same. absurd (cc))
  match_judged locals at subject arms e (VecTy n a) h each whole = BrokenRules.MatchesNoSum h (λ n same. absurd (cc))
  match_judged locals at subject arms e (AuthTy a) h each whole = BrokenRules.MatchesNoSum h (λ n same. absurd (cc))
  match_judged locals at subject arms e (NamedTy number) h each whole =
      let tree = MatchSyntax at subject arms in
      let names = constructor_names scope number in
      let rows = constructor_fields scope number in
      judges_unless (arm_names arms ≡ names) (Means locals tree) (Breaks scope locals tree) (same_names (arm_names arms) names) ArmsWrong at _ (names_decide (arm_names arms) names)
      (λ never. BrokenRules.OtherArms h never)
      (λ same. judges_then (HaveMeaning locals arms None rows) (ArmsBreak scope locals arms None rows) (Means locals tree) (Breaks scope locals tree) (elaborated_arms scope locals arms None rows)
      (λ found. typed (MatchE number e found.arms) found.of_type) (each rows (ap length same ∙ as_many_at scope.constructors scope.table number whole))
      (λ kind place b. BrokenRules.InArms h same b) (λ found hs. TypingRules.MatchRule h same hs.0 hs.1))

  module _ (whole : IsWhole scope) where
    mutual
      -- an expression
      pub judged : (locals : List Local) (tree : ExpSyntax) → IsJudged locals tree (elaborated scope locals tree)
      judged locals (UnitSyntax at) = TypingRules.UnitRule
      judged locals (BoolSyntax at b) = TypingRules.BoolRule
      judged locals (IntSyntax at z) = TypingRules.IntRule
      judged locals (TextSyntax at bytes) = TypingRules.TextRule
      judged locals (LocalSyntax at name) = local_judged locals at name (last_named 0 locals name) (local_by_name locals name)
      judged locals (PairSyntax at first second) =
          let tree = PairSyntax at first second in
          behind_part locals first locals tree (elaborated scope locals first) _ (judged locals first) (λ kind place b. BrokenRules.InFirst b)
          (λ x hx. behind_part locals second locals tree (elaborated scope locals second) _ (judged locals second)
          (λ kind place b. BrokenRules.InSecond hx b) (λ y hy. TypingRules.PairRule hx hy))
      judged locals (UnarySyntax at operation operand) = unary_judged locals at operation operand (elaborated scope locals operand) (judged locals operand)
      judged locals (BinarySyntax at operation first second) =
          let tree = BinarySyntax at operation first second in
          let t = operand_type operation in
          behind_wanted locals t first tree (elaborated scope locals first) _
          (judged locals first) (λ kind place m. BrokenRules.InLeft (operates operation) m)
          (λ x hx. behind_wanted locals t second tree (elaborated scope locals second) _
          (judged locals second) (λ kind place m. BrokenRules.InRight (operates operation) hx m)
          (λ y hy. TypingRules.BinaryRule (operates operation) hx hy))
      judged locals (CallSyntax at name operands) =
          call_judged locals at name operands (function_named 0 scope.functions name) (function_by_name scope.functions name) (λ ts many. each_judged locals operands ts many)
      judged locals (ConstructorSyntax at name operands) =
          constructor_judged locals at name operands (constructor_named 0 scope.constructors name) (constructor_by_name scope.constructors name) (λ ts many. each_judged locals operands ts many)
      judged locals (OperateSyntax at operation NoExp) = BrokenRules.OtherOperands (λ same. absurd (cc))
      judged locals (OperateSyntax at operation (AndExp first rest)) =
          operated_judged locals at operation first rest (elaborated scope locals first) (judged locals first) (λ ts many. each_judged locals rest ts many)
      judged locals (LetSyntax at name bound body) =
          let tree = LetSyntax at name bound body in
          behind_part locals bound locals tree (elaborated scope locals bound) _ (judged locals bound) (λ kind place b. BrokenRules.InBound b)
          (λ x hx. judges_unless (length locals < most_locals) (Means locals tree) (Breaks scope locals tree) (nat_lt (length locals) most_locals)
          (Limit Locals) name.at _ (below_decides (length locals) most_locals)
          (λ never. BrokenRules.BindsTooMany hx (not_below (length locals) most_locals never))
          (λ room. let inner = with_local locals name.name x.of_type in
          behind_part inner body locals tree (elaborated scope inner body) _ (judged inner body)
          (λ kind place b. BrokenRules.InLetBody hx room b) (λ y hy. TypingRules.LetRule hx room hy)))
      judged locals (IfSyntax at test first other) =
          let tree = IfSyntax at test first other in
          behind_wanted locals BoolTy test tree (elaborated scope locals test) _
          (judged locals test) (λ kind place m. BrokenRules.InTest m)
          (λ c hc. behind_part locals first locals tree (elaborated scope locals first) _ (judged locals first) (λ kind place b. BrokenRules.InThen hc b)
          (λ x hx. behind_wanted locals x.of_type other tree (elaborated scope locals other) _
          (judged locals other) (λ kind place m. BrokenRules.InElse hc hx m)
          (λ y hy. TypingRules.IfRule hc hx hy)))
      judged locals (MatchSyntax at subject arms) =
          let tree = MatchSyntax at subject arms in
          behind_part locals subject locals tree (elaborated scope locals subject) _ (judged locals subject) (λ kind place b. BrokenRules.InSubject b)
          (λ e he. match_judged locals at subject arms e.expression e.of_type he (λ rows many. arms_judged locals arms None rows many) whole)

      -- expressions in a row, as many as their types
      pub each_judged : (locals : List Local) (trees : ExpsSyntax) (ts : List Ty) → count_of trees ≡ length ts → AreJudged locals trees ts (elaborated_each scope locals trees ts)
      each_judged locals NoExp [] many = TypingRules.NoRule
      each_judged locals NoExp (t ∷ ts) many = absurd (cc)
      each_judged locals (AndExp tree rest) [] many = absurd (cc)
      each_judged locals (AndExp tree rest) (t ∷ ts) many =
          let all = AndExp tree rest in
          let R : Expressions → Type 0 = λ xs. ElaborateEach scope locals all xs (t ∷ ts) in
          judges_then (λ x. Elaborates scope locals tree x t) (Misfits scope locals t tree) R (OneMisfits scope locals (t ∷ ts) all) (wanted (place_of tree) t (elaborated scope locals tree)) _
          (wanted_judged locals t tree (elaborated scope locals tree) (judged locals tree)) (λ kind place m. BrokenRules.ThisMisfits m)
          (λ x hx. judges_then (λ xs. ElaborateEach scope locals rest xs ts) (OneMisfits scope locals ts rest) R (OneMisfits scope locals (t ∷ ts) all)
          (elaborated_each scope locals rest ts) _ (each_judged locals rest ts (cc))
          (λ kind place m. BrokenRules.LaterMisfits hx m) (λ xs hxs. TypingRules.AndRule hx hxs))

      -- arms, as many as the constructors
      pub arms_judged : (locals : List Local) (arms : ArmsSyntax) (before : Option Ty) (rows : List (List Ty)) → length (arm_names arms) ≡ length rows
          → Judges (HaveMeaning locals arms before rows) (ArmsBreak scope locals arms before rows) (elaborated_arms scope locals arms before rows)
      arms_judged locals NoArmSyntax None [] many = (TypingRules.NoArmRule, refl)
      arms_judged locals NoArmSyntax (Some t) [] many = (TypingRules.NoArmRule, refl)
      arms_judged locals NoArmSyntax before (ts ∷ rows) many = absurd (cc)
      arms_judged locals (AndArmSyntax constructor fields body rest) before [] many = absurd (cc)
      arms_judged locals (AndArmSyntax constructor fields body rest) before (ts ∷ rows) many =
          let arms = AndArmSyntax constructor fields body rest in
          let inner = with_fields locals fields ts in
          let R = HaveMeaning locals arms before (ts ∷ rows) in
          let G = ArmsBreak scope locals arms before (ts ∷ rows) in
          judges_unless (length fields ≡ length ts) R G (nat_eq (length fields) (length ts)) WrongCount constructor.at _ (equal_decides (length fields) (length ts))
          (λ never. BrokenRules.OtherNames never)
          (λ as_many. judges_then (λ found. MayBindAll locals fields × (found ≡ inner)) (BreaksNames locals fields) R G (bound_names [] locals fields ts) _
          (pattern_judged locals fields ts as_many)
          (λ kind place b. BrokenRules.InPattern as_many b)
          (λ found (may, is). subst (λ bound. Judges R G (then_checked (wanted_arm before (place_of body) (elaborated scope bound body)) (λ e.
          then_checked (elaborated_arms scope locals rest (Some e.of_type) rows)
          (λ typed_arms. Sound (record { arms = AndArm e.expression typed_arms.arms; of_type = typed_arms.of_type }))))) (sym is)
          (judges_then (HasBody inner before body) (BodyBreaks scope inner before body) R G (wanted_arm before (place_of body) (elaborated scope inner body)) _
          (body_judged inner before body (elaborated scope inner body) (judged inner body)) (λ kind place b. BrokenRules.InBody as_many may b)
          (λ e he. judges_then (HaveMeaning locals rest (Some e.of_type) rows) (ArmsBreak scope locals rest (Some e.of_type) rows) R G (elaborated_arms scope locals rest (Some e.of_type) rows) _
          (arms_judged locals rest (Some e.of_type) rows (cc)) (λ kind place b. BrokenRules.InLaterArm as_many may he.0 he.1 b)
          (λ found hrest. arm_and_rest locals constructor fields body rest before ts rows e found as_many may he hrest)))))
