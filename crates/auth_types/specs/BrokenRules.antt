-- Which rule an expression breaks first, and at which place: what is judged before has its type, and at that place the rule is broken.
use Rattle.std.specs.Prelude.{◌≡◌, ℕ, suc, ◌≤◌, ◌<◌, ◌+◌, true, List, [], ◌∷◌, length, map, Option, Some, None}
use Rattle.std.specs.List.{Contains}
use Rattle.core_terms.specs.declared.term.BinaryOperator.{BinaryOperator}
use Rattle.core_terms.specs.Types.{Ty, BoolTy, TextTy, PairTy, NamedTy, AuthTy}
use Rattle.core_terms.specs.Terms.{Expression, Operation}
use Rattle.lexemes.specs.declared.place.Place.{Place}
use Rattle.auth_syntax.specs.Nesting.{others_of}
use Rattle.auth_syntax.specs.Syntax.{NameSyntax, ExpSyntax, LocalSyntax, PairSyntax, UnarySyntax, BinarySyntax, CallSyntax, ConstructorSyntax, OperateSyntax, LetSyntax, IfSyntax, MatchSyntax, ExpsSyntax, AndExp, ArmsSyntax, AndArmSyntax, UnaryOperation, FstOperation, SndOperation, UnauthOperation, LenOperation, NotOperation, ArrayOperation, place_of}
use Rattle.auth_types.specs.Bodies.{Local, arm_names, count_of, may_begin, most_locals}
use Rattle.declared_types.specs.Signatures.{Scope, Signature}
use Rattle.auth_types.specs.InOrder.{NoneFits, OneBreaks}
use Rattle.auth_types.specs.TypingRules.{Operates, TakesFirst, NamesFunction, NamesConstructor, constructor_names, constructor_fields, field_types, with_local, with_fields, MayBind, MayBindAll, Elaborates}
use Rattle.declared_types.specs.declared.fault.TypeKind.{TypeKind}
use Rattle.declared_types.specs.declared.fault.TypeKind.TheVariants.{Twice, UnknownName, WrongType, NotPair, NotAuth, NotVec, NotSum, ArmsWrong, WrongCount, Limit}
use Rattle.declared_types.specs.declared.fault.Limited.TheVariants.{Locals}

-- the type is no pair, no authenticated one, no named one
abbrev pub IsNoPair : Ty → Type 0
IsNoPair t = (a b : Ty) → t ≡ PairTy a b → ⊥

abbrev pub IsNoAuth : Ty → Type 0
IsNoAuth t = (inner : Ty) → t ≡ AuthTy inner → ⊥

abbrev pub IsNoSum : Ty → Type 0
IsNoSum t = (number : ℕ) → t ≡ NamedTy number → ⊥

-- A name of a pattern, behind these of it, breaks a rule: it is one of them, or it is a new one, and as many locals as there may be stand before it.
pub data BreaksName (locals : List Local) : List NameSyntax → NameSyntax → TypeKind → Place → Type 0 where
  NameTwice : {before : List NameSyntax} {name : NameSyntax} → Contains (map (λ (n : NameSyntax). n.name) before) name.name
      → BreaksName locals before name Twice name.at
  LocalTooMany : {before : List NameSyntax} {name : NameSyntax}
      → (Contains (map (λ (n : NameSyntax). n.name) before) name.name → ⊥) → most_locals ≤ length locals + length before
      → BreaksName locals before name (Limit Locals) name.at

-- one of the names of a pattern does
abbrev pub BreaksNames : List Local → List NameSyntax → TypeKind → Place → Type 0
BreaksNames locals names kind at = OneBreaks (MayBind locals) (BreaksName locals) [] names kind at

-- the type of the bodies before, where there are some
abbrev pub IsOfType : Option Ty → Ty → Type 0
IsOfType (Some t) of_type = of_type ≡ t
IsOfType None of_type = Unit {0}

mutual
  -- an expression, where these are the locals
  pub data Breaks (scope : Scope) : List Local → ExpSyntax → TypeKind → Place → Type 0 where
    -- no local has the name
    UnknownLocal : {locals : List Local} {at : Place} {name : List ℕ}
        → NoneFits (λ (l : Local). l.name ≡ name) locals → Breaks scope locals (LocalSyntax at name) UnknownName at
    InFirst : {locals : List Local} {at : Place} {first second : ExpSyntax} {kind : TypeKind} {place : Place}
        → Breaks scope locals first kind place → Breaks scope locals (PairSyntax at first second) kind place
    InSecond : {locals : List Local} {at : Place} {first second : ExpSyntax} {x : Expression} {a : Ty} {kind : TypeKind} {place : Place}
        → Elaborates scope locals first x a → Breaks scope locals second kind place → Breaks scope locals (PairSyntax at first second) kind place
    InOperand : {locals : List Local} {at : Place} {operation : UnaryOperation} {operand : ExpSyntax} {kind : TypeKind} {place : Place}
        → Breaks scope locals operand kind place → Breaks scope locals (UnarySyntax at operation operand) kind place
    -- the operand has a type that the operation doesn't take
    FirstOfNoPair : {locals : List Local} {at : Place} {operand : ExpSyntax} {x : Expression} {t : Ty}
        → Elaborates scope locals operand x t → IsNoPair t → Breaks scope locals (UnarySyntax at FstOperation operand) NotPair (place_of operand)
    SecondOfNoPair : {locals : List Local} {at : Place} {operand : ExpSyntax} {x : Expression} {t : Ty}
        → Elaborates scope locals operand x t → IsNoPair t → Breaks scope locals (UnarySyntax at SndOperation operand) NotPair (place_of operand)
    OpensNoAuth : {locals : List Local} {at : Place} {operand : ExpSyntax} {x : Expression} {t : Ty}
        → Elaborates scope locals operand x t → IsNoAuth t → Breaks scope locals (UnarySyntax at UnauthOperation operand) NotAuth (place_of operand)
    LengthOfNoText : {locals : List Local} {at : Place} {operand : ExpSyntax} {x : Expression} {t : Ty}
        → Elaborates scope locals operand x t → (t ≡ TextTy → ⊥) → Breaks scope locals (UnarySyntax at LenOperation operand) WrongType (place_of operand)
    NotOfNoBool : {locals : List Local} {at : Place} {operand : ExpSyntax} {x : Expression} {t : Ty}
        → Elaborates scope locals operand x t → (t ≡ BoolTy → ⊥) → Breaks scope locals (UnarySyntax at NotOperation operand) WrongType (place_of operand)
    InLeft : {locals : List Local} {at : Place} {operation : BinaryOperator} {first second : ExpSyntax} {t r : Ty} {made : Expression → Expression
        → Expression} {kind : TypeKind} {place : Place}
        → Operates operation t r made → Misfits scope locals t first kind place → Breaks scope locals (BinarySyntax at operation first second) kind place
    InRight : {locals : List Local} {at : Place} {operation : BinaryOperator} {first second : ExpSyntax} {x : Expression} {t r : Ty}
        {made : Expression → Expression → Expression} {kind : TypeKind} {place : Place}
        → Operates operation t r made → Elaborates scope locals first x t → Misfits scope locals t second kind place
        → Breaks scope locals (BinarySyntax at operation first second) kind place
    -- no function has the name; it takes another number of arguments
    UnknownFunction : {locals : List Local} {at : Place} {name : List ℕ} {operands : ExpsSyntax}
        → NoneFits (λ (s : Signature). s.name ≡ name) scope.functions → Breaks scope locals (CallSyntax at name operands) UnknownName at
    OtherArguments : {locals : List Local} {at : Place} {name : List ℕ} {operands : ExpsSyntax} {f : ℕ} {signature : Signature}
        → NamesFunction scope name f signature → (count_of operands ≡ length signature.parameters → ⊥)
        → Breaks scope locals (CallSyntax at name operands) WrongCount at
    InArguments : {locals : List Local} {at : Place} {name : List ℕ} {operands : ExpsSyntax} {f : ℕ} {signature : Signature} {kind : TypeKind} {place : Place}
        → NamesFunction scope name f signature → count_of operands ≡ length signature.parameters
        → OneMisfits scope locals signature.parameters operands kind place → Breaks scope locals (CallSyntax at name operands) kind place
    -- no constructor has the name; it has another number of fields
    UnknownConstructor : {locals : List Local} {at : Place} {name : List ℕ} {operands : ExpsSyntax}
        → NoneFits (λ names. Contains names name) scope.constructors → Breaks scope locals (ConstructorSyntax at name operands) UnknownName at
    OtherFields : {locals : List Local} {at : Place} {name : List ℕ} {operands : ExpsSyntax} {number tag : ℕ}
        → NamesConstructor scope name number tag → (count_of operands ≡ length (field_types scope number tag) → ⊥)
        → Breaks scope locals (ConstructorSyntax at name operands) WrongCount at
    InFields : {locals : List Local} {at : Place} {name : List ℕ} {operands : ExpsSyntax} {number tag : ℕ} {kind : TypeKind} {place : Place}
        → NamesConstructor scope name number tag → count_of operands ≡ length (field_types scope number tag)
        → OneMisfits scope locals (field_types scope number tag) operands kind place → Breaks scope locals (ConstructorSyntax at name operands) kind place
    -- an operation on arrays has another number of operands, as no text has it
    OtherOperands : {locals : List Local} {at : Place} {operation : ArrayOperation} {operands : ExpsSyntax}
        → (count_of operands ≡ suc (others_of operation) → ⊥) → Breaks scope locals (OperateSyntax at operation operands) WrongCount at
    -- the program may not have the array that a fill makes, which no text has either; the first operand is no array that it may have
    FillsNoVec : {locals : List Local} {at : Place} {operation : ArrayOperation} {operands : ExpsSyntax}
        → count_of operands ≡ suc (others_of operation) → (may_begin scope.format operation ≡ true → ⊥)
        → Breaks scope locals (OperateSyntax at operation operands) NotVec at
    InFirstOperand : {locals : List Local} {at : Place} {operation : ArrayOperation} {first : ExpSyntax} {rest : ExpsSyntax} {kind : TypeKind} {place : Place}
        → count_of rest ≡ others_of operation → may_begin scope.format operation ≡ true → Breaks scope locals first kind place
        → Breaks scope locals (OperateSyntax at operation (AndExp first rest)) kind place
    OperatesOnNoVec : {locals : List Local} {at : Place} {operation : ArrayOperation} {first : ExpSyntax} {rest : ExpsSyntax} {x : Expression} {t : Ty}
        → count_of rest ≡ others_of operation → may_begin scope.format operation ≡ true → Elaborates scope locals first x t
        → ((op : Operation) (ts : List Ty) → TakesFirst scope.format operation t op ts → ⊥)
        → Breaks scope locals (OperateSyntax at operation (AndExp first rest)) NotVec (place_of first)
    InOthers : {locals : List Local} {at : Place} {operation : ArrayOperation} {first : ExpSyntax} {rest : ExpsSyntax} {x : Expression} {t : Ty}
        {op : Operation} {ts : List Ty} {kind : TypeKind} {place : Place}
        → count_of rest ≡ others_of operation → Elaborates scope locals first x t → TakesFirst scope.format operation t op ts
        → OneMisfits scope locals ts rest kind place → Breaks scope locals (OperateSyntax at operation (AndExp first rest)) kind place
    -- as many locals as there may be stand before the one that is bound
    InBound : {locals : List Local} {at : Place} {name : NameSyntax} {bound body : ExpSyntax} {kind : TypeKind} {place : Place}
        → Breaks scope locals bound kind place → Breaks scope locals (LetSyntax at name bound body) kind place
    BindsTooMany : {locals : List Local} {at : Place} {name : NameSyntax} {bound body : ExpSyntax} {x : Expression} {a : Ty}
        → Elaborates scope locals bound x a → most_locals ≤ length locals → Breaks scope locals (LetSyntax at name bound body) (Limit Locals) name.at
    InLetBody : {locals : List Local} {at : Place} {name : NameSyntax} {bound body : ExpSyntax} {x : Expression} {a : Ty} {kind : TypeKind} {place : Place}
        → Elaborates scope locals bound x a → length locals < most_locals → Breaks scope (with_local locals name.name a) body kind place
        → Breaks scope locals (LetSyntax at name bound body) kind place
    InTest : {locals : List Local} {at : Place} {test first other : ExpSyntax} {kind : TypeKind} {place : Place}
        → Misfits scope locals BoolTy test kind place → Breaks scope locals (IfSyntax at test first other) kind place
    InThen : {locals : List Local} {at : Place} {test first other : ExpSyntax} {c : Expression} {kind : TypeKind} {place : Place}
        → Elaborates scope locals test c BoolTy → Breaks scope locals first kind place → Breaks scope locals (IfSyntax at test first other) kind place
    InElse : {locals : List Local} {at : Place} {test first other : ExpSyntax} {c x : Expression} {t : Ty} {kind : TypeKind} {place : Place}
        → Elaborates scope locals test c BoolTy → Elaborates scope locals first x t → Misfits scope locals t other kind place
        → Breaks scope locals (IfSyntax at test first other) kind place
    -- what is matched is of no named type; the arms name other constructors than the type's, or in another order
    InSubject : {locals : List Local} {at : Place} {subject : ExpSyntax} {arms : ArmsSyntax} {kind : TypeKind} {place : Place}
        → Breaks scope locals subject kind place → Breaks scope locals (MatchSyntax at subject arms) kind place
    MatchesNoSum : {locals : List Local} {at : Place} {subject : ExpSyntax} {arms : ArmsSyntax} {x : Expression} {t : Ty}
        → Elaborates scope locals subject x t → IsNoSum t → Breaks scope locals (MatchSyntax at subject arms) NotSum (place_of subject)
    OtherArms : {locals : List Local} {at : Place} {subject : ExpSyntax} {arms : ArmsSyntax} {x : Expression} {number : ℕ}
        → Elaborates scope locals subject x (NamedTy number) → (arm_names arms ≡ constructor_names scope number → ⊥)
        → Breaks scope locals (MatchSyntax at subject arms) ArmsWrong at
    InArms : {locals : List Local} {at : Place} {subject : ExpSyntax} {arms : ArmsSyntax} {x : Expression} {number : ℕ} {kind : TypeKind} {place : Place}
        → Elaborates scope locals subject x (NamedTy number) → arm_names arms ≡ constructor_names scope number
        → ArmsBreak scope locals arms None (constructor_fields scope number) kind place → Breaks scope locals (MatchSyntax at subject arms) kind place

  -- An expression of which this type is wanted: a rule is broken in it, or it has another type.
  pub data Misfits (scope : Scope) : List Local → Ty → ExpSyntax → TypeKind → Place → Type 0 where
    Inside : {locals : List Local} {t : Ty} {expression : ExpSyntax} {kind : TypeKind} {place : Place}
        → Breaks scope locals expression kind place → Misfits scope locals t expression kind place
    OtherType : {locals : List Local} {t a : Ty} {expression : ExpSyntax} {x : Expression}
        → Elaborates scope locals expression x a → (a ≡ t → ⊥) → Misfits scope locals t expression WrongType (place_of expression)

  -- one of the expressions in a row, of which these types are wanted; those before it have theirs
  pub data OneMisfits (scope : Scope) : List Local → List Ty → ExpsSyntax → TypeKind → Place → Type 0 where
    ThisMisfits : {locals : List Local} {t : Ty} {ts : List Ty} {expression : ExpSyntax} {rest : ExpsSyntax} {kind : TypeKind} {place : Place}
        → Misfits scope locals t expression kind place → OneMisfits scope locals (t ∷ ts) (AndExp expression rest) kind place
    LaterMisfits : {locals : List Local} {t : Ty} {ts : List Ty} {expression : ExpSyntax} {rest : ExpsSyntax} {x : Expression} {kind : TypeKind} {place : Place}
        → Elaborates scope locals expression x t → OneMisfits scope locals ts rest kind place
        → OneMisfits scope locals (t ∷ ts) (AndExp expression rest) kind place

  -- the body of an arm, of which the type of the bodies before it is wanted, where there are some
  pub data BodyBreaks (scope : Scope) : List Local → Option Ty → ExpSyntax → TypeKind → Place → Type 0 where
    FirstBody : {locals : List Local} {body : ExpSyntax} {kind : TypeKind} {place : Place}
        → Breaks scope locals body kind place → BodyBreaks scope locals None body kind place
    LaterBody : {locals : List Local} {t : Ty} {body : ExpSyntax} {kind : TypeKind} {place : Place}
        → Misfits scope locals t body kind place → BodyBreaks scope locals (Some t) body kind place

  -- One of the arms, for constructors with these fields: its pattern has another number of names than the constructor has fields, or a name
  -- of the pattern breaks a rule, or the body does. The arms before it have this type, where there are some.
  pub data ArmsBreak (scope : Scope) : List Local → ArmsSyntax → Option Ty → List (List Ty) → TypeKind → Place → Type 0 where
    OtherNames : {locals : List Local} {constructor : NameSyntax} {fields : List NameSyntax} {body : ExpSyntax} {rest : ArmsSyntax}
        {before : Option Ty} {ts : List Ty} {others : List (List Ty)}
        → (length fields ≡ length ts → ⊥) → ArmsBreak scope locals (AndArmSyntax constructor fields body rest) before (ts ∷ others) WrongCount constructor.at
    InPattern : {locals : List Local} {constructor : NameSyntax} {fields : List NameSyntax} {body : ExpSyntax} {rest : ArmsSyntax}
        {before : Option Ty} {ts : List Ty} {others : List (List Ty)} {kind : TypeKind} {place : Place}
        → length fields ≡ length ts → BreaksNames locals fields kind place
        → ArmsBreak scope locals (AndArmSyntax constructor fields body rest) before (ts ∷ others) kind place
    InBody : {locals : List Local} {constructor : NameSyntax} {fields : List NameSyntax} {body : ExpSyntax} {rest : ArmsSyntax} {before : Option Ty}
        {ts : List Ty} {others : List (List Ty)} {kind : TypeKind} {place : Place}
        → length fields ≡ length ts → MayBindAll locals fields → BodyBreaks scope (with_fields locals fields ts) before body kind place
        → ArmsBreak scope locals (AndArmSyntax constructor fields body rest) before (ts ∷ others) kind place
    InLaterArm : {locals : List Local} {constructor : NameSyntax} {fields : List NameSyntax} {body : ExpSyntax} {rest : ArmsSyntax}
        {before : Option Ty} {ts : List Ty} {others : List (List Ty)} {x : Expression} {t : Ty} {kind : TypeKind} {place : Place}
        → length fields ≡ length ts → MayBindAll locals fields → Elaborates scope (with_fields locals fields ts) body x t → IsOfType before t
        → ArmsBreak scope locals rest (Some t) others kind place
        → ArmsBreak scope locals (AndArmSyntax constructor fields body rest) before (ts ∷ others) kind place
