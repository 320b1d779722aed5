-- The typing rules of the language, one for each form of an expression: what an expression of the tree stands for, and its type.
use Rattle.std.specs.Prelude.{◌≡◌, ℕ, ◌+◌, ◌<◌, ℤ, Bool, true, List, [], ◌∷◌, ◌++◌, length, map, slice_get, unwrap_or}
use Rattle.std.specs.List.{Contains}
use Rattle.core_terms.specs.declared.term.Arith.{Arith as ArithOperator}
use Rattle.core_terms.specs.declared.term.Compare.{Compare as CompareOperator}
use Rattle.core_terms.specs.declared.term.TextCompare.{TextCompare as TextCompareOperator}
use Rattle.core_terms.specs.declared.term.BinaryOperator.TheVariants.{Arith, Compare, TextCompare, Cat}
use Rattle.core_terms.specs.declared.term.BinaryOperator.{BinaryOperator}
use Rattle.core_terms.specs.declared.format.Format.{Format}
use Rattle.core_terms.specs.Types.{Ty, UnitTy, BoolTy, IntTy, TextTy, PairTy, NamedTy, AuthTy, VecTy, fields_at}
use Rattle.core_terms.specs.Terms.{Expression, UnitE, BoolE, IntE, TextE, LocalE, PairE, FstE, SndE, NotE, LenE, AuthE, UnauthE, ConE, ArithE, CompareE, TextCompareE, CatE, LetE, IfE, MatchE, CallE, OperateE, Operation, VecFill, VecGet, VecPut, Expressions, NoE, AndE, Arms, NoArm, AndArm}
use Rattle.core_terms.specs.Terms as tree
use Rattle.lexemes.specs.declared.place.Place.{Place}
use Rattle.auth_syntax.specs.Syntax.{NameSyntax, ExpSyntax, UnitSyntax, BoolSyntax, IntSyntax, TextSyntax, LocalSyntax, PairSyntax, UnarySyntax, BinarySyntax, CallSyntax, ConstructorSyntax, OperateSyntax, LetSyntax, IfSyntax, MatchSyntax, ExpsSyntax, NoExp, AndExp, ArmsSyntax, NoArmSyntax, AndArmSyntax, FstOperation, SndOperation, AuthOperation, UnauthOperation, LenOperation, NotOperation, ArrayOperation, FillOperation, GetOperation, PutOperation}
use Rattle.auth_types.specs.Bodies.{Local, arm_names, most_locals}
use Rattle.declared_types.specs.Signatures.{Scope, Signature}
use Rattle.declared_types.specs.WrittenTypes.{may_have}
use Rattle.auth_types.specs.InOrder.{IsFirst, IsLast, EachMeets}

-- The operations on two operands: the type of both operands, that of the result, and what is made of the two.
pub data Operates : BinaryOperator → (operand result : Ty) → (Expression → Expression → Expression) → Type 0 where
  Computes : (operator : ArithOperator) → Operates (Arith operator) IntTy IntTy (λ x y. ArithE operator x y)
  Compares : (operator : CompareOperator) → Operates (Compare operator) IntTy BoolTy (λ x y. CompareE operator x y)
  ComparesTexts : (operator : TextCompareOperator) → Operates (TextCompare operator) TextTy BoolTy (λ x y. TextCompareE operator x y)
  Joins : Operates Cat TextTy TextTy (λ x y. CatE x y)

-- The operations on arrays that a program of the format may have: by the type of the first operand the operation, and the types of the others.
pub data TakesFirst (format : Format) : ArrayOperation → (first : Ty) → Operation → (others : List Ty) → Type 0 where
  Fills : {n : ℕ} {t : Ty} → may_have format n ≡ true → TakesFirst format (FillOperation n) t (VecFill n t) []
  Gets : {n : ℕ} {t : Ty} → may_have format n ≡ true → TakesFirst format GetOperation (VecTy n t) (VecGet n t) (IntTy ∷ [])
  Puts : {n : ℕ} {t : Ty} → may_have format n ≡ true → TakesFirst format PutOperation (VecTy n t) (VecPut n t) (IntTy ∷ t ∷ [])

-- the local that a name names: the innermost, which is the last one
abbrev pub NamesLocal : List Local → List ℕ → ℕ → Local → Type 0
NamesLocal locals name i local = IsLast (λ (l : Local). l.name ≡ name) locals i local

-- the function that a name names, with its number
abbrev pub NamesFunction : Scope → List ℕ → ℕ → Signature → Type 0
NamesFunction scope name f signature = IsFirst (λ (s : Signature). s.name ≡ name) scope.functions f signature

-- the constructor that a name names: the number of its type, and its tag there
pub record NamesConstructor (scope : Scope) (name : List ℕ) (number tag : ℕ) : Type 0 where
  pub siblings : List (List ℕ)
  pub of_type : IsFirst (λ names. Contains names name) scope.constructors number siblings
  pub tagged : IsFirst (λ other. other ≡ name) siblings tag name

-- the constructors of a named type, by name and by the types of their fields; and those of one constructor
abbrev pub constructor_names : Scope → ℕ → List (List ℕ)
constructor_names scope number = unwrap_or (slice_get scope.constructors number) []

abbrev pub constructor_fields : Scope → ℕ → List (List Ty)
constructor_fields scope number = unwrap_or (slice_get scope.table number) []

abbrev pub field_types : Scope → ℕ → ℕ → List Ty
field_types scope number tag = unwrap_or (fields_at scope.table number tag) []

-- locals with one more, and with those that a pattern binds to fields of these types
abbrev pub with_local : List Local → List ℕ → Ty → List Local
with_local locals name t = locals ++ record { name = name; of_type = t } ∷ []

abbrev pub with_fields : List Local → List NameSyntax → List Ty → List Local
with_fields locals (name ∷ names) (t ∷ ts) = with_fields (with_local locals name.name t) names ts
with_fields locals names ts = locals

-- A name of a pattern, behind these of it: it is none of them, and there is room for one more local.
pub record MayBind (locals : List Local) (before : List NameSyntax) (name : NameSyntax) : Type 0 where
  pub is_new : Contains (map (λ (n : NameSyntax). n.name) before) name.name → ⊥
  pub has_room : length locals + length before < most_locals

-- all names of a pattern
abbrev pub MayBindAll : List Local → List NameSyntax → Type 0
MayBindAll locals names = EachMeets (MayBind locals) [] names

-- A match without arms, which no text has, gives a unit; else its type is that of the arms.
abbrev pub IsTypeOf : ArmsSyntax → Ty → Type 0
IsTypeOf NoArmSyntax t = UnitTy ≡ t
IsTypeOf (AndArmSyntax constructor fields body rest) t = Unit {0}

mutual
  -- an expression, where these are the locals: what it stands for, and its type
  pub data Elaborates (scope : Scope) : List Local → ExpSyntax → Expression → Ty → Type 0 where
    UnitRule : {locals : List Local} {at : Place} → Elaborates scope locals (UnitSyntax at) UnitE UnitTy
    BoolRule : {locals : List Local} {at : Place} {b : Bool} → Elaborates scope locals (BoolSyntax at b) (BoolE b) BoolTy
    IntRule : {locals : List Local} {at : Place} {z : ℤ} → Elaborates scope locals (IntSyntax at z) (IntE z) IntTy
    TextRule : {locals : List Local} {at : Place} {bytes : List ℕ} → Elaborates scope locals (TextSyntax at bytes) (TextE bytes) TextTy
    LocalRule : {locals : List Local} {at : Place} {name : List ℕ} {i : ℕ} {local : Local}
        → NamesLocal locals name i local → Elaborates scope locals (LocalSyntax at name) (LocalE i) local.of_type
    PairRule : {locals : List Local} {at : Place} {first second : ExpSyntax} {x y : Expression} {a b : Ty}
        → Elaborates scope locals first x a → Elaborates scope locals second y b
        → Elaborates scope locals (PairSyntax at first second) (PairE a b x y) (PairTy a b)
    FstRule : {locals : List Local} {at : Place} {operand : ExpSyntax} {x : Expression} {a b : Ty}
        → Elaborates scope locals operand x (PairTy a b) → Elaborates scope locals (UnarySyntax at FstOperation operand) (FstE a b x) a
    SndRule : {locals : List Local} {at : Place} {operand : ExpSyntax} {x : Expression} {a b : Ty}
        → Elaborates scope locals operand x (PairTy a b) → Elaborates scope locals (UnarySyntax at SndOperation operand) (SndE a b x) b
    AuthRule : {locals : List Local} {at : Place} {operand : ExpSyntax} {x : Expression} {t : Ty}
        → Elaborates scope locals operand x t → Elaborates scope locals (UnarySyntax at AuthOperation operand) (AuthE t x) (AuthTy t)
    UnauthRule : {locals : List Local} {at : Place} {operand : ExpSyntax} {x : Expression} {t : Ty}
        → Elaborates scope locals operand x (AuthTy t) → Elaborates scope locals (UnarySyntax at UnauthOperation operand) (UnauthE t x) t
    LenRule : {locals : List Local} {at : Place} {operand : ExpSyntax} {x : Expression}
        → Elaborates scope locals operand x TextTy → Elaborates scope locals (UnarySyntax at LenOperation operand) (LenE x) IntTy
    NotRule : {locals : List Local} {at : Place} {operand : ExpSyntax} {x : Expression}
        → Elaborates scope locals operand x BoolTy → Elaborates scope locals (UnarySyntax at NotOperation operand) (NotE x) BoolTy
    BinaryRule : {locals : List Local} {at : Place} {operation : BinaryOperator} {first second : ExpSyntax} {x y : Expression} {t r : Ty}
        {made : Expression → Expression → Expression}
        → Operates operation t r made → Elaborates scope locals first x t → Elaborates scope locals second y t
        → Elaborates scope locals (BinarySyntax at operation first second) (made x y) r
    CallRule : {locals : List Local} {at : Place} {name : List ℕ} {operands : ExpsSyntax} {xs : Expressions} {f : ℕ} {signature : Signature}
        → NamesFunction scope name f signature → ElaborateEach scope locals operands xs signature.parameters
        → Elaborates scope locals (CallSyntax at name operands) (CallE f xs) signature.result
    ConstructorRule : {locals : List Local} {at : Place} {name : List ℕ} {operands : ExpsSyntax} {xs : Expressions} {number tag : ℕ}
        → NamesConstructor scope name number tag → ElaborateEach scope locals operands xs (field_types scope number tag)
        → Elaborates scope locals (ConstructorSyntax at name operands) (ConE number tag xs) (NamedTy number)
    OperateRule : {locals : List Local} {at : Place} {operation : ArrayOperation} {first : ExpSyntax} {rest : ExpsSyntax} {x : Expression} {xs : Expressions}
        {t : Ty} {op : Operation} {ts : List Ty}
        → Elaborates scope locals first x t → TakesFirst scope.format operation t op ts → ElaborateEach scope locals rest xs ts
        → Elaborates scope locals (OperateSyntax at operation (AndExp first rest)) (OperateE op (AndE x xs)) (tree.result_type op)
    LetRule : {locals : List Local} {at : Place} {name : NameSyntax} {bound body : ExpSyntax} {x y : Expression} {a b : Ty}
        → Elaborates scope locals bound x a → length locals < most_locals → Elaborates scope (with_local locals name.name a) body y b
        → Elaborates scope locals (LetSyntax at name bound body) (LetE a x y) b
    IfRule : {locals : List Local} {at : Place} {test first other : ExpSyntax} {c x y : Expression} {t : Ty}
        → Elaborates scope locals test c BoolTy → Elaborates scope locals first x t → Elaborates scope locals other y t
        → Elaborates scope locals (IfSyntax at test first other) (IfE c x y) t
    MatchRule : {locals : List Local} {at : Place} {subject : ExpSyntax} {arms : ArmsSyntax} {x : Expression} {bodies : Arms} {number : ℕ} {t : Ty}
        → Elaborates scope locals subject x (NamedTy number) → arm_names arms ≡ constructor_names scope number
        → ElaborateArms scope locals arms (constructor_fields scope number) bodies t → IsTypeOf arms t
        → Elaborates scope locals (MatchSyntax at subject arms) (MatchE number x bodies) t

  -- expressions in a row, as many as these types, each of its type
  pub data ElaborateEach (scope : Scope) : List Local → ExpsSyntax → Expressions → List Ty → Type 0 where
    NoRule : {locals : List Local} → ElaborateEach scope locals NoExp NoE []
    AndRule : {locals : List Local} {expression : ExpSyntax} {rest : ExpsSyntax} {x : Expression} {xs : Expressions} {t : Ty} {ts : List Ty}
        → Elaborates scope locals expression x t → ElaborateEach scope locals rest xs ts
        → ElaborateEach scope locals (AndExp expression rest) (AndE x xs) (t ∷ ts)

  -- arms, as many as these constructors with fields, all of one type: a pattern has as many names as the constructor has fields
  pub data ElaborateArms (scope : Scope) : List Local → ArmsSyntax → List (List Ty) → Arms → Ty → Type 0 where
    NoArmRule : {locals : List Local} {t : Ty} → ElaborateArms scope locals NoArmSyntax [] NoArm t
    AndArmRule : {locals : List Local} {constructor : NameSyntax} {fields : List NameSyntax} {body : ExpSyntax} {rest : ArmsSyntax} {ts : List Ty}
        {others : List (List Ty)} {x : Expression} {bodies : Arms} {t : Ty}
        → length fields ≡ length ts → MayBindAll locals fields → Elaborates scope (with_fields locals fields ts) body x t
        → ElaborateArms scope locals rest others bodies t
        → ElaborateArms scope locals (AndArmSyntax constructor fields body rest) (ts ∷ others) (AndArm x bodies) t
