-- The fourth pass: the bodies of functions. A part's type is compared as soon as the part is checked; the fault stands at the part's first
-- token.
use Rattle.std.specs.Prelude.{ℕ, suc, ◌+◌, Bool, true, false, List, [], ◌∷◌, ◌++◌, length, map, Option, Some, None, slice_get, slice_index_or, unwrap_or, nat_eq, nat_lt, bytes_eq, if◌then◌else◌}
use Rattle.core_terms.specs.declared.term.BinaryOperator.TheVariants.{Arith, Compare, TextCompare, Cat}
use Rattle.core_terms.specs.declared.term.BinaryOperator.{BinaryOperator}
use Rattle.core_terms.specs.declared.format.Format.{Format}
use Rattle.core_terms.specs.Types.{Ty, UnitTy, BoolTy, IntTy, TextTy, PairTy, NamedTy, AuthTy, VecTy, Table, fields_at, same_type}
use Rattle.core_terms.specs.Terms.{Expression, UnitE, BoolE, IntE, TextE, LocalE, PairE, FstE, SndE, NotE, LenE, AuthE, UnauthE, ConE, ArithE, CompareE, TextCompareE, CatE, LetE, IfE, MatchE, CallE, OperateE, Operation, VecFill, VecGet, VecPut, Expressions, NoE, AndE, Arms, NoArm, AndArm}
use Rattle.core_terms.specs.Terms as tree
pub use Rattle.core_terms.specs.ProgramLimits.{most_locals}
use Rattle.lexemes.specs.declared.place.Place.{Place}
use Rattle.auth_syntax.specs.Nesting.{others_of}
use Rattle.auth_syntax.specs.Syntax.{NameSyntax, ExpSyntax, UnitSyntax, BoolSyntax, IntSyntax, TextSyntax, LocalSyntax, PairSyntax, UnarySyntax, BinarySyntax, CallSyntax, ConstructorSyntax, OperateSyntax, LetSyntax, IfSyntax, MatchSyntax, ExpsSyntax, NoExp, AndExp, ArmsSyntax, NoArmSyntax, AndArmSyntax, UnaryOperation, FstOperation, SndOperation, AuthOperation, UnauthOperation, LenOperation, NotOperation, ArrayOperation, FillOperation, GetOperation, PutOperation, FunctionSyntax, ParameterSyntax, place_of}
use Rattle.declared_types.specs.Checking.{Checking, Sound, FaultAt, then_checked, unless_fault, is_among}
use Rattle.declared_types.specs.WrittenTypes.{may_have, type_meant}
use Rattle.declared_types.specs.Signatures.{Numbered, Scope, Signature, constructor_named, function_named}
use Rattle.declared_types.specs.RoleKinds.{kind_meant}
use Rattle.declared_types.specs.declared.fault.TypeKind.TheVariants.{Twice, UnknownName, WrongType, NotPair, NotAuth, NotVec, NotSum, ArmsWrong, WrongCount, Limit}
use Rattle.declared_types.specs.declared.fault.Limited.TheVariants.{Locals}

-- a local where it may be named; a local's number is its place in the list
pub record Local : Type 0 where
  pub name : List ℕ
  pub of_type : Ty

-- an expression with its type
pub record Typed : Type 0 where
  pub expression : Expression
  pub of_type : Ty

abbrev pub typed : Expression → Ty → Checking Typed
typed e t = Sound (record { expression = e; of_type = t })

-- the part at this place has the type that is wanted
abbrev pub wanted : Place → Ty → Checking Typed → Checking Expression
wanted at t part = then_checked part (λ e. unless_fault (same_type e.of_type t) WrongType at (Sound e.expression))

-- the first of two that is there
abbrev pub or_else : Option ℕ → Option ℕ → Option ℕ
or_else (Some number) other = Some number
or_else None other = other

-- The number of the innermost local of a name, where so many stand before these. A later one hides an earlier one.
abbrev pub last_named : ℕ → List Local → List ℕ → Option ℕ
last_named n [] name = None
last_named n (local ∷ locals) name = or_else (last_named (n + 1) locals name) (if bytes_eq local.name name then Some n else None)

-- a local, where the name is one
abbrev pub local_at : Place → List Local → Option ℕ → Checking Typed
local_at at locals None = FaultAt UnknownName at
local_at at locals (Some i) = typed (LocalE i) (slice_index_or (map (λ l. l.of_type) locals) i UnitTy)

-- an operation on one operand, by the operand's type
abbrev pub first_of : Place → Expression → Ty → Checking Typed
first_of at e (PairTy a b) = typed (FstE a b e) a
first_of at e t = FaultAt NotPair at

abbrev pub second_of : Place → Expression → Ty → Checking Typed
second_of at e (PairTy a b) = typed (SndE a b e) b
second_of at e t = FaultAt NotPair at

abbrev pub opened : Place → Expression → Ty → Checking Typed
opened at e (AuthTy t) = typed (UnauthE t e) t
opened at e t = FaultAt NotAuth at

abbrev pub unary : UnaryOperation → Place → Checking Typed → Checking Typed
unary FstOperation at operand = then_checked operand (λ e. first_of at e.expression e.of_type)
unary SndOperation at operand = then_checked operand (λ e. second_of at e.expression e.of_type)
unary AuthOperation at operand = then_checked operand (λ e. typed (AuthE e.of_type e.expression) (AuthTy e.of_type))
unary UnauthOperation at operand = then_checked operand (λ e. opened at e.expression e.of_type)
unary LenOperation at operand = then_checked (wanted at TextTy operand) (λ e. typed (LenE e) IntTy)
unary NotOperation at operand = then_checked (wanted at BoolTy operand) (λ e. typed (NotE e) BoolTy)

-- an operation on two operands: their type, the type of the result, and the expression
abbrev pub operand_type : BinaryOperator → Ty
operand_type (Arith operation) = IntTy
operand_type (Compare operation) = IntTy
operand_type (TextCompare operation) = TextTy
operand_type Cat = TextTy

abbrev pub result_type : BinaryOperator → Ty
result_type (Arith operation) = IntTy
result_type (Compare operation) = BoolTy
result_type (TextCompare operation) = BoolTy
result_type Cat = TextTy

abbrev pub binary_expression : BinaryOperator → Expression → Expression → Expression
binary_expression (Arith operation) x y = ArithE operation x y
binary_expression (Compare operation) x y = CompareE operation x y
binary_expression (TextCompare operation) x y = TextCompareE operation x y
binary_expression Cat x y = CatE x y

abbrev pub binary : BinaryOperator → Place → Checking Typed → Place → Checking Typed → Checking Typed
binary operation at first place second =
    then_checked (wanted at (operand_type operation) first) (λ x.
    then_checked (wanted place (operand_type operation) second) (λ y.
    typed (binary_expression operation x y) (result_type operation)))

-- a pair
abbrev pub pair : Checking Typed → Checking Typed → Checking Typed
pair first second = then_checked first (λ x. then_checked second (λ y. typed (PairE x.of_type y.of_type x.expression y.expression) (PairTy x.of_type y.of_type)))

-- how many there are
abbrev pub count_of : ExpsSyntax → ℕ
count_of NoExp = 0
count_of (AndExp e rest) = suc (count_of rest)

-- the constructors that the arms name
abbrev pub arm_names : ArmsSyntax → List (List ℕ)
arm_names NoArmSyntax = []
arm_names (AndArmSyntax constructor fields body rest) = constructor.name ∷ arm_names rest

-- two lists of names are the same
abbrev pub same_names : List (List ℕ) → List (List ℕ) → Bool
same_names [] [] = true
same_names (a ∷ names) (b ∷ others) = if bytes_eq a b then same_names names others else false
same_names _ _ = false

-- the names that a pattern binds, of these types, behind the locals: they differ, and there are not too many locals
abbrev pub bound_names : List (List ℕ) → List Local → List NameSyntax → List Ty → Checking (List Local)
bound_names before locals (name ∷ names) (t ∷ ts) =
    if is_among name.name before then FaultAt Twice name.at else
    unless_fault (nat_lt (length locals) most_locals) (Limit Locals) name.at
    (bound_names (name.name ∷ before) (locals ++ record { name = name.name; of_type = t } ∷ []) names ts)
bound_names before locals names ts = Sound locals

-- the arms of a match, and the type of their bodies
pub record TypedArms : Type 0 where
  pub arms : Arms
  pub of_type : Ty

-- the body of an arm has the type of the first one
abbrev pub wanted_arm : Option Ty → Place → Checking Typed → Checking Typed
wanted_arm None at body = body
wanted_arm (Some t) at body = then_checked (wanted at t body) (λ e. typed e t)

-- expressions as the arguments of a function, and as the fields of a constructor, where there are as many as there should be
abbrev pub called : Place → ℕ → Option (Numbered Signature) → (List Ty → Checking Expressions) → Checking Typed
called at count None arguments = FaultAt UnknownName at
called at count (Some f) arguments =
    unless_fault (nat_eq count (length f.value.parameters)) WrongCount at
    (then_checked (arguments f.value.parameters) (λ es. typed (CallE f.number es) f.value.result))

abbrev pub constructed : Place → ℕ → Table → Option (Numbered ℕ) → (List Ty → Checking Expressions) → Checking Typed
constructed at count table None fields = FaultAt UnknownName at
constructed at count table (Some c) fields =
    let types = unwrap_or (fields_at table c.number c.value) [] in
    unless_fault (nat_eq count (length types)) WrongCount at
    (then_checked (fields types) (λ es. typed (ConE c.number c.value es) (NamedTy c.number)))

-- an operation on arrays, with the types of its operands behind the first
pub record Taken : Type 0 where
  pub operation : Operation
  pub others : List Ty

abbrev pub taken : Operation → List Ty → Checking Taken
taken operation others = Sound (record { operation = operation; others = others })

-- the program may have the array that a fill makes
abbrev pub may_begin : Format → ArrayOperation → Bool
may_begin format (FillOperation n) = may_have format n
may_begin format operation = true

-- what is made of an array that the program may have, which stands at this place
abbrev pub array_at : Format → Place → Ty → (ℕ → Ty → Checking Taken) → Checking Taken
array_at format at (VecTy n t) make = unless_fault (may_have format n) NotVec at (make n t)
array_at format at t make = FaultAt NotVec at

-- the operation, by the type of its first operand, which stands at this place
abbrev pub taken_by : Format → ArrayOperation → Place → Ty → Checking Taken
taken_by format (FillOperation n) at t = taken (VecFill n t) []
taken_by format GetOperation at t = array_at format at t (λ n item. taken (VecGet n item) (IntTy ∷ []))
taken_by format PutOperation at t = array_at format at t (λ n item. taken (VecPut n item) (IntTy ∷ item ∷ []))

-- behind the first operand, which stands at this place: the others, and the whole
abbrev pub operated_on : Format → ArrayOperation → Place → (List Ty → Checking Expressions) → Typed → Checking Typed
operated_on format operation at others x =
    then_checked (taken_by format operation at x.of_type) (λ taken.
    then_checked (others taken.others) (λ xs.
    typed (OperateE taken.operation (AndE x.expression xs)) (tree.result_type taken.operation)))

-- an operation on arrays at this place, with so many operands behind the first, which stands at that one
abbrev pub operated : Format → Place → ArrayOperation → ℕ → Place → Checking Typed → (List Ty → Checking Expressions) → Checking Typed
operated format at operation count place first others =
    unless_fault (nat_eq count (others_of operation)) WrongCount at
    (unless_fault (may_begin format operation) NotVec at
    (then_checked first (operated_on format operation place others)))

-- what is matched, by its type: a named type whose constructors are those of the arms, in order
abbrev pub matched : Scope → Place → Place → Expression → Ty → List (List ℕ) → (List (List Ty) → Checking TypedArms) → Checking Typed
matched scope at subject e (NamedTy number) names arms =
    unless_fault (same_names names (unwrap_or (slice_get scope.constructors number) [])) ArmsWrong at
    (then_checked (arms (unwrap_or (slice_get scope.table number) [])) (λ typed_arms. typed (MatchE number e typed_arms.arms) typed_arms.of_type))
matched scope at subject e t names arms = FaultAt NotSum subject

module _ (scope : Scope) where
  abbrev mutual
    -- an expression, where these are the locals: what it is, with its type
    pub elaborated : List Local → ExpSyntax → Checking Typed
    elaborated locals (UnitSyntax at) = typed UnitE UnitTy
    elaborated locals (BoolSyntax at b) = typed (BoolE b) BoolTy
    elaborated locals (IntSyntax at z) = typed (IntE z) IntTy
    elaborated locals (TextSyntax at bytes) = typed (TextE bytes) TextTy
    elaborated locals (LocalSyntax at name) = local_at at locals (last_named 0 locals name)
    elaborated locals (PairSyntax at first second) = pair (elaborated locals first) (elaborated locals second)
    elaborated locals (UnarySyntax at operation operand) = unary operation (place_of operand) (elaborated locals operand)
    elaborated locals (BinarySyntax at operation first second) =
        binary operation (place_of first) (elaborated locals first) (place_of second) (elaborated locals second)
    elaborated locals (CallSyntax at name operands) =
        called at (count_of operands) (function_named 0 scope.functions name) (elaborated_each locals operands)
    elaborated locals (ConstructorSyntax at name operands) =
        constructed at (count_of operands) scope.table (constructor_named 0 scope.constructors name) (elaborated_each locals operands)
    elaborated locals (OperateSyntax at operation NoExp) = FaultAt WrongCount at
    elaborated locals (OperateSyntax at operation (AndExp first rest)) =
        operated scope.format at operation (count_of rest) (place_of first) (elaborated locals first) (elaborated_each locals rest)
    elaborated locals (LetSyntax at name bound body) =
        then_checked (elaborated locals bound) (λ e.
        unless_fault (nat_lt (length locals) most_locals) (Limit Locals) name.at
        (then_checked (elaborated (locals ++ record { name = name.name; of_type = e.of_type } ∷ []) body) (λ b.
        typed (LetE e.of_type e.expression b.expression) b.of_type)))
    elaborated locals (IfSyntax at test first other) =
        then_checked (wanted (place_of test) BoolTy (elaborated locals test)) (λ condition.
        then_checked (elaborated locals first) (λ x.
        then_checked (wanted (place_of other) x.of_type (elaborated locals other)) (λ y.
        typed (IfE condition x.expression y) x.of_type)))
    elaborated locals (MatchSyntax at subject arms) =
        then_checked (elaborated locals subject) (λ e.
        matched scope at (place_of subject) e.expression e.of_type (arm_names arms) (elaborated_arms locals arms None))

    -- expressions in a row, of these types
    pub elaborated_each : List Local → ExpsSyntax → List Ty → Checking Expressions
    elaborated_each locals (AndExp e rest) (t ∷ ts) =
        then_checked (wanted (place_of e) t (elaborated locals e)) (λ x.
        then_checked (elaborated_each locals rest ts) (λ xs. Sound (AndE x xs)))
    elaborated_each locals es ts = Sound NoE

    -- arms, whose patterns have fields of these types; behind the first the type of its body is wanted
    pub elaborated_arms : List Local → ArmsSyntax → Option Ty → List (List Ty) → Checking TypedArms
    elaborated_arms locals (AndArmSyntax constructor fields body rest) want (ts ∷ others) =
        unless_fault (nat_eq (length fields) (length ts)) WrongCount constructor.at
        (then_checked (bound_names [] locals fields ts) (λ inner.
        then_checked (wanted_arm want (place_of body) (elaborated inner body)) (λ e.
        then_checked (elaborated_arms locals rest (Some e.of_type) others) (λ typed_arms.
        Sound (record { arms = AndArm e.expression typed_arms.arms; of_type = typed_arms.of_type })))))
    elaborated_arms locals arms want others = Sound (record { arms = NoArm; of_type = unwrap_or want UnitTy })

-- the parameters of a function, as its first locals
abbrev pub parameter_locals : Format → List (List ℕ) → List ParameterSyntax → List Local
parameter_locals format names parameters = map (λ p. record { name = p.name.name; of_type = type_meant format names p.of_type }) parameters

-- a function, whose body has the type of its result
abbrev pub checked_function : List (List ℕ) → Scope → FunctionSyntax → Checking tree.Function
checked_function names scope function =
    then_checked (wanted (place_of function.body) (type_meant scope.format names function.result_type)
    (elaborated scope (parameter_locals scope.format names function.parameters) function.body)) (λ body.
    Sound (record {
      name = function.name.name;
      kind = kind_meant function.kind;
      parameters = map (λ p. type_meant scope.format names p.of_type) function.parameters;
      result = type_meant scope.format names function.result_type;
      body = body;
    }))

-- the fourth pass: all functions, in order
abbrev pub checked_functions : List (List ℕ) → Scope → List FunctionSyntax → Checking (List tree.Function)
checked_functions names scope [] = Sound []
checked_functions names scope (function ∷ rest) =
    then_checked (checked_function names scope function) (λ f.
    then_checked (checked_functions names scope rest) (λ fs. Sound (f ∷ fs)))
