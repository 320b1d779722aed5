-- The code of expressions, and of programs.
use Rattle.std.specs.Prelude.{ℕ, zero, suc, ◌+◌, List, [], ◌∷◌, ◌++◌, length, map, unwrap_or, slice_get, Option, Some, None}
use Rattle.core_terms.specs.Types.{Ty, Table}
use Rattle.core_terms.specs.Terms.{Expression, UnitE, BoolE, IntE, TextE, LocalE, PairE, FstE, SndE, NotE, LenE, AuthE, UnauthE, ConE, ArithE, CompareE, TextCompareE, CatE, LetE, IfE, MatchE, CallE, OperateE, Operation, Expressions, NoE, AndE, Arms, NoArm, AndArm, Function, Program, coded}
use Rattle.core_terms.specs.Instructions.{Instruction, PushUnit, PushBool, PushInt, PushText, Load, Bind, Unbind, Pair, Fst, Snd, Make, Switch, Branch, Jump, Call, Return, Auth, Unauth, ArithOp, CompareOp, TextCompareOp, Cat, Len, Not, VecFill, VecGet, VecPut}
use Rattle.core_terms.specs.Terms as tree
pub use Rattle.core_terms.specs.Bodies.{FunctionCode, Body, no_function_code, code_at, field_count}

-- A choice between two sides: where the test is false, the first side and the jump behind it are passed over; that jump passes
-- over the other side.
abbrev pub if_code : List Instruction → List Instruction → List Instruction → List Instruction
if_code test first other = test ++ (Branch (length first + 1) ∷ (first ++ (Jump (length other) ∷ other)))

-- drops the fields of an arm, where it has any
abbrev pub unbind_code : ℕ → List Instruction
unbind_code zero = []
unbind_code (suc n) = Unbind (suc n) ∷ []

-- the jump that begins this many instructions, past the others; none where there are none
abbrev pub jump_code : ℕ → List Instruction
jump_code zero = []
jump_code (suc n) = Jump n ∷ []

-- what stands behind an arm: where there are later arms, a jump past them, and they
abbrev pub behind : List (List Instruction) → List Instruction → List Instruction
behind [] rest = rest
behind (arm ∷ later) rest = Jump (length rest) ∷ rest

-- the arms, one behind the other
abbrev pub laid : List (List Instruction) → List Instruction
laid [] = []
laid (arm ∷ later) = arm ++ behind later (laid later)

-- where each of the arms begins, the first one at `start`: an arm and the jump behind it stand before the next one
abbrev pub places : ℕ → List (List Instruction) → List ℕ
places start [] = []
places start (arm ∷ later) = start ∷ places (start + length arm + 1) later

-- a match behind its subject
abbrev pub match_code : ℕ → List (List Instruction) → List Instruction
match_code number arms = Switch number (places 0 arms) ∷ laid arms

-- the instruction of an operation
abbrev pub operation_code : Operation → Instruction
operation_code (tree.VecFill n t) = VecFill n
operation_code (tree.VecGet n t) = VecGet
operation_code (tree.VecPut n t) = VecPut

module _ (types : Table) where
  abbrev mutual
    -- the operands from left to right, then the instruction
    pub code_of : Expression → List Instruction
    code_of UnitE = PushUnit ∷ []
    code_of (BoolE b) = PushBool b ∷ []
    code_of (IntE z) = PushInt z ∷ []
    code_of (TextE bytes) = PushText bytes ∷ []
    code_of (LocalE i) = Load i ∷ []
    code_of (PairE a b x y) = code_of x ++ (code_of y ++ Pair ∷ [])
    code_of (FstE a b x) = code_of x ++ Fst ∷ []
    code_of (SndE a b x) = code_of x ++ Snd ∷ []
    code_of (NotE x) = code_of x ++ Not ∷ []
    code_of (LenE x) = code_of x ++ Len ∷ []
    code_of (AuthE t x) = code_of x ++ Auth t ∷ []
    code_of (UnauthE t x) = code_of x ++ Unauth t ∷ []
    code_of (ConE number tag xs) = code_all xs ++ Make number tag ∷ []
    code_of (ArithE op x y) = code_of x ++ (code_of y ++ ArithOp op ∷ [])
    code_of (CompareE op x y) = code_of x ++ (code_of y ++ CompareOp op ∷ [])
    code_of (TextCompareE op x y) = code_of x ++ (code_of y ++ TextCompareOp op ∷ [])
    code_of (CatE x y) = code_of x ++ (code_of y ++ Cat ∷ [])
    code_of (LetE a x body) = code_of x ++ (Bind ∷ (code_of body ++ Unbind 1 ∷ []))
    code_of (IfE test first other) = if_code (code_of test) (code_of first) (code_of other)
    code_of (MatchE number x arms) = code_of x ++ match_code number (arm_codes arms (unwrap_or (slice_get types number) []))
    code_of (CallE f args) = code_all args ++ Call f ∷ []
    code_of (OperateE op xs) = code_all xs ++ operation_code op ∷ []

    pub code_all : Expressions → List Instruction
    code_all NoE = []
    code_all (AndE x xs) = code_of x ++ code_all xs

    -- the arms, by the field types of their constructors: the body, and behind it the end of its fields
    pub arm_codes : Arms → List (List Ty) → List (List Instruction)
    arm_codes NoArm cs = []
    arm_codes (AndArm body arms) [] = code_of body ∷ arm_codes arms []
    arm_codes (AndArm body arms) (c ∷ cs) = (code_of body ++ unbind_code (length c)) ∷ arm_codes arms cs

-- a function's body, and the return
abbrev pub function_code : Table → Function → FunctionCode
function_code types f = record { parameters = f.parameters; result = f.result; code = code_of types f.body ++ Return ∷ [] }

-- the code of a program that is written
abbrev pub written_body : Program → Body
written_body P = record { limit = P.format.limit; types = P.types; functions = map (function_code P.types) P.functions }

-- the code of a program's functions: its own, where it is compiled
abbrev pub codes_as : Program → Option (List (List Instruction)) → List FunctionCode
codes_as P None = map (function_code P.types) P.functions
codes_as P (Some codes) = coded P.functions codes

-- the code of a program
abbrev pub generated : Program → Body
generated P = record { limit = P.format.limit; types = P.types; functions = codes_as P P.code }
