-- How great a program is, and that it is within the limits.
use Rattle.core_terms.specs.Instructions.{Instruction}
use Rattle.std.specs.Prelude.{◌≡◌, Option, None, ℕ, suc, ◌+◌, ◌≤◌, max, List, [], ◌∷◌, length, slice_get, unwrap_or, All}
use Rattle.core_terms.specs.Types.{Ty, PairTy, AuthTy, VecTy, Table}
use Rattle.core_terms.specs.Terms.{Expression, PairE, FstE, SndE, NotE, LenE, AuthE, UnauthE, ConE, ArithE, CompareE, TextCompareE, CatE, LetE, IfE, MatchE, CallE, OperateE, Expressions, NoE, AndE, Arms, NoArm, AndArm, Function, Program}
use Rattle.core_terms.specs.Names.{IsName}
use Rattle.core_terms.specs.ProgramLimits.{most_constructors, most_expressions, most_fields, most_functions, most_instructions, most_levels, most_locals, most_parameters, most_types}

-- the levels of a type: 1, and 1 more than those of a part
abbrev pub levels_of_type : Ty → ℕ
levels_of_type (PairTy a b) = suc (max (levels_of_type a) (levels_of_type b))
levels_of_type (AuthTy t) = suc (levels_of_type t)
levels_of_type (VecTy n t) = suc (levels_of_type t)
levels_of_type t = 1

abbrev mutual
  -- how many expressions an expression consists of: itself, and those inside it
  pub expressions_in : Expression → ℕ
  expressions_in (PairE a b x y) = suc (expressions_in x + expressions_in y)
  expressions_in (FstE a b x) = suc (expressions_in x)
  expressions_in (SndE a b x) = suc (expressions_in x)
  expressions_in (NotE x) = suc (expressions_in x)
  expressions_in (LenE x) = suc (expressions_in x)
  expressions_in (AuthE t x) = suc (expressions_in x)
  expressions_in (UnauthE t x) = suc (expressions_in x)
  expressions_in (ConE number tag xs) = suc (expressions_in_row xs)
  expressions_in (ArithE op x y) = suc (expressions_in x + expressions_in y)
  expressions_in (CompareE op x y) = suc (expressions_in x + expressions_in y)
  expressions_in (TextCompareE op x y) = suc (expressions_in x + expressions_in y)
  expressions_in (CatE x y) = suc (expressions_in x + expressions_in y)
  expressions_in (LetE a x body) = suc (expressions_in x + expressions_in body)
  expressions_in (IfE test first other) = suc (expressions_in test + expressions_in first + expressions_in other)
  expressions_in (MatchE number x arms) = suc (expressions_in x + expressions_in_arms arms)
  expressions_in (CallE f args) = suc (expressions_in_row args)
  expressions_in (OperateE op xs) = suc (expressions_in_row xs)
  expressions_in e = 1

  pub expressions_in_row : Expressions → ℕ
  expressions_in_row NoE = 0
  expressions_in_row (AndE x rest) = expressions_in x + expressions_in_row rest

  pub expressions_in_arms : Arms → ℕ
  expressions_in_arms NoArm = 0
  expressions_in_arms (AndArm body rest) = expressions_in body + expressions_in_arms rest

abbrev mutual
  -- the levels of an expression: 1, and 1 more than the greatest number of levels of a part
  pub levels_of : Expression → ℕ
  levels_of (PairE a b x y) = suc (max (levels_of x) (levels_of y))
  levels_of (FstE a b x) = suc (levels_of x)
  levels_of (SndE a b x) = suc (levels_of x)
  levels_of (NotE x) = suc (levels_of x)
  levels_of (LenE x) = suc (levels_of x)
  levels_of (AuthE t x) = suc (levels_of x)
  levels_of (UnauthE t x) = suc (levels_of x)
  levels_of (ConE number tag xs) = suc (levels_of_row xs)
  levels_of (ArithE op x y) = suc (max (levels_of x) (levels_of y))
  levels_of (CompareE op x y) = suc (max (levels_of x) (levels_of y))
  levels_of (TextCompareE op x y) = suc (max (levels_of x) (levels_of y))
  levels_of (CatE x y) = suc (max (levels_of x) (levels_of y))
  levels_of (LetE a x body) = suc (max (levels_of x) (levels_of body))
  levels_of (IfE test first other) = suc (max (levels_of test) (max (levels_of first) (levels_of other)))
  levels_of (MatchE number x arms) = suc (max (levels_of x) (levels_of_arms arms))
  levels_of (CallE f args) = suc (levels_of_row args)
  levels_of (OperateE op xs) = suc (levels_of_row xs)
  levels_of e = 1

  pub levels_of_row : Expressions → ℕ
  levels_of_row NoE = 0
  levels_of_row (AndE x rest) = max (levels_of x) (levels_of_row rest)

  pub levels_of_arms : Arms → ℕ
  levels_of_arms NoArm = 0
  levels_of_arms (AndArm body rest) = max (levels_of body) (levels_of_arms rest)

module _ (types : Table) where
  abbrev mutual
    -- The greatest number of locals at a place in an expression, where it stands at a place with so many: a `let` binds one more in
    -- its body, and an arm as many as its constructor has fields.
    pub locals_in : ℕ → Expression → ℕ
    locals_in n (PairE a b x y) = max (locals_in n x) (locals_in n y)
    locals_in n (FstE a b x) = locals_in n x
    locals_in n (SndE a b x) = locals_in n x
    locals_in n (NotE x) = locals_in n x
    locals_in n (LenE x) = locals_in n x
    locals_in n (AuthE t x) = locals_in n x
    locals_in n (UnauthE t x) = locals_in n x
    locals_in n (ConE number tag xs) = locals_in_row n xs
    locals_in n (ArithE op x y) = max (locals_in n x) (locals_in n y)
    locals_in n (CompareE op x y) = max (locals_in n x) (locals_in n y)
    locals_in n (TextCompareE op x y) = max (locals_in n x) (locals_in n y)
    locals_in n (CatE x y) = max (locals_in n x) (locals_in n y)
    locals_in n (LetE a x body) = max (locals_in n x) (locals_in (suc n) body)
    locals_in n (IfE test first other) = max (locals_in n test) (max (locals_in n first) (locals_in n other))
    locals_in n (MatchE number x arms) = max (locals_in n x) (locals_in_arms n (unwrap_or (slice_get types number) []) arms)
    locals_in n (CallE f args) = locals_in_row n args
    locals_in n (OperateE op xs) = locals_in_row n xs
    locals_in n e = n

    pub locals_in_row : ℕ → Expressions → ℕ
    locals_in_row n NoE = n
    locals_in_row n (AndE x rest) = max (locals_in n x) (locals_in_row n rest)

    pub locals_in_arms : ℕ → List (List Ty) → Arms → ℕ
    locals_in_arms n (ts ∷ others) (AndArm body rest) = max (locals_in (n + length ts) body) (locals_in_arms n others rest)
    locals_in_arms n others arms = n

-- how many expressions functions have in all
abbrev pub expressions_in_all : List Function → ℕ
expressions_in_all [] = 0
expressions_in_all (g ∷ gs) = expressions_in g.body + expressions_in_all gs

-- the number of instructions of functions, and how many there may be in all the code of a program
abbrev pub instructions_in_all : List (List Instruction) → ℕ
instructions_in_all [] = 0
instructions_in_all (code ∷ codes) = length code + instructions_in_all codes

abbrev pub IsShort : Option (List (List Instruction)) → Type 0
IsShort code = instructions_in_all (unwrap_or code []) ≤ most_instructions

-- a function by itself: its name has 1 to 64 bytes, and it has at most 8 parameters
pub record IsFunctionWithin (g : Function) : Type 0 where
  pub name : IsName g.name
  pub parameters : length g.parameters ≤ most_parameters

-- a type that is written, and a function with its body: no type and no body has more than 100 levels, and at most 255 locals stand at a
-- place
abbrev pub IsFlatType : Ty → Type 0
IsFlatType t = levels_of_type t ≤ most_levels

pub record IsBodyWithin (types : Table) (g : Function) : Type 0 where
  pub parameter_types : All IsFlatType g.parameters
  pub result_type : IsFlatType g.result
  pub locals : locals_in types (length g.parameters) g.body ≤ most_locals
  pub levels : levels_of g.body ≤ most_levels

-- what is written of a program, in which there are at most 262,144 expressions
pub record IsWrittenWithin (P : Program) : Type 0 where
  pub field_types : All (All (All IsFlatType)) P.types
  pub state_type : IsFlatType P.state
  pub bodies : All (IsBodyWithin P.types) P.functions
  pub expressions : expressions_in_all P.functions ≤ most_expressions

-- A program is within the limits: it has at most 256 named types, of at most 255 constructors each, of at most 8 fields each, and 1,024
-- functions. One that is written is within the limits of what is written; the types of a compiled one may have any number of levels, and
-- its code at most 4,194,304 instructions.
pub record IsWithinLimits (P : Program) : Type 0 where
  pub types : length P.types ≤ most_types
  pub constructors : All (λ constructors. length constructors ≤ most_constructors) P.types
  pub fields : All (All (λ fields. length fields ≤ most_fields)) P.types
  pub functions : length P.functions ≤ most_functions
  pub each : All IsFunctionWithin P.functions
  pub written : P.code ≡ None → IsWrittenWithin P
  pub short : IsShort P.code
