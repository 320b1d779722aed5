-- The typing rules of expressions, functions and programs.
use Rattle.std.specs.Prelude.{◌≡◌, ℕ, Bool, true, List, [], ◌∷◌, ◌++◌, length, Option, Some, None, slice_get, unwrap_or, IsUtf8, ◌≤◌}
use Rattle.core_terms.specs.Types.{Ty, UnitTy, BoolTy, IntTy, TextTy, PairTy, NamedTy, AuthTy, fields_at, is_length, OnFields}
use Rattle.core_terms.specs.Values.{int_fits}
use Rattle.core_terms.specs.Instructions.{Instruction}
use Rattle.core_terms.specs.Accepted.{IsAccepted}
use Rattle.core_terms.specs.Terms.{AndArm, AndE, ArithE, Arms, AuthE, BoolE, CallE, CatE, CompareE, ConE, Expression, Expressions, FstE, Function, IfE, IntE, LenE, LetE, LocalE, MatchE, NoArm, NoE, NotE, OperateE, Operation, PairE, Program, SndE, TextCompareE, TextE, UnauthE, UnitE, VecFill, VecGet, VecPut, body_of, operand_types, result_type}

-- the operation is one: its array has 1 to 64 elements
abbrev pub is_operation : Operation → Bool
is_operation (VecFill n t) = is_length n
is_operation (VecGet n t) = is_length n
is_operation (VecPut n t) = is_length n

-- a fact about a function; false where there is none
abbrev pub OnFunction : Option Function → (Function → Type 0) → Type 0
OnFunction (Some g) Q = Q g
OnFunction None Q = ⊥

module _ (P : Program) where
  -- The typing rules: the expression has type t where the locals have these types. A text literal has at most 65,532 bytes.
  abbrev mutual
    pub HasType : List Ty → Expression → Ty → Type 0
    HasType env UnitE t = UnitTy ≡ t
    HasType env (BoolE b) t = BoolTy ≡ t
    HasType env (IntE z) t = (IntTy ≡ t) × (int_fits z ≡ true)
    HasType env (TextE bytes) t = (TextTy ≡ t) × IsUtf8 bytes × (length bytes ≤ 65532)
    HasType env (LocalE i) t = slice_get env i ≡ Some t
    HasType env (PairE a b x y) t = (PairTy a b ≡ t) × HasType env x a × HasType env y b
    HasType env (FstE a b x) t = (a ≡ t) × HasType env x (PairTy a b)
    HasType env (SndE a b x) t = (b ≡ t) × HasType env x (PairTy a b)
    HasType env (NotE x) t = (BoolTy ≡ t) × HasType env x BoolTy
    HasType env (LenE x) t = (IntTy ≡ t) × HasType env x TextTy
    HasType env (AuthE a x) t = (AuthTy a ≡ t) × HasType env x a
    HasType env (UnauthE a x) t = (a ≡ t) × HasType env x (AuthTy a)
    HasType env (ConE number tag xs) t = (NamedTy number ≡ t) × OnFields (fields_at P.types number tag) (λ ts. HaveTypes env xs ts)
    HasType env (ArithE op x y) t = (IntTy ≡ t) × HasType env x IntTy × HasType env y IntTy
    HasType env (CompareE op x y) t = (BoolTy ≡ t) × HasType env x IntTy × HasType env y IntTy
    HasType env (TextCompareE op x y) t = (BoolTy ≡ t) × HasType env x TextTy × HasType env y TextTy
    HasType env (CatE x y) t = (TextTy ≡ t) × HasType env x TextTy × HasType env y TextTy
    HasType env (LetE a x body) t = HasType env x a × HasType (env ++ a ∷ []) body t
    HasType env (IfE test first other) t = HasType env test BoolTy × HasType env first t × HasType env other t
    HasType env (MatchE number x arms) t = HasType env x (NamedTy number) × HaveArms env (unwrap_or (slice_get P.types number) []) arms t
    HasType env (CallE f args) t = OnFunction (slice_get P.functions f) (λ g. (g.result ≡ t) × HaveTypes env args g.parameters)
    HasType env (OperateE op xs) t = (result_type op ≡ t) × (is_operation op ≡ true) × HaveTypes env xs (operand_types op)

    pub HaveTypes : List Ty → Expressions → List Ty → Type 0
    HaveTypes env NoE [] = Unit {0}
    HaveTypes env NoE (t ∷ ts) = ⊥
    HaveTypes env (AndE x xs) [] = ⊥
    HaveTypes env (AndE x xs) (t ∷ ts) = HasType env x t × HaveTypes env xs ts

    pub HaveArms : List Ty → List (List Ty) → Arms → Ty → Type 0
    HaveArms env [] NoArm t = Unit {0}
    HaveArms env (c ∷ cs) NoArm t = ⊥
    HaveArms env [] (AndArm e arms) t = ⊥
    HaveArms env (c ∷ cs) (AndArm e arms) t = HasType (env ++ c) e t × HaveArms env cs arms t

  -- each function's body has its result type, where its parameters are the locals
  abbrev pub IsWrittenWell : Type 0
  IsWrittenWell = (f : ℕ) (g : Function) → slice_get P.functions f ≡ Some g → HasType g.parameters g.body g.result

  -- each function has its code, and all of it is accepted
  pub record IsCompiledWell (codes : List (List Instruction)) : Type 0 where
    pub each : length codes ≡ length P.functions
    pub accepted : IsAccepted (body_of P codes)

  abbrev pub IsTypedAs : Option (List (List Instruction)) → Type 0
  IsTypedAs None = IsWrittenWell
  IsTypedAs (Some codes) = IsCompiledWell codes

  -- the program is well-typed
  abbrev pub IsTyped : Type 0
  IsTyped = IsTypedAs P.code
