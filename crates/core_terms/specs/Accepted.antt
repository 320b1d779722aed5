-- Accepted code: at each instruction the types of the locals and of the operands are known, and it finds there what it needs.
use Rattle.std.specs.Prelude.{◌≡◌, ◌<◌, ◌≤◌, ℕ, true, List, [], ◌∷◌, ◌++◌, length, Some, slice_get, IsUtf8}
use Rattle.core_terms.specs.Types.{Ty, UnitTy, BoolTy, IntTy, TextTy, PairTy, NamedTy, AuthTy, VecTy, fields_at, is_length}
use Rattle.core_terms.specs.Values.{int_fits}
use Rattle.core_terms.specs.Instructions.{Instruction, PushUnit, PushBool, PushInt, PushText, Load, Bind, Unbind, Pair, Fst, Snd, Make, Switch, Branch, Jump, Call, Return, Auth, Unauth, ArithOp, CompareOp, TextCompareOp, Cat, Len, Not, VecFill, VecGet, VecPut}
use Rattle.core_terms.specs.Bodies.{Body, code_at}
use Rattle.core_terms.specs.CodeShapes.{Shape, shape}

-- the operands with those of a list, the last of them being the top
abbrev pub push_types : List Ty → List Ty → List Ty
push_types [] os = os
push_types (t ∷ ts) os = push_types ts (t ∷ os)

-- An instruction of a function with result type z, where the locals have types ls and the operands types os: it finds what it
-- needs, its literal is one of the language, and each way that it may go on is one that `to` allows: with so many of the
-- instructions behind it passed over, and these types of locals and operands.
abbrev pub Fits : Body → Ty → Instruction → List Ty → List Ty → (ℕ → List Ty → List Ty → Type 0) → Type 0
Fits B z PushUnit ls os to = to 0 ls (UnitTy ∷ os)
Fits B z (PushBool b) ls os to = to 0 ls (BoolTy ∷ os)
Fits B z (PushInt n) ls os to = (int_fits n ≡ true) × to 0 ls (IntTy ∷ os)
Fits B z (PushText bytes) ls os to = IsUtf8 bytes × (length bytes ≤ 65532) × to 0 ls (TextTy ∷ os)
Fits B z (Load i) ls os to = (t : Ty) × (slice_get ls i ≡ Some t) × to 0 ls (t ∷ os)
Fits B z Bind ls (t ∷ os) to = to 0 (ls ++ t ∷ []) os
Fits B z (Unbind n) ls os to = (kept : List Ty) × (dropped : List Ty) × (ls ≡ kept ++ dropped) × (length dropped ≡ n) × to 0 kept os
Fits B z Pair ls (b ∷ (a ∷ os)) to = to 0 ls (PairTy a b ∷ os)
Fits B z Fst ls (PairTy a b ∷ os) to = to 0 ls (a ∷ os)
Fits B z Snd ls (PairTy a b ∷ os) to = to 0 ls (b ∷ os)
Fits B z (Make number tag) ls os to =
    (ts : List Ty) × (under : List Ty) × (fields_at B.types number tag ≡ Some ts) × (os ≡ push_types ts under) × to 0 ls (NamedTy number ∷ under)
Fits B z (Switch number places) ls (NamedTy m ∷ os) to =
    (m ≡ number) × ((tag : ℕ) (ts : List Ty) → fields_at B.types number tag ≡ Some ts → (n : ℕ) × (slice_get places tag ≡ Some n) × to n (ls ++ ts) os)
Fits B z (Branch n) ls (BoolTy ∷ os) to = to 0 ls os × to n ls os
Fits B z (Jump n) ls os to = to n ls os
Fits B z (Call f) ls os to =
    (under : List Ty) × (os ≡ push_types (code_at B f).parameters under) × to 0 ls ((code_at B f).result ∷ under) × (f < length B.functions)
Fits B z Return ls (t ∷ []) to = t ≡ z
Fits B z (Auth t) ls (u ∷ os) to = (u ≡ t) × to 0 ls (AuthTy t ∷ os)
Fits B z (Unauth t) ls (AuthTy u ∷ os) to = (u ≡ t) × to 0 ls (t ∷ os)
Fits B z (ArithOp op) ls (IntTy ∷ (IntTy ∷ os)) to = to 0 ls (IntTy ∷ os)
Fits B z (CompareOp op) ls (IntTy ∷ (IntTy ∷ os)) to = to 0 ls (BoolTy ∷ os)
Fits B z (TextCompareOp op) ls (TextTy ∷ (TextTy ∷ os)) to = to 0 ls (BoolTy ∷ os)
Fits B z Cat ls (TextTy ∷ (TextTy ∷ os)) to = to 0 ls (TextTy ∷ os)
Fits B z Len ls (TextTy ∷ os) to = to 0 ls (IntTy ∷ os)
Fits B z Not ls (BoolTy ∷ os) to = to 0 ls (BoolTy ∷ os)
Fits B z (VecFill n) ls (t ∷ os) to = (is_length n ≡ true) × to 0 ls (VecTy n t ∷ os)
Fits B z VecGet ls (IntTy ∷ (VecTy n t ∷ os)) to = to 0 ls (t ∷ os)
Fits B z VecPut ls (u ∷ (IntTy ∷ (VecTy n t ∷ os))) to = (u ≡ t) × to 0 ls (VecTy n t ∷ os)
Fits B z _ ls os to = ⊥

-- the instructions left, with the shape before each of them: each one fits, and goes on where its shape stands
abbrev pub IsFine : Body → Ty → List Instruction → List Shape → Type 0
IsFine B z [] [] = Unit {0}
IsFine B z (i ∷ is) (s ∷ shapes) = Fits B z i s.locals s.operands (λ n ls os. slice_get shapes n ≡ Some (shape ls os)) × IsFine B z is shapes
IsFine B z is shapes = ⊥

-- Each function's instructions have shapes that are fine, where the parameters are the first locals and there are no operands.
abbrev pub IsAccepted : Body → Type 0
IsAccepted B = (f : ℕ) → (shapes : List Shape) × IsFine B (code_at B f).result (code_at B f).code shapes × (slice_get shapes 0 ≡ Some (shape (code_at B f).parameters []))
