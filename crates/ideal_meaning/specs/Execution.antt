-- The meaning of code, for any meaning of `auth` and `unauth`.
use Rattle.std.specs.Prelude.{ℕ, zero, suc, ◌-◌, Bool, not, ℤ, List, [], ◌∷◌, ◌++◌, length, Option, Some, None, slice_get, take, unwrap_or, pos, nat_le, if◌then◌else◌}
use Rattle.core_terms.specs.Types.{Ty, UnitTy, BoolTy, IntTy, TextTy, PairTy, NamedTy, AuthTy, VecTy, fields_at}
use Rattle.core_terms.specs.Values.{Value, UnitV, BoolV, IntV, TextV, PairV, ConV, ItemsV, Values, NoV, AndV}
use Rattle.ideal_meaning.specs.Run.{IsOut, Run, Gives, Ends, Mode, limited, with_fuel, arith_of, compare_of, text_compare_of, fill_of, get_of, put_of}
use Rattle.core_terms.specs.Instructions.{Instruction, PushUnit, PushBool, PushInt, PushText, Load, Bind, Unbind, Pair, Fst, Snd, Make, Switch, Branch, Jump, Call, Return, Auth, Unauth, ArithOp, CompareOp, TextCompareOp, Cat, Len, Not, VecFill, VecGet, VecPut}
use Rattle.core_terms.specs.Bodies.{Body, code_at, field_count}

-- How code ends: as a run; or stuck, at an operand, a local or a place that isn't there, or at one of another kind.
pub data Coded (C W : Type 0) : Type 0 where
  Ran : (r : Run C W Value) → Coded C W
  Stuck : Coded C W

-- goes on behind a run, and behind code
abbrev pub then_code : {C W A : Type 0} → Run C W A → (A → ℕ → W → Coded C W) → Coded C W
then_code (Gives a k w) go = go a k w
then_code (Ends stop k w) go = Ran (Ends stop k w)

abbrev pub then_coded : {C W : Type 0} → Coded C W → (Value → ℕ → W → Coded C W) → Coded C W
then_coded (Ran r) go = then_code r go
then_coded Stuck go = Stuck

-- goes on with what is there, or is stuck
abbrev pub where_some : {C W A : Type 0} → Option A → (A → Coded C W) → Coded C W
where_some (Some a) go = go a
where_some None go = Stuck

-- a value in hand, with its type
pub record Held : Type 0 where
  pub ty : Ty
  pub value : Value

abbrev pub held : Ty → Value → Held
held t v = record { ty = t; value = v }

-- values with their types
abbrev pub tie : List Ty → Values → List Held
tie (t ∷ ts) (AndV v vs) = held t v ∷ tie ts vs
tie ts vs = []

-- without the last n values; none where there are fewer
abbrev pub without_last : ℕ → List Held → Option (List Held)
without_last n env = if nat_le n (length env) then Some (take (length env - n) env) else None

-- Goes on with the values of the n topmost operands, in the order in which they were pushed, and with the operands below them;
-- those that are popped already are given.
abbrev pub popped : {C W : Type 0} → ℕ → List Held → Values → (Values → List Held → Coded C W) → Coded C W
popped zero ops vs go = go vs ops
popped (suc n) (x ∷ ops) vs go = popped n ops (AndV x.value vs) go
popped (suc n) [] vs go = Stuck

-- What comes next, given how many instructions are passed over first, the locals, the operands, the top one first, the fuel and
-- the mode's state.
abbrev pub Next : Type 0 → Type 0 → Type 0
Next C W = ℕ → List Held → List Held → ℕ → W → Coded C W

module _ (B : Body) where
  module _ {C W : Type 0} (mode : Mode C W) (call : ℕ → Values → ℕ → W → Coded C W) where
    -- goes on with a value that a run gives as the top operand
    abbrev pub pushed : Ty → Run C W Value → Next C W → List Held → List Held → Coded C W
    pushed t r next env ops = then_code r (λ v k w. next 0 env (held t v ∷ ops) k w)

    -- what is done with an operand of a kind; stuck at one of another kind
    abbrev pub on_pair : Ty → Value → (Ty → Ty → Value → Value → Coded C W) → Coded C W
    on_pair (PairTy a b) (PairV u v) go = go a b u v
    on_pair t v go = Stuck

    abbrev pub on_con : Value → (ℕ → Values → Coded C W) → Coded C W
    on_con (ConV tag vs) go = go tag vs
    on_con v go = Stuck

    abbrev pub on_bool : Value → (Bool → Coded C W) → Coded C W
    on_bool (BoolV b) go = go b
    on_bool v go = Stuck

    abbrev pub on_int : Value → (ℤ → Coded C W) → Coded C W
    on_int (IntV z) go = go z
    on_int v go = Stuck

    abbrev pub on_text : Value → (List ℕ → Coded C W) → Coded C W
    on_text (TextV bytes) go = go bytes
    on_text v go = Stuck

    abbrev pub on_items : Ty → Value → (ℕ → Ty → Values → Coded C W) → Coded C W
    on_items (VecTy n t) (ItemsV vs) go = go n t vs
    on_items t v go = Stuck

    -- One instruction, and what comes next. It is stuck where none of these lines fits the operands.
    abbrev pub act : Instruction → Next C W → List Held → List Held → ℕ → W → Coded C W
    act PushUnit next env ops k w = next 0 env (held UnitTy UnitV ∷ ops) k w
    act (PushBool b) next env ops k w = next 0 env (held BoolTy (BoolV b) ∷ ops) k w
    act (PushInt z) next env ops k w = next 0 env (held IntTy (IntV z) ∷ ops) k w
    act (PushText bytes) next env ops k w = next 0 env (held TextTy (TextV bytes) ∷ ops) k w
    act (Load i) next env ops k w = where_some (slice_get env i) (λ x. next 0 env (x ∷ ops) k w)
    act Bind next env (x ∷ ops) k w = next 0 (env ++ x ∷ []) ops k w
    act (Unbind n) next env ops k w = where_some (without_last n env) (λ env. next 0 env ops k w)
    act Pair next env (y ∷ (x ∷ ops)) k w = pushed (PairTy x.ty y.ty) (limited B.limit B.types (PairTy x.ty y.ty) (PairV x.value y.value) k w) next env ops
    act Fst next env (x ∷ ops) k w = on_pair x.ty x.value (λ a b u v. next 0 env (held a u ∷ ops) k w)
    act Snd next env (x ∷ ops) k w = on_pair x.ty x.value (λ a b u v. next 0 env (held b v ∷ ops) k w)
    act (Make number tag) next env ops k w =
        popped (field_count B.types number tag) ops NoV (λ vs ops. pushed (NamedTy number) (limited B.limit B.types (NamedTy number) (ConV tag vs) k w) next env ops)
    act (Switch number places) next env (x ∷ ops) k w =
        on_con x.value (λ tag vs. where_some (slice_get places tag) (λ n. next n (env ++ tie (unwrap_or (fields_at B.types number tag) []) vs) ops k w))
    act (Branch n) next env (x ∷ ops) k w = on_bool x.value (λ b. next (if b then 0 else n) env ops k w)
    act (Jump n) next env ops k w = next n env ops k w
    act (Call f) next env ops k w =
        popped (length (code_at B f).parameters) ops NoV (λ vs ops. then_coded (call f vs k w) (λ v k w. next 0 env (held (code_at B f).result v ∷ ops) k w))
    act Return next env (x ∷ []) k w = Ran (Gives x.value k w)
    act (Auth t) next env (x ∷ ops) k w = next 0 env (held (AuthTy t) (mode.auth t x.value) ∷ ops) k w
    act (Unauth t) next env (x ∷ ops) k w = pushed t (with_fuel k (mode.unauth t x.value w)) next env ops
    act (ArithOp op) next env (y ∷ (x ∷ ops)) k w = on_int x.value (λ m. on_int y.value (λ n. pushed IntTy (arith_of op m n k w) next env ops))
    act (CompareOp op) next env (y ∷ (x ∷ ops)) k w = on_int x.value (λ m. on_int y.value (λ n. next 0 env (held BoolTy (BoolV (compare_of op m n)) ∷ ops) k w))
    act (TextCompareOp op) next env (y ∷ (x ∷ ops)) k w = on_text x.value (λ m. on_text y.value (λ n. next 0 env (held BoolTy (BoolV (text_compare_of op m n)) ∷ ops) k w))
    act Cat next env (y ∷ (x ∷ ops)) k w = on_text x.value (λ m. on_text y.value (λ n. pushed TextTy (limited B.limit B.types TextTy (TextV (m ++ n)) k w) next env ops))
    act Len next env (x ∷ ops) k w = on_text x.value (λ m. next 0 env (held IntTy (IntV (pos (length m))) ∷ ops) k w)
    act Not next env (x ∷ ops) k w = on_bool x.value (λ b. next 0 env (held BoolTy (BoolV (not b)) ∷ ops) k w)
    act (VecFill n) next env (x ∷ ops) k w = pushed (VecTy n x.ty) (fill_of B.limit B.types n x.ty x.value k w) next env ops
    act VecGet next env (y ∷ (x ∷ ops)) k w = on_items x.ty x.value (λ n t vs. on_int y.value (λ z. pushed t (get_of n vs z k w) next env ops))
    act VecPut next env (e ∷ (y ∷ (x ∷ ops))) k w =
        on_items x.ty x.value (λ n t vs. on_int y.value (λ z. pushed (VecTy n t) (put_of B.limit B.types n t vs z e.value k w) next env ops))
    act _ next env ops k w = Stuck

    -- The instructions that are left, of which so many are passed over first. Behind the last one code is stuck.
    abbrev pub exec : List Instruction → Next C W
    exec [] skip env ops k w = Stuck
    exec (i ∷ is) (suc skip) env ops k w = exec is skip env ops k w
    exec (i ∷ is) zero env ops k w = act i (exec is) env ops k w

  -- A call of a function with so much fuel, of which it takes one unit; Out where none is left. `nesting` bounds how deep calls
  -- nest. It starts at the fuel and is never below it, so it never ends a run.
  abbrev pub call_code : {C W : Type 0} → Mode C W → ℕ → ℕ → Values → ℕ → W → Coded C W
  call_code mode zero f args k w = Ran (Ends IsOut k w)
  call_code mode (suc nesting) f args zero w = Ran (Ends IsOut zero w)
  call_code mode (suc nesting) f args (suc k) w = exec mode (call_code mode nesting) (code_at B f).code 0 (tie (code_at B f).parameters args) [] k w

  -- a call with all its fuel
  abbrev pub call_code_from : {C W : Type 0} → Mode C W → ℕ → Values → ℕ → W → Coded C W
  call_code_from mode f args k w = call_code mode k f args k w
