-- The ideal meaning, rule by rule, in words that know no mode: for a reader who checks it against the language's own table.
use Rattle.std.specs.Prelude.{◌≡◌, ℕ, zero, suc, Bool, not, List, [], ◌∷◌, ◌++◌, length, ℤ, pos, ◌+ℤ◌, ◌-ℤ◌, ◌*ℤ◌, int_lt, int_le, int_div, int_rem, nat_lt, bytes_eq, if◌then◌else◌}
use Rattle.std.specs.Ordering.{int_eq}
use Rattle.core_terms.specs.Types.{Ty, TextTy, PairTy, NamedTy, VecTy}
use Rattle.core_terms.specs.Values.{Value, UnitV, BoolV, IntV, TextV, PairV, ConV, ItemsV, Values, NoV, AndV, int_fits, size, depth}
use Rattle.core_terms.specs.Terms.{Expression, UnitE, BoolE, IntE, TextE, LocalE, PairE, FstE, SndE, NotE, LenE, AuthE, UnauthE, ConE, ArithE, CompareE, TextCompareE, CatE, LetE, IfE, MatchE, CallE, OperateE, VecFill, VecGet, VecPut, Expressions, NoE, AndE, Arms, AndArm, Program, function_at}
use Rattle.core_terms.specs.declared.term.Arith.TheVariants.{Add, Sub, Mul, Div, Rem}
use Rattle.core_terms.specs.declared.term.Compare.TheVariants.{Eq, Lt, Le}
use Rattle.core_terms.specs.declared.term.TextCompare.TheVariants.{Eq as TEq, Lt as TLt}
use Rattle.ideal_meaning.specs.Run.{TooBig, TooDeep, Overflow, DivZero, Index, Traps, IsOut, Run, Gives, Ends, then_run, local, join, first_in, second_in, bool_in, int_in, text_in, text_lt, tag_in, fields_in, items_in, repeated, replaced, run, run_all, run_arm, call}
use Rattle.ideal_meaning.specs.Ideal.{Opened, ideal_mode}

-- what an ideal evaluation gives, with the fuel left and what was opened
abbrev pub Evaluation : Type 0 → Type 0
Evaluation A = Run ⊥ (List Opened) A

module _ (P : Program) (nesting : ℕ) where
  -- an expression where the locals have these values, with fuel k, after `seen` was opened; calls nest `nesting` deep at most
  abbrev pub eval : Expression → Values → ℕ → List Opened → Evaluation Value
  eval e env k seen = run P ideal_mode (call P ideal_mode nesting) e env k seen

  -- operands, from left to right
  abbrev pub eval_all : Expressions → Values → ℕ → List Opened → Evaluation Values
  eval_all es env k seen = run_all P ideal_mode (call P ideal_mode nesting) es env k seen

  -- the arm of a tag
  abbrev pub eval_arm : Arms → ℕ → Values → ℕ → List Opened → Evaluation Value
  eval_arm arms tag env k seen = run_arm P ideal_mode (call P ideal_mode nesting) arms tag env k seen

-- the quotient or remainder z of x by y
abbrev pub divides : ℤ → ℤ → ℤ → ℕ → List Opened → Evaluation Value
divides z x (pos zero) k seen = Ends (Traps DivZero) k seen
divides z x y k seen = if int_fits (int_div x y) then Gives (IntV z) k seen else Ends (Traps Overflow) k seen

-- a new value of type t: too big, else too deep, else the value
abbrev pub made : Program → Ty → Value → ℕ → List Opened → Evaluation Value
made P t v k seen =
    if nat_lt P.format.limit (size P.types t v) then Ends (Traps TooBig) k seen
    else (if nat_lt 512 (depth P.types t v) then Ends (Traps TooDeep) k seen else Gives v k seen)

-- where z is a number below m, what goes on with it; else the trap
abbrev pub indexed : ℕ → ℤ → (ℕ → ℕ → List Opened → Evaluation Value) → ℕ → List Opened → Evaluation Value
indexed m (pos i) go k seen = if nat_lt i m then go i k seen else Ends (Traps Index) k seen
indexed m z go k seen = Ends (Traps Index) k seen

module _ (P : Program) (n : ℕ) where
  -- Each rule of the ideal meaning. Operands come from left to right, each with the fuel that is left; the first that gives no
  -- value ends the evaluation, with what was opened so far (`then_run`).
  pub record IdealRules : Type 0 where
    pub unit : (env : Values) (k : ℕ) (s : List Opened) → eval P n UnitE env k s ≡ Gives UnitV k s
    pub bool : (b : Bool) (env : Values) (k : ℕ) (s : List Opened) → eval P n (BoolE b) env k s ≡ Gives (BoolV b) k s
    pub int : (z : ℤ) (env : Values) (k : ℕ) (s : List Opened) → eval P n (IntE z) env k s ≡ Gives (IntV z) k s
    pub text : (bytes : List ℕ) (env : Values) (k : ℕ) (s : List Opened) → eval P n (TextE bytes) env k s ≡ Gives (TextV bytes) k s
    pub name : (i : ℕ) (env : Values) (k : ℕ) (s : List Opened) → eval P n (LocalE i) env k s ≡ Gives (local env i) k s
    -- `auth` is the identity; `unauth` too, and adds the value to what was opened, at the end
    pub auth_is : (t : Ty) (x : Expression) (env : Values) (k : ℕ) (s : List Opened)
        → eval P n (AuthE t x) env k s ≡ then_run (eval P n x env k s) (λ v k s. Gives v k s)
    pub unauth_is : (t : Ty) (x : Expression) (env : Values) (k : ℕ) (s : List Opened)
        → eval P n (UnauthE t x) env k s ≡ then_run (eval P n x env k s) (λ v k s. Gives v k (s ++ record { ty = t; value = v } ∷ []))
    pub pair : (a b : Ty) (x y : Expression) (env : Values) (k : ℕ) (s : List Opened)
        → eval P n (PairE a b x y) env k s ≡ then_run (eval P n x env k s) (λ u k s. then_run (eval P n y env k s) (λ v k s. made P (PairTy a b) (PairV u v) k s))
    pub constructor : (number tag : ℕ) (xs : Expressions) (env : Values) (k : ℕ) (s : List Opened)
        → eval P n (ConE number tag xs) env k s ≡ then_run (eval_all P n xs env k s) (λ vs k s. made P (NamedTy number) (ConV tag vs) k s)
    pub first : (a b : Ty) (x : Expression) (env : Values) (k : ℕ) (s : List Opened)
        → eval P n (FstE a b x) env k s ≡ then_run (eval P n x env k s) (λ v k s. Gives (first_in v) k s)
    pub second : (a b : Ty) (x : Expression) (env : Values) (k : ℕ) (s : List Opened)
        → eval P n (SndE a b x) env k s ≡ then_run (eval P n x env k s) (λ v k s. Gives (second_in v) k s)
    pub not_is : (x : Expression) (env : Values) (k : ℕ) (s : List Opened)
        → eval P n (NotE x) env k s ≡ then_run (eval P n x env k s) (λ v k s. Gives (BoolV (not (bool_in v))) k s)
    -- arithmetic is exact, and traps where the result is no int; quotients are truncated toward zero
    pub add : (x y : Expression) (env : Values) (k : ℕ) (s : List Opened)
        → eval P n (ArithE Add x y) env k s ≡ then_run (eval P n x env k s) (λ u k s. then_run (eval P n y env k s) (λ v k s.
        if int_fits (int_in u +ℤ int_in v) then Gives (IntV (int_in u +ℤ int_in v)) k s else Ends (Traps Overflow) k s))
    pub sub : (x y : Expression) (env : Values) (k : ℕ) (s : List Opened)
        → eval P n (ArithE Sub x y) env k s ≡ then_run (eval P n x env k s) (λ u k s. then_run (eval P n y env k s) (λ v k s.
        if int_fits (int_in u -ℤ int_in v) then Gives (IntV (int_in u -ℤ int_in v)) k s else Ends (Traps Overflow) k s))
    pub mul : (x y : Expression) (env : Values) (k : ℕ) (s : List Opened)
        → eval P n (ArithE Mul x y) env k s ≡ then_run (eval P n x env k s) (λ u k s. then_run (eval P n y env k s) (λ v k s.
        if int_fits (int_in u *ℤ int_in v) then Gives (IntV (int_in u *ℤ int_in v)) k s else Ends (Traps Overflow) k s))
    pub div : (x y : Expression) (env : Values) (k : ℕ) (s : List Opened)
        → eval P n (ArithE Div x y) env k s ≡ then_run (eval P n x env k s) (λ u k s. then_run (eval P n y env k s) (λ v k s.
        divides (int_div (int_in u) (int_in v)) (int_in u) (int_in v) k s))
    pub rem : (x y : Expression) (env : Values) (k : ℕ) (s : List Opened)
        → eval P n (ArithE Rem x y) env k s ≡ then_run (eval P n x env k s) (λ u k s. then_run (eval P n y env k s) (λ v k s.
        divides (int_rem (int_in u) (int_in v)) (int_in u) (int_in v) k s))
    pub eq : (x y : Expression) (env : Values) (k : ℕ) (s : List Opened)
        → eval P n (CompareE Eq x y) env k s ≡ then_run (eval P n x env k s) (λ u k s. then_run (eval P n y env k s) (λ v k s.
        Gives (BoolV (int_eq (int_in u) (int_in v))) k s))
    pub lt : (x y : Expression) (env : Values) (k : ℕ) (s : List Opened)
        → eval P n (CompareE Lt x y) env k s ≡ then_run (eval P n x env k s) (λ u k s. then_run (eval P n y env k s) (λ v k s.
        Gives (BoolV (int_lt (int_in u) (int_in v))) k s))
    pub le : (x y : Expression) (env : Values) (k : ℕ) (s : List Opened)
        → eval P n (CompareE Le x y) env k s ≡ then_run (eval P n x env k s) (λ u k s. then_run (eval P n y env k s) (λ v k s.
        Gives (BoolV (int_le (int_in u) (int_in v))) k s))
    pub teq : (x y : Expression) (env : Values) (k : ℕ) (s : List Opened)
        → eval P n (TextCompareE TEq x y) env k s ≡ then_run (eval P n x env k s) (λ u k s. then_run (eval P n y env k s) (λ v k s.
        Gives (BoolV (bytes_eq (text_in u) (text_in v))) k s))
    pub tlt : (x y : Expression) (env : Values) (k : ℕ) (s : List Opened)
        → eval P n (TextCompareE TLt x y) env k s ≡ then_run (eval P n x env k s) (λ u k s. then_run (eval P n y env k s) (λ v k s.
        Gives (BoolV (text_lt (text_in u) (text_in v))) k s))
    pub len : (x : Expression) (env : Values) (k : ℕ) (s : List Opened)
        → eval P n (LenE x) env k s ≡ then_run (eval P n x env k s) (λ v k s. Gives (IntV (pos (length (text_in v)))) k s)
    pub cat : (x y : Expression) (env : Values) (k : ℕ) (s : List Opened)
        → eval P n (CatE x y) env k s ≡ then_run (eval P n x env k s) (λ u k s. then_run (eval P n y env k s) (λ v k s.
        made P TextTy (TextV (text_in u ++ text_in v)) k s))
    -- an array of m times the operand, the element at an int, and the array with that element replaced; the index is tested first, then the limits
    pub fill : (m : ℕ) (t : Ty) (x : Expression) (env : Values) (k : ℕ) (s : List Opened)
        → eval P n (OperateE (VecFill m t) (AndE x NoE)) env k s ≡ then_run (eval P n x env k s) (λ v k s. made P (VecTy m t) (ItemsV (repeated m v)) k s)
    pub get : (m : ℕ) (t : Ty) (x y : Expression) (env : Values) (k : ℕ) (s : List Opened)
        → eval P n (OperateE (VecGet m t) (AndE x (AndE y NoE))) env k s ≡ then_run (eval P n x env k s) (λ u k s. then_run (eval P n y env k s) (λ v k s.
        indexed m (int_in v) (λ i k s. Gives (local (items_in u) i) k s) k s))
    pub put : (m : ℕ) (t : Ty) (x y z : Expression) (env : Values) (k : ℕ) (s : List Opened)
        → eval P n (OperateE (VecPut m t) (AndE x (AndE y (AndE z NoE)))) env k s ≡ then_run (eval P n x env k s) (λ u k s. then_run (eval P n y env k s) (λ v k s.
        then_run (eval P n z env k s) (λ e k s. indexed m (int_in v) (λ i k s. made P (VecTy m t) (ItemsV (replaced (items_in u) i e)) k s) k s)))
    -- the bound part, then the body with one local more; the test, then one branch; the scrutinee, then the arm of its tag with
    -- its fields as locals
    pub let_is : (a : Ty) (x body : Expression) (env : Values) (k : ℕ) (s : List Opened)
        → eval P n (LetE a x body) env k s ≡ then_run (eval P n x env k s) (λ v k s. eval P n body (join env (AndV v NoV)) k s)
    pub if_is : (x e f : Expression) (env : Values) (k : ℕ) (s : List Opened)
        → eval P n (IfE x e f) env k s ≡ then_run (eval P n x env k s) (λ v k s. if bool_in v then eval P n e env k s else eval P n f env k s)
    pub match_is : (number : ℕ) (x : Expression) (arms : Arms) (env : Values) (k : ℕ) (s : List Opened)
        → eval P n (MatchE number x arms) env k s ≡ then_run (eval P n x env k s) (λ v k s. eval_arm P n arms (tag_in v) (join env (fields_in v)) k s)
    pub arm_first : (body : Expression) (arms : Arms) (env : Values) (k : ℕ) (s : List Opened)
        → eval_arm P n (AndArm body arms) 0 env k s ≡ eval P n body env k s
    pub arm_later : (body : Expression) (arms : Arms) (tag : ℕ) (env : Values) (k : ℕ) (s : List Opened)
        → eval_arm P n (AndArm body arms) (suc tag) env k s ≡ eval_arm P n arms tag env k s
    -- after the operands a call takes one unit of fuel, and is out where none is left
    pub call_is : (f : ℕ) (xs : Expressions) (env : Values) (k : ℕ) (s : List Opened)
        → eval P n (CallE f xs) env k s ≡ then_run (eval_all P n xs env k s) (λ vs k s. call P ideal_mode n f vs k s)
    pub call_out : (f : ℕ) (vs : Values) (s : List Opened) → call P ideal_mode n f vs 0 s ≡ Ends IsOut 0 s
    pub call_goes : (f : ℕ) (vs : Values) (k : ℕ) (s : List Opened)
        → call P ideal_mode (suc n) f vs (suc k) s ≡ eval P n (function_at P f).body vs k s
    pub no_operand : (env : Values) (k : ℕ) (s : List Opened) → eval_all P n NoE env k s ≡ Gives NoV k s
    pub operands : (x : Expression) (xs : Expressions) (env : Values) (k : ℕ) (s : List Opened)
        → eval_all P n (AndE x xs) env k s ≡ then_run (eval P n x env k s) (λ v k s. then_run (eval_all P n xs env k s) (λ vs k s. Gives (AndV v vs) k s))

-- the rules hold for every program and bound
abbrev pub IdealTable : Type 0
IdealTable = (P : Program) (nesting : ℕ) → IdealRules P nesting
