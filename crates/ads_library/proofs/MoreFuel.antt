-- More fuel changes nothing but for runs that want it: by induction on the bound of nested calls, and on the expression.
use Rattle.std.proofs.Common.{◌≡◌, ℕ, zero, suc, ◌+◌, Bool, true, false, ◌++◌, ℤ, pos, negsuc, ◌+ℤ◌, ◌-ℤ◌, ◌*ℤ◌, int_div, int_rem, nat_lt, refl, arith, if◌then◌else◌, List, Option, Some, None}
use Rattle.core_terms.specs.Types.{Ty, PairTy, NamedTy, TextTy, VecTy}
use Rattle.core_terms.specs.Formats.{depth_limit}
use Rattle.core_terms.specs.Values.{Value, TextV, PairV, ConV, ItemsV, Values, NoV, AndV, size, depth, int_fits}
use Rattle.core_terms.specs.Terms.{Expression, UnitE, BoolE, IntE, TextE, LocalE, PairE, FstE, SndE, NotE, LenE, AuthE, UnauthE, ConE, ArithE, CompareE, TextCompareE, CatE, LetE, IfE, MatchE, CallE, OperateE, Operation, VecFill, VecGet, VecPut, Expressions, NoE, AndE, Arms, NoArm, AndArm, Program, function_at, body_of}
use Rattle.core_terms.specs.declared.term.Arith.{Arith}
use Rattle.core_terms.specs.declared.term.Arith.TheVariants.{Add, Sub, Mul, Div, Rem}
use Rattle.ideal_meaning.specs.Run.{Traps, IsOut, Rejects, Run, Gives, Ends, Opening, Opens, Refuses, with_fuel, Mode, then_run, divided, arith_of, choose, limited, at_index, operate, local, items_in, repeated, replaced, run, run_all, run_arm, call, bool_in, int_in, text_in, tag_in, fields_in, join}
use Rattle.core_terms.specs.Instructions.{Instruction}
use Rattle.ideal_meaning.specs.Called.{call_as}
use Rattle.ads_library.proofs.CodeMoreFuel.{code_more}
use Rattle.ads_library.specs.MoreFuel.{IsWithMore, MoreFuel}

module _ (C W : Type 0) (j : ℕ) where
  then_more : {A B : Type 0} (r s : Run C W A) (f g : A → ℕ → W → Run C W B) → IsWithMore j r s
      → ((a : A) (k : ℕ) (w : W) → IsWithMore j (f a k w) (g a (k + j) w)) → IsWithMore j (then_run r f) (then_run s g)
  then_more (Gives a k w) s f g h on = rw h (on a k w)
  then_more (Ends IsOut k w) s f g h on = tt
  then_more (Ends (Traps trap) k w) s f g h on = rw h refl
  then_more (Ends (Rejects cause) k w) s f g h on = rw h refl

  if_more : {A : Type 0} (b : Bool) (r s u v : Run C W A) → IsWithMore j r u → IsWithMore j s v → IsWithMore j (if b then r else s) (if b then u else v)
  if_more true r s u v h g = h
  if_more false r s u v h g = g

  divided_more : (z x y : ℤ) (k : ℕ) (w : W) → IsWithMore j (divided {C = C} z x y k w) (divided z x y (k + j) w)
  divided_more z x (pos zero) k w = refl
  divided_more z x (pos (suc n)) k w = if_more (int_fits (int_div x (pos (suc n)))) _ _ _ _ refl refl
  divided_more z x (negsuc n) k w = if_more (int_fits (int_div x (negsuc n))) _ _ _ _ refl refl

  arith_more : (op : Arith) (x y : ℤ) (k : ℕ) (w : W) → IsWithMore j (arith_of {C = C} op x y k w) (arith_of op x y (k + j) w)
  arith_more Add x y k w = if_more (int_fits (x +ℤ y)) _ _ _ _ refl refl
  arith_more Sub x y k w = if_more (int_fits (x -ℤ y)) _ _ _ _ refl refl
  arith_more Mul x y k w = if_more (int_fits (x *ℤ y)) _ _ _ _ refl refl
  arith_more Div x y k w = divided_more (int_div x y) x y k w
  arith_more Rem x y k w = divided_more (int_rem x y) x y k w

  choose_more : (b : Bool) (f g u v : Values → ℕ → W → Run C W Value) (env : Values) (k : ℕ) (w : W)
      → IsWithMore j (f env k w) (u env (k + j) w) → IsWithMore j (g env k w) (v env (k + j) w)
      → IsWithMore j (choose b f g env k w) (choose b u v env (k + j) w)
  choose_more true f g u v env k w h i = h
  choose_more false f g u v env k w h i = i

  opened_more : (k : ℕ) (o : Opening C W) → IsWithMore j (with_fuel k o) (with_fuel (k + j) o)
  opened_more k (Opens v w) = refl
  opened_more k (Refuses cause w) = refl

  module _ (P : Program) (mode : Mode C W) where
    limited_more : (t : Ty) (v : Value) (k : ℕ) (w : W) → IsWithMore j (limited {C = C} P.format.limit P.types t v k w)
        (limited P.format.limit P.types t v (k + j) w)
    limited_more t v k w =
        if_more (nat_lt P.format.limit (size P.types t v)) _ _ _ _ refl (if_more (nat_lt depth_limit (depth P.types t v)) _ _ _ _ refl refl)

    index_more : (n : ℕ) (z : ℤ) (f : ℕ → ℕ → W → Run C W Value) (k : ℕ) (w : W) → ((i : ℕ) → IsWithMore j (f i k w) (f i (k + j) w))
        → IsWithMore j (at_index n z f k w) (at_index n z f (k + j) w)
    index_more n (pos i) f k w h = if_more (nat_lt i n) _ _ _ _ (h i) refl
    index_more n (negsuc i) f k w h = refl

    operate_more : (op : Operation) (vs : Values) (k : ℕ) (w : W) → IsWithMore j (operate {C = C} P.format.limit P.types op vs k w)
        (operate P.format.limit P.types op vs (k + j) w)
    operate_more (VecFill n t) vs k w = limited_more (VecTy n t) (ItemsV (repeated n (local vs 0))) k w
    operate_more (VecGet n t) vs k w = index_more n (int_in (local vs 1)) (λ i k w. Gives (local (items_in (local vs 0)) i) k w) k w (λ i. refl)
    operate_more (VecPut n t) vs k w =
        index_more n (int_in (local vs 1))
        (λ i k w. limited P.format.limit P.types (VecTy n t) (ItemsV (replaced (items_in (local vs 0)) i (local vs 2))) k w) k w
        (λ i. limited_more (VecTy n t) (ItemsV (replaced (items_in (local vs 0)) i (local vs 2))) k w)

    module _ (c d : ℕ → Values → ℕ → W → Run C W Value) (more : (f : ℕ) (vs : Values) (k : ℕ) (w : W) → IsWithMore j (c f vs k w) (d f vs (k + j) w)) where
      mutual
        runs : (e : Expression) (env : Values) (k : ℕ) (w : W) → IsWithMore j (run P mode c e env k w) (run P mode d e env (k + j) w)
        runs UnitE env k w = refl
        runs (BoolE b) env k w = refl
        runs (IntE z) env k w = refl
        runs (TextE bytes) env k w = refl
        runs (LocalE i) env k w = refl
        runs (PairE a b x y) env k w = then_more _ _ _ _ (runs x env k w)
            (λ u k w. then_more _ _ _ _ (runs y env k w) (λ v k w. limited_more (PairTy a b) (PairV u v) k w))
        runs (FstE a b x) env k w = then_more _ _ _ _ (runs x env k w) (λ u k w. refl)
        runs (SndE a b x) env k w = then_more _ _ _ _ (runs x env k w) (λ u k w. refl)
        runs (NotE x) env k w = then_more _ _ _ _ (runs x env k w) (λ u k w. refl)
        runs (LenE x) env k w = then_more _ _ _ _ (runs x env k w) (λ u k w. refl)
        runs (AuthE t x) env k w = then_more _ _ _ _ (runs x env k w) (λ u k w. refl)
        runs (UnauthE t x) env k w = then_more _ _ _ _ (runs x env k w) (λ u k w. opened_more k (mode.unauth t u w))
        runs (ConE number tag xs) env k w = then_more _ _ _ _ (all_runs xs env k w) (λ vs k w. limited_more (NamedTy number) (ConV tag vs) k w)
        runs (ArithE op x y) env k w = then_more _ _ _ _ (runs x env k w)
            (λ u k w. then_more _ _ _ _ (runs y env k w) (λ v k w. arith_more op (int_in u) (int_in v) k w))
        runs (CompareE op x y) env k w = then_more _ _ _ _ (runs x env k w) (λ u k w. then_more _ _ _ _ (runs y env k w) (λ v k w. refl))
        runs (TextCompareE op x y) env k w = then_more _ _ _ _ (runs x env k w) (λ u k w. then_more _ _ _ _ (runs y env k w) (λ v k w. refl))
        runs (CatE x y) env k w =
            then_more _ _ _ _ (runs x env k w) (λ u k w. then_more _ _ _ _ (runs y env k w) (λ v k w. limited_more TextTy (TextV (text_in u ++ text_in v)) k w))
        runs (LetE a x body) env k w = then_more _ _ _ _ (runs x env k w) (λ u k w. runs body (join env (AndV u NoV)) k w)
        runs (IfE test x y) env k w = then_more _ _ _ _ (runs test env k w) (λ u k w.
            choose_more (bool_in u) (run P mode c x) (run P mode c y) (run P mode d x) (run P mode d y) env k w (runs x env k w) (runs y env k w))
        runs (MatchE number x arms) env k w = then_more _ _ _ _ (runs x env k w) (λ u k w. arm_runs arms (tag_in u) (join env (fields_in u)) k w)
        runs (CallE f args) env k w = then_more _ _ _ _ (all_runs args env k w) (λ vs k w. more f vs k w)
        runs (OperateE op xs) env k w = then_more _ _ _ _ (all_runs xs env k w) (λ vs k w. operate_more op vs k w)

        all_runs : (xs : Expressions) (env : Values) (k : ℕ) (w : W) → IsWithMore j (run_all P mode c xs env k w) (run_all P mode d xs env (k + j) w)
        all_runs NoE env k w = refl
        all_runs (AndE x xs) env k w = then_more _ _ _ _ (runs x env k w) (λ u k w. then_more _ _ _ _ (all_runs xs env k w) (λ v k w. refl))

        arm_runs : (arms : Arms) (tag : ℕ) (env : Values) (k : ℕ) (w : W)
            → IsWithMore j (run_arm P mode c arms tag env k w) (run_arm P mode d arms tag env (k + j) w)
        arm_runs NoArm tag env k w = refl
        arm_runs (AndArm x arms) zero env k w = runs x env k w
        arm_runs (AndArm x arms) (suc tag) env k w = arm_runs arms tag env k w

    -- a bound on nested calls that isn't below the greater fuel
    calls : (n f : ℕ) (vs : Values) (k : ℕ) (w : W) → IsWithMore j (call P mode n f vs k w) (call P mode (n + j) f vs (k + j) w)
    calls zero f vs k w = tt
    calls (suc n) f vs zero w = tt
    calls (suc n) f vs (suc k) w =
        let e : suc n + j ≡ suc (n + j) = omega arith in
        let g : suc k + j ≡ suc (k + j) = omega arith in
        rw (e, g) (runs (call P mode n) (call P mode (n + j)) (calls n) (function_at P f).body vs k w)

-- of programs that are written and of those that are compiled
pub more_fuel : (C W : Type 0) → MoreFuel C W
more_fuel C W P mode f args k j w = by P.code
  where
    by : (o : Option (List (List Instruction))) → IsWithMore j (call_as P o mode k f args k w) (call_as P o mode (k + j) f args (k + j) w)
    by None = calls C W j P mode k f args k w
    by (Some codes) = code_more C W j (body_of P codes) mode f args k w
