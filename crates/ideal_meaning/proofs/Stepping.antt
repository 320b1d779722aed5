-- A run goes on by the steps of its mode: how its state moves at each opening, it moves from beginning to end.
use Rattle.std.proofs.Common.{ℕ, zero, suc, ◌++◌, Bool, true, false, ℤ, pos, negsuc, int_div, int_rem, ◌+ℤ◌, ◌-ℤ◌, ◌*ℤ◌, if◌then◌else◌, nat_lt}
use Rattle.core_terms.specs.Types.{Ty, PairTy, NamedTy, TextTy, VecTy, Table}
use Rattle.core_terms.specs.Values.{Value, Values, PairV, TextV, ConV, ItemsV, size, depth, int_fits}
use Rattle.core_terms.specs.Terms.{Expression, UnitE, BoolE, IntE, TextE, LocalE, PairE, FstE, SndE, NotE, LenE, AuthE, UnauthE, ConE, ArithE, CompareE, TextCompareE, CatE, LetE, IfE, MatchE, CallE, OperateE, Operation, VecFill, VecGet, VecPut, Expressions, NoE, AndE, Arms, NoArm, AndArm, Program, function_at}
use Rattle.core_terms.specs.declared.term.Arith.{Arith}
use Rattle.core_terms.specs.declared.term.Arith.TheVariants.{Add, Sub, Mul, Div, Rem}
use Rattle.core_terms.specs.Formats.{depth_limit}
use Rattle.ideal_meaning.specs.Run.{Mode, Run, Gives, Ends, then_run, exact, divided, arith_of, choose, limited, at_index, fill_of, get_of, put_of, operate, int_in, items_in, local, repeated, replaced, run, run_all, run_arm, call, bool_in, text_in, state_of, with_fuel}

module _ (C W : Type 0) (mode : Mode C W) (Goes : W → W → Type 0) (stays : (w : W) → Goes w w) (goes_on : (a b c : W) → Goes a b → Goes b c → Goes a c)
    (opens : (k : ℕ) (t : Ty) (v : Value) (w : W) → Goes w (state_of (with_fuel k (mode.unauth t v w)))) where
  -- the state has moved so to that of the run
  pub record To {A : Type 0} (w : W) (r : Run C W A) : Type 0 where
    pub moves : Goes w (state_of r)

  -- an end, with or without a value
  pub gives : {A : Type 0} (a : A) (k : ℕ) (w : W) → To w (Gives a k w)
  gives a k w = record { moves = stays w }

  pub ends : {A : Type 0} (stop : _) (k : ℕ) (w : W) → To {A = A} w (Ends stop k w)
  ends stop k w = record { moves = stays w }

  -- a run and what goes on behind it
  goes_then : {A B : Type 0} (w : W) (r : Run C W A) (f : A → ℕ → W → Run C W B) → To w r → ((a : A) (k : ℕ) (w : W) → To w (f a k w)) → To w (then_run r f)
  goes_then w (Gives a k v) f g h = record { moves = goes_on w v (state_of (f a k v)) g.moves (h a k v).moves }
  goes_then w (Ends stop k v) f g h = record { moves = g.moves }

  -- one of two runs
  goes_if : {A : Type 0} (w : W) (b : Bool) (x y : Run C W A) → To w x → To w y → To w (if b then x else y)
  goes_if w true x y g h = g
  goes_if w false x y g h = h

  -- arithmetic
  goes_exact : (z : ℤ) (k : ℕ) (w : W) → To w (exact {C = C} z k w)
  goes_exact z k w = goes_if w (int_fits z) _ _ (gives _ k w) (ends _ k w)

  goes_divided : (z x y : ℤ) (k : ℕ) (w : W) → To w (divided {C = C} z x y k w)
  goes_divided z x (pos zero) k w = ends _ k w
  goes_divided z x (pos (suc n)) k w = goes_if w (int_fits (int_div x (pos (suc n)))) _ _ (gives _ k w) (ends _ k w)
  goes_divided z x (negsuc n) k w = goes_if w (int_fits (int_div x (negsuc n))) _ _ (gives _ k w) (ends _ k w)

  pub goes_arith : (op : Arith) (x y : ℤ) (k : ℕ) (w : W) → To w (arith_of {C = C} op x y k w)
  goes_arith Add x y k w = goes_exact (x +ℤ y) k w
  goes_arith Sub x y k w = goes_exact (x -ℤ y) k w
  goes_arith Mul x y k w = goes_exact (x *ℤ y) k w
  goes_arith Div x y k w = goes_divided (int_div x y) x y k w
  goes_arith Rem x y k w = goes_divided (int_rem x y) x y k w

  goes_choose : (b : Bool) (f g : Values → ℕ → W → Run C W Value) (env : Values) (k : ℕ) (w : W) → To w (f env k w) → To w (g env k w) → To w (choose b f g env k w)
  goes_choose true f g env k w h j = h
  goes_choose false f g env k w h j = j

  module _ (limit : ℕ) (types : Table) where
    -- a new value
    pub goes_limited : (t : Ty) (v : Value) (k : ℕ) (w : W) → To w (limited {C = C} limit types t v k w)
    goes_limited t v k w =
        goes_if w (nat_lt limit (size types t v)) _ _ (ends _ k w) (goes_if w (nat_lt depth_limit (depth types t v)) _ _ (ends _ k w) (gives _ k w))

    -- what an operation gives
    goes_index : (n : ℕ) (z : ℤ) (f : ℕ → ℕ → W → Run C W Value) (k : ℕ) (w : W) → ((i : ℕ) → To w (f i k w)) → To w (at_index n z f k w)
    goes_index n (pos i) f k w h = goes_if w (nat_lt i n) _ _ (h i) (ends _ k w)
    goes_index n (negsuc i) f k w h = ends _ k w

    pub goes_fill : (n : ℕ) (t : Ty) (v : Value) (k : ℕ) (w : W) → To w (fill_of {C = C} limit types n t v k w)
    goes_fill n t v k w = goes_limited (VecTy n t) (ItemsV (repeated n v)) k w

    pub goes_get : (n : ℕ) (vs : Values) (z : ℤ) (k : ℕ) (w : W) → To w (get_of {C = C} n vs z k w)
    goes_get n vs z k w = goes_index n z (λ i k w. Gives (local vs i) k w) k w (λ i. gives _ k w)

    pub goes_put : (n : ℕ) (t : Ty) (vs : Values) (z : ℤ) (v : Value) (k : ℕ) (w : W) → To w (put_of {C = C} limit types n t vs z v k w)
    goes_put n t vs z v k w =
        goes_index n z (λ i k w. limited limit types (VecTy n t) (ItemsV (replaced vs i v)) k w) k w (λ i. goes_limited (VecTy n t) (ItemsV (replaced vs i v)) k w)

    goes_operate : (op : Operation) (vs : Values) (k : ℕ) (w : W) → To w (operate {C = C} limit types op vs k w)
    goes_operate (VecFill n t) vs k w = goes_fill n t (local vs 0) k w
    goes_operate (VecGet n t) vs k w = goes_get n (items_in (local vs 0)) (int_in (local vs 1)) k w
    goes_operate (VecPut n t) vs k w = goes_put n t (items_in (local vs 0)) (int_in (local vs 1)) (local vs 2) k w

  module _ (P : Program) where
    module _ (callee : ℕ → Values → ℕ → W → Run C W Value) (callee_goes : (f : ℕ) (vs : Values) (k : ℕ) (w : W) → To w (callee f vs k w)) where
      mutual
        goes : (e : Expression) (env : Values) (k : ℕ) (w : W) → To w (run P mode callee e env k w)
        goes UnitE env k w = gives _ k w
        goes (BoolE b) env k w = gives _ k w
        goes (IntE z) env k w = gives _ k w
        goes (TextE bytes) env k w = gives _ k w
        goes (LocalE i) env k w = gives _ k w
        goes (PairE a b x y) env k w =
            goes_then w _ _ (goes x env k w) (λ u k w. goes_then w _ _ (goes y env k w) (λ v k w. goes_limited P.format.limit P.types (PairTy a b) (PairV u v) k w))
        goes (FstE a b x) env k w = goes_then w _ _ (goes x env k w) (λ v k w. gives _ k w)
        goes (SndE a b x) env k w = goes_then w _ _ (goes x env k w) (λ v k w. gives _ k w)
        goes (NotE x) env k w = goes_then w _ _ (goes x env k w) (λ v k w. gives _ k w)
        goes (LenE x) env k w = goes_then w _ _ (goes x env k w) (λ v k w. gives _ k w)
        goes (AuthE t x) env k w = goes_then w _ _ (goes x env k w) (λ v k w. gives _ k w)
        goes (UnauthE t x) env k w = goes_then w _ _ (goes x env k w) (λ v k w. record { moves = opens k t v w })
        goes (ConE number tag xs) env k w = goes_then w _ _ (goes_all xs env k w) (λ vs k w. goes_limited P.format.limit P.types (NamedTy number) (ConV tag vs) k w)
        goes (ArithE op x y) env k w = goes_then w _ _ (goes x env k w) (λ u k w. goes_then w _ _ (goes y env k w) (λ v k w. goes_arith op _ _ k w))
        goes (CompareE op x y) env k w = goes_then w _ _ (goes x env k w) (λ u k w. goes_then w _ _ (goes y env k w) (λ v k w. gives _ k w))
        goes (TextCompareE op x y) env k w = goes_then w _ _ (goes x env k w) (λ u k w. goes_then w _ _ (goes y env k w) (λ v k w. gives _ k w))
        goes (CatE x y) env k w =
            goes_then w _ _ (goes x env k w) (λ u k w. goes_then w _ _ (goes y env k w) (λ v k w. goes_limited P.format.limit P.types TextTy (TextV (text_in u ++ text_in v)) k w))
        goes (LetE a x body) env k w = goes_then w _ _ (goes x env k w) (λ v k w. goes body _ k w)
        goes (IfE test a b) env k w = goes_then w _ _ (goes test env k w) (λ v k w. goes_choose (bool_in v) _ _ env k w (goes a env k w) (goes b env k w))
        goes (MatchE number x arms) env k w = goes_then w _ _ (goes x env k w) (λ v k w. goes_arm arms _ _ k w)
        goes (CallE f args) env k w = goes_then w _ _ (goes_all args env k w) (λ vs k w. callee_goes f vs k w)
        goes (OperateE op xs) env k w = goes_then w _ _ (goes_all xs env k w) (λ vs k w. goes_operate P.format.limit P.types op vs k w)

        goes_all : (xs : Expressions) (env : Values) (k : ℕ) (w : W) → To w (run_all P mode callee xs env k w)
        goes_all NoE env k w = gives _ k w
        goes_all (AndE x xs) env k w = goes_then w _ _ (goes x env k w) (λ v k w. goes_then w _ _ (goes_all xs env k w) (λ vs k w. gives _ k w))

        goes_arm : (arms : Arms) (tag : ℕ) (env : Values) (k : ℕ) (w : W) → To w (run_arm P mode callee arms tag env k w)
        goes_arm NoArm tag env k w = gives _ k w
        goes_arm (AndArm body arms) zero env k w = goes body env k w
        goes_arm (AndArm body arms) (suc tag) env k w = goes_arm arms tag env k w

    -- calls
    pub goes_call : (n f : ℕ) (vs : Values) (k : ℕ) (w : W) → To w (call P mode n f vs k w)
    goes_call zero f vs k w = ends _ k w
    goes_call (suc n) f vs zero w = ends _ zero w
    goes_call (suc n) f vs (suc k) w = goes (call P mode n) (goes_call n) (function_at P f).body vs k w
