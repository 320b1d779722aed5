-- The bound on nested calls never matters where it isn't below the fuel, since no part of a run gives fuel back.
use Rattle.std.proofs.Common.{◌≡◌, ℕ, zero, suc, ◌≤◌, Bool, true, false, ◌++◌, ℤ, pos, negsuc, ◌+ℤ◌, ◌-ℤ◌, ◌*ℤ◌, int_div, int_rem, nat_lt, refl, ap, ◌∙◌, arith, if◌then◌else◌, le_refl}
use Rattle.core_terms.specs.Types.{Ty, PairTy, NamedTy, TextTy, VecTy, Table}
use Rattle.core_terms.specs.Formats.{depth_limit}
use Rattle.core_terms.specs.Values.{Value, TextV, PairV, ConV, ItemsV, Values, NoV, AndV, size, depth, int_fits}
use Rattle.core_terms.specs.Terms.{Expression, UnitE, BoolE, IntE, TextE, LocalE, PairE, FstE, SndE, NotE, LenE, AuthE, UnauthE, ConE, ArithE, CompareE, TextCompareE, CatE, LetE, IfE, MatchE, CallE, OperateE, Operation, VecFill, VecGet, VecPut, Expressions, NoE, AndE, Arms, NoArm, AndArm, Program, function_at}
use Rattle.core_terms.specs.declared.term.Arith.{Arith}
use Rattle.core_terms.specs.declared.term.Arith.TheVariants.{Add, Sub, Mul, Div, Rem}
use Rattle.ideal_meaning.specs.Run.{Run, Gives, Ends, Opening, Opens, Refuses, with_fuel, Mode, then_run, fuel_of, divided, arith_of, choose, limited, at_index, fill_of, get_of, put_of, operate, local, items_in, repeated, replaced, run, run_all, run_arm, call, bool_in, int_in, text_in, tag_in, fields_in, join}

module _ (C W : Type 0) where
  -- two runs are one, which leaves no more fuel than it was given
  record Alike {A : Type 0} (k : ℕ) (r s : Run C W A) : Type 0 where
    same : r ≡ s
    low : fuel_of r ≤ k

  then_alike : {A B : Type 0} (k : ℕ) (r s : Run C W A) (f g : A → ℕ → W → Run C W B) → Alike k r s
      → ((a : A) (m : ℕ) (w : W) → m ≤ k → Alike m (f a m w) (g a m w)) → Alike k (then_run r f) (then_run s g)
  then_alike k (Gives a m w) s f g h on =
      let le : m ≤ k = h.low in
      let j = on a m w le in
      record { same = j.same ∙ ap (λ s. then_run s g) h.same; low = omega (arith, j.low, le) }
  then_alike k (Ends stop m w) s f g h on = record { same = ap (λ s. then_run s g) h.same; low = h.low }

  self : {A : Type 0} (k : ℕ) (r : Run C W A) → fuel_of r ≤ k → Alike k r r
  self k r h = record { same = refl; low = h }

  if_low : {A : Type 0} (b : Bool) (k : ℕ) (r s : Run C W A) → fuel_of r ≤ k → fuel_of s ≤ k → fuel_of (if b then r else s) ≤ k
  if_low true k r s h j = h
  if_low false k r s h j = j

  divided_low : (z x y : ℤ) (k : ℕ) (w : W) → fuel_of (divided {C = C} z x y k w) ≤ k
  divided_low z x (pos zero) k w = le_refl k
  divided_low z x (pos (suc n)) k w = if_low (int_fits (int_div x (pos (suc n)))) k _ _ (le_refl k) (le_refl k)
  divided_low z x (negsuc n) k w = if_low (int_fits (int_div x (negsuc n))) k _ _ (le_refl k) (le_refl k)

  pub arith_low : (op : Arith) (x y : ℤ) (k : ℕ) (w : W) → fuel_of (arith_of {C = C} op x y k w) ≤ k
  arith_low Add x y k w = if_low (int_fits (x +ℤ y)) k _ _ (le_refl k) (le_refl k)
  arith_low Sub x y k w = if_low (int_fits (x -ℤ y)) k _ _ (le_refl k) (le_refl k)
  arith_low Mul x y k w = if_low (int_fits (x *ℤ y)) k _ _ (le_refl k) (le_refl k)
  arith_low Div x y k w = divided_low (int_div x y) x y k w
  arith_low Rem x y k w = divided_low (int_rem x y) x y k w

  choose_alike : (b : Bool) (f1 g1 f2 g2 : Values → ℕ → W → Run C W Value) (env : Values) (k : ℕ) (w : W)
      → Alike k (f1 env k w) (f2 env k w) → Alike k (g1 env k w) (g2 env k w) → Alike k (choose b f1 g1 env k w) (choose b f2 g2 env k w)
  choose_alike true f1 g1 f2 g2 env k w h j = h
  choose_alike false f1 g1 f2 g2 env k w h j = j

  pub with_fuel_low : (k : ℕ) (o : Opening C W) → fuel_of (with_fuel k o) ≤ k
  with_fuel_low k (Opens v w) = le_refl k
  with_fuel_low k (Refuses cause w) = le_refl k

  module _ (limit : ℕ) (types : Table) where
    pub limited_low : (t : Ty) (v : Value) (k : ℕ) (w : W) → fuel_of (limited {C = C} limit types t v k w) ≤ k
    limited_low t v k w =
        if_low (nat_lt limit (size types t v)) k _ _ (le_refl k) (if_low (nat_lt depth_limit (depth types t v)) k _ _ (le_refl k) (le_refl k))

    pub index_low : (n : ℕ) (z : ℤ) (f : ℕ → ℕ → W → Run C W Value) (k : ℕ) (w : W) → ((i : ℕ) → fuel_of (f i k w) ≤ k) → fuel_of (at_index n z f k w) ≤ k
    index_low n (pos i) f k w h = if_low (nat_lt i n) k _ _ (h i) (le_refl k)
    index_low n (negsuc i) f k w h = le_refl k

    pub fill_low : (n : ℕ) (t : Ty) (v : Value) (k : ℕ) (w : W) → fuel_of (fill_of {C = C} limit types n t v k w) ≤ k
    fill_low n t v k w = limited_low (VecTy n t) (ItemsV (repeated n v)) k w

    pub get_low : (n : ℕ) (vs : Values) (z : ℤ) (k : ℕ) (w : W) → fuel_of (get_of {C = C} n vs z k w) ≤ k
    get_low n vs z k w = index_low n z (λ i k w. Gives (local vs i) k w) k w (λ i. le_refl k)

    pub put_low : (n : ℕ) (t : Ty) (vs : Values) (z : ℤ) (v : Value) (k : ℕ) (w : W) → fuel_of (put_of {C = C} limit types n t vs z v k w) ≤ k
    put_low n t vs z v k w =
        index_low n z (λ i k w. limited limit types (VecTy n t) (ItemsV (replaced vs i v)) k w) k w (λ i. limited_low (VecTy n t) (ItemsV (replaced vs i v)) k w)

    pub operate_low : (op : Operation) (vs : Values) (k : ℕ) (w : W) → fuel_of (operate {C = C} limit types op vs k w) ≤ k
    operate_low (VecFill n t) vs k w = fill_low n t (local vs 0) k w
    operate_low (VecGet n t) vs k w = get_low n (items_in (local vs 0)) (int_in (local vs 1)) k w
    operate_low (VecPut n t) vs k w = put_low n t (items_in (local vs 0)) (int_in (local vs 1)) (local vs 2) k w

  module _ (P : Program) (mode : Mode C W) where
    module _ (c d : ℕ → Values → ℕ → W → Run C W Value) (most : ℕ) (alike : (f : ℕ) (vs : Values) (k : ℕ) (w : W) → k ≤ most → Alike k (c f vs k w) (d f vs k w)) where
      mutual
        runs : (e : Expression) (env : Values) (k : ℕ) (w : W) → k ≤ most → Alike k (run P mode c e env k w) (run P mode d e env k w)
        runs UnitE env k w h = self k _ (le_refl k)
        runs (BoolE b) env k w h = self k _ (le_refl k)
        runs (IntE z) env k w h = self k _ (le_refl k)
        runs (TextE bytes) env k w h = self k _ (le_refl k)
        runs (LocalE i) env k w h = self k _ (le_refl k)
        runs (PairE a b x y) env k w h =
            then_alike k _ _ _ _ (runs x env k w h) (λ u m w l. then_alike m _ _ _ _ (runs y env m w (omega (arith, h, l))) (λ v m w l. self m _ (limited_low P.format.limit P.types (PairTy a b) (PairV u v) m w)))
        runs (FstE a b x) env k w h = then_alike k _ _ _ _ (runs x env k w h) (λ u m w l. self m _ (le_refl m))
        runs (SndE a b x) env k w h = then_alike k _ _ _ _ (runs x env k w h) (λ u m w l. self m _ (le_refl m))
        runs (NotE x) env k w h = then_alike k _ _ _ _ (runs x env k w h) (λ u m w l. self m _ (le_refl m))
        runs (LenE x) env k w h = then_alike k _ _ _ _ (runs x env k w h) (λ u m w l. self m _ (le_refl m))
        runs (AuthE t x) env k w h = then_alike k _ _ _ _ (runs x env k w h) (λ u m w l. self m _ (le_refl m))
        runs (UnauthE t x) env k w h = then_alike k _ _ _ _ (runs x env k w h) (λ u m w l. self m _ (with_fuel_low m (mode.unauth t u w)))
        runs (ConE number tag xs) env k w h = then_alike k _ _ _ _ (all_runs xs env k w h) (λ vs m w l. self m _ (limited_low P.format.limit P.types (NamedTy number) (ConV tag vs) m w))
        runs (ArithE op x y) env k w h =
            then_alike k _ _ _ _ (runs x env k w h) (λ u m w l. then_alike m _ _ _ _ (runs y env m w (omega (arith, h, l))) (λ v m w l. self m _ (arith_low op (int_in u) (int_in v) m w)))
        runs (CompareE op x y) env k w h =
            then_alike k _ _ _ _ (runs x env k w h) (λ u m w l. then_alike m _ _ _ _ (runs y env m w (omega (arith, h, l))) (λ v m w l. self m _ (le_refl m)))
        runs (TextCompareE op x y) env k w h =
            then_alike k _ _ _ _ (runs x env k w h) (λ u m w l. then_alike m _ _ _ _ (runs y env m w (omega (arith, h, l))) (λ v m w l. self m _ (le_refl m)))
        runs (CatE x y) env k w h =
            then_alike k _ _ _ _ (runs x env k w h) (λ u m w l. then_alike m _ _ _ _ (runs y env m w (omega (arith, h, l)))
            (λ v m w l. self m _ (limited_low P.format.limit P.types TextTy (TextV (text_in u ++ text_in v)) m w)))
        runs (LetE a x body) env k w h = then_alike k _ _ _ _ (runs x env k w h) (λ u m w l. runs body (join env (AndV u NoV)) m w (omega (arith, h, l)))
        runs (IfE test x y) env k w h =
            then_alike k _ _ _ _ (runs test env k w h) (λ u m w l. choose_alike (bool_in u) (run P mode c x) (run P mode c y) (run P mode d x) (run P mode d y) env m w
            (runs x env m w (omega (arith, h, l))) (runs y env m w (omega (arith, h, l))))
        runs (MatchE number x arms) env k w h = then_alike k _ _ _ _ (runs x env k w h) (λ u m w l. arm_runs arms (tag_in u) (join env (fields_in u)) m w (omega (arith, h, l)))
        runs (CallE f args) env k w h = then_alike k _ _ _ _ (all_runs args env k w h) (λ vs m w l. alike f vs m w (omega (arith, h, l)))
        runs (OperateE op xs) env k w h = then_alike k _ _ _ _ (all_runs xs env k w h) (λ vs m w l. self m _ (operate_low P.format.limit P.types op vs m w))

        all_runs : (xs : Expressions) (env : Values) (k : ℕ) (w : W) → k ≤ most → Alike k (run_all P mode c xs env k w) (run_all P mode d xs env k w)
        all_runs NoE env k w h = self k _ (le_refl k)
        all_runs (AndE x xs) env k w h =
            then_alike k _ _ _ _ (runs x env k w h) (λ u m w l. then_alike m _ _ _ _ (all_runs xs env m w (omega (arith, h, l))) (λ v m w l. self m _ (le_refl m)))

        arm_runs : (arms : Arms) (tag : ℕ) (env : Values) (k : ℕ) (w : W) → k ≤ most → Alike k (run_arm P mode c arms tag env k w) (run_arm P mode d arms tag env k w)
        arm_runs NoArm tag env k w h = self k _ (le_refl k)
        arm_runs (AndArm x arms) zero env k w h = runs x env k w h
        arm_runs (AndArm x arms) (suc tag) env k w h = arm_runs arms tag env k w h

    calls_alike : (n m f : ℕ) (vs : Values) (k : ℕ) (w : W) → k ≤ n → k ≤ m → Alike k (call P mode n f vs k w) (call P mode m f vs k w)
    calls_alike zero zero f vs k w h j = self k _ (le_refl k)
    calls_alike zero (suc m) f vs zero w h j = self 0 _ (le_refl 0)
    calls_alike zero (suc m) f vs (suc k) w h j = absurd (omega arith)
    calls_alike (suc n) zero f vs zero w h j = self 0 _ (le_refl 0)
    calls_alike (suc n) zero f vs (suc k) w h j = absurd (omega arith)
    calls_alike (suc n) (suc m) f vs zero w h j = self 0 _ (le_refl 0)
    calls_alike (suc n) (suc m) f vs (suc k) w h j =
        let r = runs (call P mode n) (call P mode m) k (λ f vs i w l. calls_alike n m f vs i w (omega (arith, h, l)) (omega (arith, j, l))) (function_at P f).body vs k w (le_refl k) in
        record { same = r.same; low = omega (arith, r.low) }

    -- any bound that isn't below the fuel gives the same run
    pub written_bound : (n f : ℕ) (vs : Values) (k : ℕ) (w : W) → k ≤ n → call P mode n f vs k w ≡ call P mode k f vs k w
    written_bound n f vs k w h = (calls_alike n k f vs k w h (le_refl k)).same
