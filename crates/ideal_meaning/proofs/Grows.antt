-- An ideal run only adds to what was opened.
use Rattle.std.proofs.Common.{◌≡◌, ℕ, zero, suc, Bool, true, false, List, [], ◌++◌, ℤ, pos, negsuc, int_div, int_rem, ◌+ℤ◌, ◌-ℤ◌, ◌*ℤ◌, refl, sym, ap, ◌∙◌, append_assoc, append-nil, if◌then◌else◌, nat_lt}
use Rattle.core_terms.specs.Types.{Ty, PairTy, NamedTy, TextTy, VecTy}
use Rattle.core_terms.specs.Values.{Value, Values, PairV, TextV, ConV, ItemsV, size, depth, int_fits}
use Rattle.core_terms.specs.Terms.{Expression, UnitE, BoolE, IntE, TextE, LocalE, PairE, FstE, SndE, NotE, LenE, AuthE, UnauthE, ConE, ArithE, CompareE, TextCompareE, CatE, LetE, IfE, MatchE, CallE, OperateE, Operation, VecFill, VecGet, VecPut, Expressions, NoE, AndE, Arms, NoArm, AndArm, Program, function_at}
use Rattle.core_terms.specs.declared.term.Arith.{Arith}
use Rattle.core_terms.specs.declared.term.Arith.TheVariants.{Add, Sub, Mul, Div, Rem}
use Rattle.core_terms.specs.Formats.{depth_limit}
use Rattle.ideal_meaning.specs.Run.{Run, Gives, Ends, then_run, exact, divided, arith_of, choose, limited, at_index, fill_of, get_of, put_of, operate, run, run_all, run_arm, call, bool_in, int_in, text_in, items_in, repeated, replaced, local, state_of}
use Rattle.ideal_meaning.specs.Ideal.{Opened, ideal_mode}

-- what was opened so far, s, stands at the front of what a run has opened
pub record Grows {A : Type 0} (s : List Opened) (r : Run ⊥ (List Opened) A) : Type 0 where
  pub added : List Opened
  pub is : state_of r ≡ s ++ added

-- a run that opens nothing
stays : {A : Type 0} (s : List Opened) (r : Run ⊥ (List Opened) A) → state_of r ≡ s → Grows s r
stays s r e = record { added = []; is = e ∙ sym (append-nil s) }

-- a run and what goes on behind it
pub grows_then : {A B : Type 0} (s : List Opened) (r : Run ⊥ (List Opened) A) (f : A → ℕ → List Opened → Run ⊥ (List Opened) B) → Grows s r → ((a : A) (k : ℕ) (t : List Opened) → Grows t (f a k t)) → Grows s (then_run r f)
grows_then s (Gives a k t) f g h =
    let later = h a k t in
    record { added = g.added ++ later.added; is = later.is ∙ ap (λ l. l ++ later.added) g.is ∙ append_assoc s g.added later.added }
grows_then s (Ends stop k t) f g h = record { added = g.added; is = g.is }

-- one of two runs
grows_if : {A : Type 0} (s : List Opened) (b : Bool) (x y : Run ⊥ (List Opened) A) → Grows s x → Grows s y → Grows s (if b then x else y)
grows_if s true x y g h = g
grows_if s false x y g h = h

-- an end, with or without a value
pub gives : {A : Type 0} (a : A) (k : ℕ) (s : List Opened) → Grows s (Gives a k s)
gives a k s = stays s (Gives a k s) refl

traps : {A : Type 0} (t : _) (k : ℕ) (s : List Opened) → Grows {A = A} s (Ends t k s)
traps t k s = stays s (Ends t k s) refl

-- arithmetic
grows_exact : (z : ℤ) (k : ℕ) (s : List Opened) → Grows s (exact z k s)
grows_exact z k s = grows_if s (int_fits z) _ _ (gives _ k s) (traps _ k s)

grows_divided : (z x y : ℤ) (k : ℕ) (s : List Opened) → Grows s (divided z x y k s)
grows_divided z x (pos zero) k s = traps _ k s
grows_divided z x (pos (suc n)) k s = grows_if s (int_fits (int_div x (pos (suc n)))) _ _ (gives _ k s) (traps _ k s)
grows_divided z x (negsuc n) k s = grows_if s (int_fits (int_div x (negsuc n))) _ _ (gives _ k s) (traps _ k s)

pub grows_arith : (op : Arith) (x y : ℤ) (k : ℕ) (s : List Opened) → Grows s (arith_of op x y k s)
grows_arith Add x y k s = grows_exact (x +ℤ y) k s
grows_arith Sub x y k s = grows_exact (x -ℤ y) k s
grows_arith Mul x y k s = grows_exact (x *ℤ y) k s
grows_arith Div x y k s = grows_divided (int_div x y) x y k s
grows_arith Rem x y k s = grows_divided (int_rem x y) x y k s

pub grows_choose : (b : Bool) (f g : Values → ℕ → List Opened → Run ⊥ (List Opened) Value) (env : Values) (k : ℕ) (s : List Opened) → Grows s (f env k s) → Grows s (g env k s) → Grows s (choose b f g env k s)
grows_choose true f g env k s h j = h
grows_choose false f g env k s h j = j

-- the element of an array
grows_index : (n : ℕ) (z : ℤ) (f : ℕ → ℕ → List Opened → Run ⊥ (List Opened) Value) (k : ℕ) (s : List Opened) → ((i : ℕ) → Grows s (f i k s)) → Grows s (at_index n z f k s)
grows_index n (pos i) f k s h = grows_if s (nat_lt i n) _ _ (h i) (traps _ k s)
grows_index n (negsuc i) f k s h = traps _ k s

pub grows_get : (n : ℕ) (vs : Values) (z : ℤ) (k : ℕ) (s : List Opened) → Grows s (get_of n vs z k s)
grows_get n vs z k s = grows_index n z (λ i k w. Gives (local vs i) k w) k s (λ i. gives _ k s)

module _ (P : Program) where
  -- a new value
  pub grows_limited : (t : Ty) (v : Value) (k : ℕ) (s : List Opened) → Grows s (limited P.format.limit P.types t v k s)
  grows_limited t v k s =
      grows_if s (nat_lt P.format.limit (size P.types t v)) _ _ (traps _ k s) (grows_if s (nat_lt depth_limit (depth P.types t v)) _ _ (traps _ k s) (gives v k s))

  -- arrays
  pub grows_fill : (n : ℕ) (t : Ty) (v : Value) (k : ℕ) (s : List Opened) → Grows s (fill_of P.format.limit P.types n t v k s)
  grows_fill n t v k s = grows_limited (VecTy n t) (ItemsV (repeated n v)) k s

  pub grows_put : (n : ℕ) (t : Ty) (vs : Values) (z : ℤ) (v : Value) (k : ℕ) (s : List Opened) → Grows s (put_of P.format.limit P.types n t vs z v k s)
  grows_put n t vs z v k s =
      grows_index n z (λ i k w. limited P.format.limit P.types (VecTy n t) (ItemsV (replaced vs i v)) k w) k s (λ i. grows_limited (VecTy n t) (ItemsV (replaced vs i v)) k s)

  -- an operation
  pub grows_operate : (op : Operation) (vs : Values) (k : ℕ) (s : List Opened) → Grows s (operate P.format.limit P.types op vs k s)
  grows_operate (VecFill n t) vs k s = grows_fill n t (local vs 0) k s
  grows_operate (VecGet n t) vs k s = grows_get n (items_in (local vs 0)) (int_in (local vs 1)) k s
  grows_operate (VecPut n t) vs k s = grows_put n t (items_in (local vs 0)) (int_in (local vs 1)) (local vs 2) k s

  module _ (callee : ℕ → Values → ℕ → List Opened → Run ⊥ (List Opened) Value) (callee_grows : (f : ℕ) (vs : Values) (k : ℕ) (s : List Opened) → Grows s (callee f vs k s)) where
    -- expressions, where the calls in them only add
    mutual
      pub grows : (e : Expression) (env : Values) (k : ℕ) (s : List Opened) → Grows s (run P ideal_mode callee e env k s)
      grows UnitE env k s = gives _ k s
      grows (BoolE b) env k s = gives _ k s
      grows (IntE z) env k s = gives _ k s
      grows (TextE bytes) env k s = gives _ k s
      grows (LocalE i) env k s = gives _ k s
      grows (PairE a b x y) env k s =
          grows_then s _ _ (grows x env k s) (λ u k s. grows_then s _ _ (grows y env k s) (λ v k s. grows_limited (PairTy a b) (PairV u v) k s))
      grows (FstE a b x) env k s = grows_then s _ _ (grows x env k s) (λ v k s. gives _ k s)
      grows (SndE a b x) env k s = grows_then s _ _ (grows x env k s) (λ v k s. gives _ k s)
      grows (NotE x) env k s = grows_then s _ _ (grows x env k s) (λ v k s. gives _ k s)
      grows (LenE x) env k s = grows_then s _ _ (grows x env k s) (λ v k s. gives _ k s)
      grows (AuthE t x) env k s = grows_then s _ _ (grows x env k s) (λ v k s. gives _ k s)
      grows (UnauthE t x) env k s = grows_then s _ _ (grows x env k s) (λ v k s. record { added = _; is = refl })
      grows (ConE number tag xs) env k s = grows_then s _ _ (grows_all xs env k s) (λ vs k s. grows_limited (NamedTy number) (ConV tag vs) k s)
      grows (ArithE op x y) env k s =
          grows_then s _ _ (grows x env k s) (λ u k s. grows_then s _ _ (grows y env k s) (λ v k s. grows_arith op _ _ k s))
      grows (CompareE op x y) env k s =
          grows_then s _ _ (grows x env k s) (λ u k s. grows_then s _ _ (grows y env k s) (λ v k s. gives _ k s))
      grows (TextCompareE op x y) env k s =
          grows_then s _ _ (grows x env k s) (λ u k s. grows_then s _ _ (grows y env k s) (λ v k s. gives _ k s))
      grows (CatE x y) env k s =
          grows_then s _ _ (grows x env k s) (λ u k s. grows_then s _ _ (grows y env k s) (λ v k s. grows_limited TextTy (TextV (text_in u ++ text_in v)) k s))
      grows (LetE a x body) env k s = grows_then s _ _ (grows x env k s) (λ v k s. grows body _ k s)
      grows (IfE test a b) env k s = grows_then s _ _ (grows test env k s) (λ v k s. grows_choose (bool_in v) _ _ env k s (grows a env k s) (grows b env k s))
      grows (MatchE number x arms) env k s = grows_then s _ _ (grows x env k s) (λ v k s. grows_arm arms _ _ k s)
      grows (CallE f args) env k s = grows_then s _ _ (grows_all args env k s) (λ vs k s. callee_grows f vs k s)
      grows (OperateE op xs) env k s = grows_then s _ _ (grows_all xs env k s) (λ vs k s. grows_operate op vs k s)

      pub grows_all : (xs : Expressions) (env : Values) (k : ℕ) (s : List Opened) → Grows s (run_all P ideal_mode callee xs env k s)
      grows_all NoE env k s = gives _ k s
      grows_all (AndE x xs) env k s =
          grows_then s _ _ (grows x env k s) (λ v k s. grows_then s _ _ (grows_all xs env k s) (λ vs k s. gives _ k s))

      pub grows_arm : (arms : Arms) (tag : ℕ) (env : Values) (k : ℕ) (s : List Opened) → Grows s (run_arm P ideal_mode callee arms tag env k s)
      grows_arm NoArm tag env k s = gives _ k s
      grows_arm (AndArm body arms) zero env k s = grows body env k s
      grows_arm (AndArm body arms) (suc tag) env k s = grows_arm arms tag env k s

  -- calls
  pub grows_call : (n f : ℕ) (vs : Values) (k : ℕ) (s : List Opened) → Grows s (call P ideal_mode n f vs k s)
  grows_call zero f vs k s = traps _ k s
  grows_call (suc n) f vs zero s = traps _ zero s
  grows_call (suc n) f vs (suc k) s = grows (call P ideal_mode n) (grows_call n) (function_at P f).body vs k s
