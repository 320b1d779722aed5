-- The run of a call in two verifiers: the checked one over answers that are given before, and the one over a store. Whatever is claimed of
-- both, where it holds of each step by which a run goes on, holds of their runs: by induction on the expression or on the code, where it holds
-- of the calls in it.
use Rattle.std.proofs.Common.{◌≡◌, ℕ, zero, suc, Bool, true, false, not, List, [], ◌++◌, Option, Some, None, refl, length, ℤ, pos, negsuc, ◌+ℤ◌, ◌-ℤ◌, ◌*ℤ◌, int_div, int_rem, nat_lt, if◌then◌else◌}
use Rattle.core_terms.specs.Types.{Ty, Table, TextTy, PairTy, NamedTy, VecTy}
use Rattle.core_terms.specs.Formats.{Hash, depth_limit}
use Rattle.core_terms.specs.Values.{Value, UnitV, BoolV, IntV, TextV, PairV, ConV, ItemsV, Values, NoV, AndV, int_fits, size, depth}
use Rattle.core_terms.specs.Terms.{Expression, UnitE, BoolE, IntE, TextE, LocalE, PairE, FstE, SndE, NotE, LenE, AuthE, UnauthE, ConE, ArithE, CompareE, TextCompareE, CatE, LetE, IfE, MatchE, CallE, OperateE, Operation, VecFill, VecGet, VecPut, Expressions, NoE, AndE, Arms, NoArm, AndArm, Program, body_of, function_at}
use Rattle.core_terms.specs.Instructions.{Instruction}
use Rattle.core_terms.specs.Bodies.{Body, code_at}
use Rattle.core_terms.specs.declared.term.Arith.{Arith}
use Rattle.core_terms.specs.declared.term.Arith.TheVariants.{Add, Sub, Mul, Div, Rem}
use Rattle.ideal_meaning.specs.Run.{Trap, Overflow, DivZero, TooBig, TooDeep, Index, Traps, IsOut, Run, Gives, Ends, then_run, with_fuel, local, join, first_in, second_in, bool_in, int_in, text_in, tag_in, fields_in, items_in, repeated, replaced, divided, arith_of, compare_of, text_compare_of, choose, limited, at_index, operate, run, run_all, run_arm, call}
use Rattle.ideal_meaning.specs.Execution.{Coded, Ran, Stuck, then_code, then_coded, tie, call_code}
use Rattle.ideal_meaning.specs.Called.{ran, call_as, call_from}
use Rattle.ideal_meaning.specs.Checked.{Cause, Taking, checked_mode_as}
use Rattle.ideal_meaning.specs.Fetched.{Got}
use Rattle.ideal_meaning.specs.PieceForms.{as_whole}
use Rattle.ideal_meaning.proofs.RelatedCode.{related}
use Rattle.fetched_verdicts.specs.Verdicts.{mode_over}

-- a step of the one verifier, in each state, and of the other
abbrev pub RunOf : Type 0 → Type 0
RunOf A = Run Cause Taking A

abbrev pub CodeOf : Type 0
CodeOf = Coded Cause Taking

module _ (hash : Hash) (P : Program) (get : List ℕ → Got)
    (Claim : (A : Type 0) → Taking → (Taking → RunOf A) → RunOf A → Type 0)
    (gives : (A : Type 0) (a : A) (k : ℕ) (s : Taking) → Claim A s (λ w. Gives a k w) (Gives a k s))
    (traps : (A : Type 0) (trap : Trap) (k : ℕ) (s : Taking) → Claim A s (λ w. Ends (Traps trap) k w) (Ends (Traps trap) k s))
    (out : (A : Type 0) (k : ℕ) (s : Taking) → Claim A s (λ w. Ends IsOut k w) (Ends IsOut k s))
    (goes_on : (A B : Type 0) (s : Taking) (first : Taking → RunOf A) (other : RunOf A) (next next' : A → ℕ → Taking → RunOf B)
    → Claim A s first other → ((a : A) (k : ℕ) (s : Taking) → Claim B s (next a k) (next' a k s))
    → Claim B s (λ w. then_run (first w) next) (then_run other next'))
    (opens : (t : Ty) (v : Value) (k : ℕ) (s : Taking)
    → Claim Value s (λ w. with_fuel k ((checked_mode_as hash P (as_whole hash P)).unauth t v w)) (with_fuel k ((mode_over hash P get).unauth t v s))) where
  by_test : (A : Type 0) (b : Bool) (s : Taking) (f g : Taking → RunOf A) (x y : RunOf A) → Claim A s f x → Claim A s g y → Claim A s (λ w. if b then f w else g w) (if b then x else y)
  by_test A true s f g x y h j = h
  by_test A false s f g x y h j = j

  by_choice : (b : Bool) (f g f' g' : Values → ℕ → Taking → RunOf Value) (env : Values) (k : ℕ) (s : Taking) → Claim Value s (f env k) (f' env k s) → Claim Value s (g env k) (g' env k s)
      → Claim Value s (λ w. choose b f g env k w) (choose b f' g' env k s)
  by_choice true f g f' g' env k s h j = h
  by_choice false f g f' g' env k s h j = j

  -- new values
  within : (limit : ℕ) (types : Table) (t : Ty) (v : Value) (k : ℕ) (s : Taking) → Claim Value s (λ w. limited limit types t v k w) (limited limit types t v k s)
  within limit types t v k s =
      by_test Value (nat_lt limit (size types t v)) s (λ w. Ends (Traps TooBig) k w) (λ w. if nat_lt depth_limit (depth types t v) then Ends (Traps TooDeep) k w else Gives v k w) _ _
      (traps Value TooBig k s)
      (by_test Value (nat_lt depth_limit (depth types t v)) s (λ w. Ends (Traps TooDeep) k w) (λ w. Gives v k w) _ _ (traps Value TooDeep k s) (gives Value v k s))

  -- arithmetic
  fitting : (b : Bool) (z : ℤ) (k : ℕ) (s : Taking)
      → Claim Value s (λ w. if b then Gives (IntV z) k w else Ends (Traps Overflow) k w) (if b then Gives (IntV z) k s else Ends (Traps Overflow) k s)
  fitting b z k s = by_test Value b s (λ w. Gives (IntV z) k w) (λ w. Ends (Traps Overflow) k w) _ _ (gives Value (IntV z) k s) (traps Value Overflow k s)

  dividing : (z x d : ℤ) (k : ℕ) (s : Taking) → Claim Value s (λ w. divided z x d k w) (divided z x d k s)
  dividing z x (pos zero) k s = traps Value DivZero k s
  dividing z x (pos (suc n)) k s = fitting (int_fits (int_div x (pos (suc n)))) z k s
  dividing z x (negsuc n) k s = fitting (int_fits (int_div x (negsuc n))) z k s

  computing : (op : Arith) (x d : ℤ) (k : ℕ) (s : Taking) → Claim Value s (λ w. arith_of op x d k w) (arith_of op x d k s)
  computing Add x d k s = fitting (int_fits (x +ℤ d)) (x +ℤ d) k s
  computing Sub x d k s = fitting (int_fits (x -ℤ d)) (x -ℤ d) k s
  computing Mul x d k s = fitting (int_fits (x *ℤ d)) (x *ℤ d) k s
  computing Div x d k s = dividing (int_div x d) x d k s
  computing Rem x d k s = dividing (int_rem x d) x d k s

  -- operations
  indexed : (n : ℕ) (z : ℤ) (f f' : ℕ → ℕ → Taking → RunOf Value) (k : ℕ) (s : Taking) → ((i : ℕ) → Claim Value s (f i k) (f' i k s)) → Claim Value s (λ w. at_index n z f k w) (at_index n z f' k s)
  indexed n (pos i) f f' k s h = by_test Value (nat_lt i n) s (f i k) (λ w. Ends (Traps Index) k w) _ _ (h i) (traps Value Index k s)
  indexed n (negsuc i) f f' k s h = traps Value Index k s

  operating : (limit : ℕ) (types : Table) (op : Operation) (vs : Values) (k : ℕ) (s : Taking) → Claim Value s (λ w. operate limit types op vs k w) (operate limit types op vs k s)
  operating limit types (VecFill n t) vs k s = within limit types (VecTy n t) (ItemsV (repeated n (local vs 0))) k s
  operating limit types (VecGet n t) vs k s =
      indexed n (int_in (local vs 1)) (λ i k w. Gives (local (items_in (local vs 0)) i) k w) (λ i k w. Gives (local (items_in (local vs 0)) i) k w) k s (λ i. gives Value (local (items_in (local vs 0)) i) k s)
  operating limit types (VecPut n t) vs k s =
      indexed n (int_in (local vs 1)) (λ i k w. limited limit types (VecTy n t) (ItemsV (replaced (items_in (local vs 0)) i (local vs 2))) k w)
      (λ i k w. limited limit types (VecTy n t) (ItemsV (replaced (items_in (local vs 0)) i (local vs 2))) k w) k s
      (λ i. within limit types (VecTy n t) (ItemsV (replaced (items_in (local vs 0)) i (local vs 2))) k s)

  -- expressions
  module _ (called called' : ℕ → Values → ℕ → Taking → RunOf Value) (calls : (f : ℕ) (vs : Values) (k : ℕ) (s : Taking) → Claim Value s (called f vs k) (called' f vs k s)) where
    abbrev checked_of : Expression → Values → ℕ → Taking → RunOf Value
    checked_of e env k w = run P (checked_mode_as hash P (as_whole hash P)) called e env k w

    abbrev over_of : Expression → Values → ℕ → Taking → RunOf Value
    over_of e env k w = run P (mode_over hash P get) called' e env k w

    abbrev all_checked : Expressions → Values → ℕ → Taking → RunOf Values
    all_checked es env k w = run_all P (checked_mode_as hash P (as_whole hash P)) called es env k w

    abbrev all_over : Expressions → Values → ℕ → Taking → RunOf Values
    all_over es env k w = run_all P (mode_over hash P get) called' es env k w

    -- behind a value, behind two, and behind values
    one : (x : Expression) (env : Values) (next next' : Value → ℕ → Taking → RunOf Value) (k : ℕ) (s : Taking) → Claim Value s (checked_of x env k) (over_of x env k s)
        → ((v : Value) (k : ℕ) (s : Taking) → Claim Value s (next v k) (next' v k s)) → Claim Value s (λ w. then_run (checked_of x env k w) next) (then_run (over_of x env k s) next')
    one x env next next' k s h j = goes_on Value Value s (checked_of x env k) (over_of x env k s) next next' h j

    many : (xs : Expressions) (env : Values) (next next' : Values → ℕ → Taking → RunOf Value) (k : ℕ) (s : Taking) → Claim Values s (all_checked xs env k) (all_over xs env k s)
        → ((vs : Values) (k : ℕ) (s : Taking) → Claim Value s (next vs k) (next' vs k s)) → Claim Value s (λ w. then_run (all_checked xs env k w) next) (then_run (all_over xs env k s) next')
    many xs env next next' k s h j = goes_on Values Value s (all_checked xs env k) (all_over xs env k s) next next' h j

    two : (x y : Expression) (env : Values) (next next' : Value → Value → ℕ → Taking → RunOf Value) (k : ℕ) (s : Taking) → Claim Value s (checked_of x env k) (over_of x env k s)
        → ((k : ℕ) (s : Taking) → Claim Value s (checked_of y env k) (over_of y env k s))
        → ((u v : Value) (k : ℕ) (s : Taking) → Claim Value s (next u v k) (next' u v k s))
        → Claim Value s (λ w. then_run (checked_of x env k w) (λ u k w. then_run (checked_of y env k w) (next u))) (then_run (over_of x env k s) (λ u k w. then_run (over_of y env k w) (next' u)))
    two x y env next next' k s h j g =
        one x env (λ u k w. then_run (checked_of y env k w) (next u)) (λ u k w. then_run (over_of y env k w) (next' u)) k s h
        (λ u k s. one y env (next u) (next' u) k s (j k s) (g u))

    mutual
      same_run : (e : Expression) (env : Values) (k : ℕ) (s : Taking) → Claim Value s (checked_of e env k) (over_of e env k s)
      same_run UnitE env k s = gives Value UnitV k s
      same_run (BoolE b) env k s = gives Value (BoolV b) k s
      same_run (IntE z) env k s = gives Value (IntV z) k s
      same_run (TextE bytes) env k s = gives Value (TextV bytes) k s
      same_run (LocalE i) env k s = gives Value (local env i) k s
      same_run (PairE a b x y) env k s =
          two x y env (λ u v k w. limited P.format.limit P.types (PairTy a b) (PairV u v) k w) (λ u v k w. limited P.format.limit P.types (PairTy a b) (PairV u v) k w) k s
          (same_run x env k s) (λ k s. same_run y env k s) (λ u v k s. within P.format.limit P.types (PairTy a b) (PairV u v) k s)
      same_run (FstE a b x) env k s = one x env (λ v k w. Gives (first_in v) k w) (λ v k w. Gives (first_in v) k w) k s (same_run x env k s) (λ v k s. gives Value (first_in v) k s)
      same_run (SndE a b x) env k s = one x env (λ v k w. Gives (second_in v) k w) (λ v k w. Gives (second_in v) k w) k s (same_run x env k s) (λ v k s. gives Value (second_in v) k s)
      same_run (NotE x) env k s =
          one x env (λ v k w. Gives (BoolV (not (bool_in v))) k w) (λ v k w. Gives (BoolV (not (bool_in v))) k w) k s (same_run x env k s) (λ v k s. gives Value (BoolV (not (bool_in v))) k s)
      same_run (LenE x) env k s =
          one x env (λ v k w. Gives (IntV (pos (length (text_in v)))) k w) (λ v k w. Gives (IntV (pos (length (text_in v)))) k w) k s (same_run x env k s)
          (λ v k s. gives Value (IntV (pos (length (text_in v)))) k s)
      same_run (AuthE t x) env k s =
          one x env (λ v k w. Gives ((checked_mode_as hash P (as_whole hash P)).auth t v) k w) (λ v k w. Gives ((mode_over hash P get).auth t v) k w) k s (same_run x env k s)
          (λ v k s. gives Value ((mode_over hash P get).auth t v) k s)
      same_run (UnauthE t x) env k s =
          one x env (λ v k w. with_fuel k ((checked_mode_as hash P (as_whole hash P)).unauth t v w)) (λ v k w. with_fuel k ((mode_over hash P get).unauth t v w)) k s (same_run x env k s)
          (λ v k s. opens t v k s)
      same_run (ConE number tag xs) env k s =
          many xs env (λ vs k w. limited P.format.limit P.types (NamedTy number) (ConV tag vs) k w) (λ vs k w. limited P.format.limit P.types (NamedTy number) (ConV tag vs) k w) k s
          (all_same xs env k s) (λ vs k s. within P.format.limit P.types (NamedTy number) (ConV tag vs) k s)
      same_run (ArithE op x y) env k s =
          two x y env (λ u v k w. arith_of op (int_in u) (int_in v) k w) (λ u v k w. arith_of op (int_in u) (int_in v) k w) k s (same_run x env k s) (λ k s. same_run y env k s)
          (λ u v k s. computing op (int_in u) (int_in v) k s)
      same_run (CompareE op x y) env k s =
          two x y env (λ u v k w. Gives (BoolV (compare_of op (int_in u) (int_in v))) k w) (λ u v k w. Gives (BoolV (compare_of op (int_in u) (int_in v))) k w) k s
          (same_run x env k s) (λ k s. same_run y env k s) (λ u v k s. gives Value (BoolV (compare_of op (int_in u) (int_in v))) k s)
      same_run (TextCompareE op x y) env k s =
          two x y env (λ u v k w. Gives (BoolV (text_compare_of op (text_in u) (text_in v))) k w) (λ u v k w. Gives (BoolV (text_compare_of op (text_in u) (text_in v))) k w) k s
          (same_run x env k s) (λ k s. same_run y env k s) (λ u v k s. gives Value (BoolV (text_compare_of op (text_in u) (text_in v))) k s)
      same_run (CatE x y) env k s =
          two x y env (λ u v k w. limited P.format.limit P.types TextTy (TextV (text_in u ++ text_in v)) k w) (λ u v k w. limited P.format.limit P.types TextTy (TextV (text_in u ++ text_in v)) k w) k s
          (same_run x env k s) (λ k s. same_run y env k s) (λ u v k s. within P.format.limit P.types TextTy (TextV (text_in u ++ text_in v)) k s)
      same_run (LetE a x body) env k s =
          one x env (λ v k w. checked_of body (join env (AndV v NoV)) k w) (λ v k w. over_of body (join env (AndV v NoV)) k w) k s (same_run x env k s)
          (λ v k s. same_run body (join env (AndV v NoV)) k s)
      same_run (IfE test first other) env k s =
          one test env (λ v k w. choose (bool_in v) (checked_of first) (checked_of other) env k w) (λ v k w. choose (bool_in v) (over_of first) (over_of other) env k w) k s (same_run test env k s)
          (λ v k s. by_choice (bool_in v) (checked_of first) (checked_of other) (over_of first) (over_of other) env k s (same_run first env k s) (same_run other env k s))
      same_run (MatchE number x arms) env k s =
          one x env (λ v k w. run_arm P (checked_mode_as hash P (as_whole hash P)) called arms (tag_in v) (join env (fields_in v)) k w)
          (λ v k w. run_arm P (mode_over hash P get) called' arms (tag_in v) (join env (fields_in v)) k w) k s (same_run x env k s) (λ v k s. same_arm arms (tag_in v) (join env (fields_in v)) k s)
      same_run (CallE f args) env k s = many args env (λ vs k w. called f vs k w) (λ vs k w. called' f vs k w) k s (all_same args env k s) (λ vs k s. calls f vs k s)
      same_run (OperateE op xs) env k s =
          many xs env (λ vs k w. operate P.format.limit P.types op vs k w) (λ vs k w. operate P.format.limit P.types op vs k w) k s (all_same xs env k s)
          (λ vs k s. operating P.format.limit P.types op vs k s)

      all_same : (xs : Expressions) (env : Values) (k : ℕ) (s : Taking) → Claim Values s (all_checked xs env k) (all_over xs env k s)
      all_same NoE env k s = gives Values NoV k s
      all_same (AndE x xs) env k s =
          goes_on Value Values s (checked_of x env k) (over_of x env k s) (λ v k w. then_run (all_checked xs env k w) (λ vs k w. Gives (AndV v vs) k w))
          (λ v k w. then_run (all_over xs env k w) (λ vs k w. Gives (AndV v vs) k w)) (same_run x env k s)
          (λ v k s. goes_on Values Values s (all_checked xs env k) (all_over xs env k s) (λ vs k w. Gives (AndV v vs) k w) (λ vs k w. Gives (AndV v vs) k w) (all_same xs env k s)
          (λ vs k s. gives Values (AndV v vs) k s))

      same_arm : (arms : Arms) (tag : ℕ) (env : Values) (k : ℕ) (s : Taking)
          → Claim Value s (run_arm P (checked_mode_as hash P (as_whole hash P)) called arms tag env k) (run_arm P (mode_over hash P get) called' arms tag env k s)
      same_arm NoArm tag env k s = gives Value UnitV k s
      same_arm (AndArm body arms) zero env k s = same_run body env k s
      same_arm (AndArm body arms) (suc tag) env k s = same_arm arms tag env k s

  -- calls of written functions
  same_calls : (nesting f : ℕ) (args : Values) (k : ℕ) (s : Taking) → Claim Value s (call P (checked_mode_as hash P (as_whole hash P)) nesting f args k) (call P (mode_over hash P get) nesting f args k s)
  same_calls zero f args k s = out Value k s
  same_calls (suc nesting) f args zero s = out Value zero s
  same_calls (suc nesting) f args (suc k) s =
      same_run (call P (checked_mode_as hash P (as_whole hash P)) nesting) (call P (mode_over hash P get) nesting) (λ f args k s. same_calls nesting f args k s) (function_at P f).body args k s

  -- Code, where something is claimed of what is stuck too
  module _ (ClaimCode : Taking → (Taking → CodeOf) → CodeOf → Type 0) (stuck : (s : Taking) → ClaimCode s (λ w. Stuck) Stuck)
      (given : (v : Value) (k : ℕ) (s : Taking) → ClaimCode s (λ w. Ran (Gives v k w)) (Ran (Gives v k s)))
      (out_code : (k : ℕ) (s : Taking) → ClaimCode s (λ w. Ran (Ends IsOut k w)) (Ran (Ends IsOut k s)))
      (behind : (s : Taking) (first : Taking → RunOf Value) (other : RunOf Value) (next next' : Value → ℕ → Taking → CodeOf)
      → Claim Value s first other → ((v : Value) (k : ℕ) (s : Taking) → ClaimCode s (next v k) (next' v k s)) → ClaimCode s (λ w. then_code (first w) next) (then_code other next'))
      (behind_code : (s : Taking) (first : Taking → CodeOf) (other : CodeOf) (next next' : Value → ℕ → Taking → CodeOf)
      → ClaimCode s first other → ((v : Value) (k : ℕ) (s : Taking) → ClaimCode s (next v k) (next' v k s)) → ClaimCode s (λ w. then_coded (first w) next) (then_coded other next'))
      (f : ℕ) (args : Values) (k : ℕ)
      (as_run : (codes : List (List Instruction)) → P.code ≡ Some codes → (s : Taking)
      → ClaimCode s (call_code (body_of P codes) (checked_mode_as hash P (as_whole hash P)) k f args k) (call_code (body_of P codes) (mode_over hash P get) k f args k s)
      → Claim Value s (λ w. ran k w (call_code (body_of P codes) (checked_mode_as hash P (as_whole hash P)) k f args k w)) (ran k s (call_code (body_of P codes) (mode_over hash P get) k f args k s))) where
    abbrev Runs : (ℕ → Taking → RunOf Value) → (ℕ → Taking → RunOf Value) → Type 0
    Runs r q = (k : ℕ) (s : Taking) → Claim Value s (r k) (q k s)

    abbrev Codes : (ℕ → Taking → CodeOf) → (ℕ → Taking → CodeOf) → Type 0
    Codes c d = (k : ℕ) (s : Taking) → ClaimCode s (c k) (d k s)

    same_code : (B : Body) (nesting f : ℕ) (args : Values) → Codes (call_code B (checked_mode_as hash P (as_whole hash P)) nesting f args) (call_code B (mode_over hash P get) nesting f args)
    same_code B zero f args k s = out_code k s
    same_code B (suc nesting) f args zero s = out_code zero s
    same_code B (suc nesting) f args (suc k) s =
        related Cause Taking Cause Taking Runs Codes (λ v k s. gives Value v k s) (λ trap k s. traps Value trap k s) (λ k s. stuck s) given
        (λ r q f g runs on k s. behind s (r k) (q k s) f g (runs k s) on) (λ c d f g codes on k s. behind_code s (c k) (d k s) f g (codes k s) on)
        B (checked_mode_as hash P (as_whole hash P)) (mode_over hash P get) (λ t v. refl) opens
        (call_code B (checked_mode_as hash P (as_whole hash P)) nesting) (call_code B (mode_over hash P get) nesting) (same_code B nesting)
        (code_at B f).code 0 (tie (code_at B f).parameters args) [] k s

    -- a call of a program, written or compiled
    pub same_calls_from : (s : Taking) → Claim Value s (call_from P (checked_mode_as hash P (as_whole hash P)) f args k) (call_from P (mode_over hash P get) f args k s)
    same_calls_from s = by P.code refl
      where
        by : (o : Option (List (List Instruction))) → P.code ≡ o → Claim Value s (call_as P o (checked_mode_as hash P (as_whole hash P)) k f args k) (call_as P o (mode_over hash P get) k f args k s)
        by None is = same_calls k f args k s
        by (Some codes) is = as_run codes is s (same_code (body_of P codes) k f args k s)
