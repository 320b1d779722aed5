-- The rules of the ideal meaning: nearly all hold as the definitions compute.
use Rattle.std.proofs.Common.{◌≡◌, ℕ, zero, suc, Bool, true, false, pos, negsuc, ℤ, List, ◌∙◌, int_div, int_rem, if◌then◌else◌, refl}
use Rattle.core_terms.specs.Values.{Value, ItemsV, Values, NoV, AndV}
use Rattle.core_terms.specs.Types.{VecTy}
use Rattle.core_terms.specs.Terms.{Expression, NoE, AndE, VecGet, VecPut, VecFill, Program}
use Rattle.core_terms.specs.declared.term.Arith.{Arith}
use Rattle.core_terms.specs.declared.term.Arith.TheVariants.{Div, Rem}
use Rattle.ideal_meaning.specs.Run.{Gives, Ends, IsOut, then_run, choose, bool_in, int_in, items_in, replaced, local, arith_of, divided, at_index, operate, call}
use Rattle.ideal_meaning.specs.Ideal.{Opened, ideal_mode}
use Rattle.ideal_meaning.specs.Table.{IdealTable, Evaluation, eval, eval_all, divides, indexed, made}

-- a run goes on alike where the ways to go on are alike
then_alike : {A B : Type 0} (r : Evaluation A) (f g : A → ℕ → List Opened → Evaluation B)
    → ((a : A) (k : ℕ) (s : List Opened) → f a k s ≡ g a k s) → then_run r f ≡ then_run r g
then_alike (Gives a k s) f g h = h a k s
then_alike (Ends stop k s) f g h = refl

-- a quotient or remainder as the table says it
divided_is : (z x y : ℤ) (k : ℕ) (s : List Opened) → divided z x y k s ≡ divides z x y k s
divided_is z x (pos zero) k s = refl
divided_is z x (pos (suc n)) k s = refl
divided_is z x (negsuc n) k s = refl

-- an operation whose results are the same at all ints is the same on two operands
operation_is : (P : Program) (n : ℕ) (op : Arith) (of : ℤ → ℤ → ℕ → List Opened → Evaluation Value) (x y : Expression) (env : Values) (k : ℕ) (s : List Opened)
    → ((a b : ℤ) (k : ℕ) (s : List Opened) → arith_of op a b k s ≡ of a b k s)
    → then_run (eval P n x env k s) (λ u k s. then_run (eval P n y env k s) (λ v k s. arith_of op (int_in u) (int_in v) k s))
    ≡ then_run (eval P n x env k s) (λ u k s. then_run (eval P n y env k s) (λ v k s. of (int_in u) (int_in v) k s))
operation_is P n op of x y env k s h =
    then_alike (eval P n x env k s) _ _ (λ u k s. then_alike (eval P n y env k s) _ _ (λ v k s. h (int_in u) (int_in v) k s))

-- what goes on behind a run may be said in one or in two steps
then_assoc : {A B D : Type 0} (r : Evaluation A) (f : A → ℕ → List Opened → Evaluation B) (g : B → ℕ → List Opened → Evaluation D)
    → then_run (then_run r f) g ≡ then_run r (λ a k s. then_run (f a k s) g)
then_assoc (Gives a k s) f g = refl
then_assoc (Ends stop k s) f g = refl

-- operands, one behind the other
on_one : (P : Program) (n : ℕ) (x : Expression) (go : Values → ℕ → List Opened → Evaluation Value) (env : Values) (k : ℕ) (s : List Opened)
    → then_run (eval_all P n (AndE x NoE) env k s) go ≡ then_run (eval P n x env k s) (λ v k s. go (AndV v NoV) k s)
on_one P n x go env k s = then_assoc (eval P n x env k s) _ go

on_more : (P : Program) (n : ℕ) (x : Expression) (xs : _) (go : Values → ℕ → List Opened → Evaluation Value) (env : Values) (k : ℕ) (s : List Opened)
    → then_run (eval_all P n (AndE x xs) env k s) go ≡ then_run (eval P n x env k s) (λ v k s. then_run (eval_all P n xs env k s) (λ vs k s. go (AndV v vs) k s))
on_more P n x xs go env k s =
    then_assoc (eval P n x env k s) _ go
    ∙ then_alike (eval P n x env k s) _ _ (λ v k s. then_assoc (eval_all P n xs env k s) _ go)

-- an index, as the table says it
indexed_is : (m : ℕ) (z : ℤ) (go : ℕ → ℕ → List Opened → Evaluation Value) (k : ℕ) (s : List Opened) → at_index m z go k s ≡ indexed m z go k s
indexed_is m (pos i) go k s = refl
indexed_is m (negsuc i) go k s = refl

-- one of two ways to go on, as the table says it
chosen : (b : Bool) (first other : Values → ℕ → List Opened → Evaluation Value) (env : Values) (k : ℕ) (s : List Opened)
    → choose b first other env k s ≡ (if b then first env k s else other env k s)
chosen true first other env k s = refl
chosen false first other env k s = refl

-- no call is made without fuel, whatever the bound
no_fuel : (P : Program) (n f : ℕ) (vs : Values) (s : List Opened) → call P ideal_mode n f vs 0 s ≡ Ends IsOut 0 s
no_fuel P zero f vs s = refl
no_fuel P (suc n) f vs s = refl

pub ideal_table : IdealTable
ideal_table P n = record {
  unit = λ env k s. refl;
  bool = λ b env k s. refl;
  int = λ z env k s. refl;
  text = λ bytes env k s. refl;
  name = λ i env k s. refl;
  auth_is = λ t x env k s. refl;
  unauth_is = λ t x env k s. refl;
  pair = λ a b x y env k s. refl;
  constructor = λ number tag xs env k s. refl;
  first = λ a b x env k s. refl;
  second = λ a b x env k s. refl;
  not_is = λ x env k s. refl;
  add = λ x y env k s. refl;
  sub = λ x y env k s. refl;
  mul = λ x y env k s. refl;
  div = λ x y env k s. operation_is P n Div (λ a b k s. divides (int_div a b) a b k s) x y env k s (λ a b k s. divided_is (int_div a b) a b k s);
  rem = λ x y env k s. operation_is P n Rem (λ a b k s. divides (int_rem a b) a b k s) x y env k s (λ a b k s. divided_is (int_rem a b) a b k s);
  eq = λ x y env k s. refl;
  lt = λ x y env k s. refl;
  le = λ x y env k s. refl;
  teq = λ x y env k s. refl;
  tlt = λ x y env k s. refl;
  len = λ x env k s. refl;
  cat = λ x y env k s. refl;
  fill = λ m t x env k s. on_one P n x (λ vs k s. operate P.format.limit P.types (VecFill m t) vs k s) env k s;
  get = λ m t x y env k s.
      on_more P n x (AndE y NoE) (λ vs k s. operate P.format.limit P.types (VecGet m t) vs k s) env k s
      ∙ then_alike (eval P n x env k s) _ _ (λ u k s.
      on_one P n y (λ vs k s. operate P.format.limit P.types (VecGet m t) (AndV u vs) k s) env k s
      ∙ then_alike (eval P n y env k s) _ _ (λ v k s. indexed_is m (int_in v) (λ i k s. Gives (local (items_in u) i) k s) k s));
  put = λ m t x y z env k s.
      on_more P n x (AndE y (AndE z NoE)) (λ vs k s. operate P.format.limit P.types (VecPut m t) vs k s) env k s
      ∙ then_alike (eval P n x env k s) _ _ (λ u k s.
      on_more P n y (AndE z NoE) (λ vs k s. operate P.format.limit P.types (VecPut m t) (AndV u vs) k s) env k s
      ∙ then_alike (eval P n y env k s) _ _ (λ v k s.
      on_one P n z (λ vs k s. operate P.format.limit P.types (VecPut m t) (AndV u (AndV v vs)) k s) env k s
      ∙ then_alike (eval P n z env k s) _ _ (λ e k s.
      indexed_is m (int_in v) (λ i k s. made P (VecTy m t) (ItemsV (replaced (items_in u) i e)) k s) k s)));
  let_is = λ a x body env k s. refl;
  if_is = λ x e f env k s. then_alike (eval P n x env k s) _ _ (λ v k s. chosen (bool_in v) (eval P n e) (eval P n f) env k s);
  match_is = λ number x arms env k s. refl;
  arm_first = λ body arms env k s. refl;
  arm_later = λ body arms tag env k s. refl;
  call_is = λ f xs env k s. refl;
  call_out = λ f vs s. no_fuel P n f vs s;
  call_goes = λ f vs k s. refl;
  no_operand = λ env k s. refl;
  operands = λ x xs env k s. refl;
}
