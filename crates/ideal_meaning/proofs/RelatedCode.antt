-- Two runs of one piece of code, in two modes: whatever relates the steps by which code goes on relates its runs. What is related are
-- computations, functions of the fuel and of the mode's state.
use Rattle.std.proofs.Common.{◌≡◌, ℕ, zero, suc, Bool, true, false, List, [], ◌∷◌, ◌++◌, length, ℤ, pos, negsuc, not, Option, Some, None, unwrap_or, slice_get, nat_lt, int_div, int_rem, ◌+ℤ◌, ◌-ℤ◌, ◌*ℤ◌, subst, if◌then◌else◌}
use Rattle.core_terms.specs.Types.{Ty, BoolTy, IntTy, TextTy, PairTy, NamedTy, AuthTy, VecTy, Table, fields_at}
use Rattle.core_terms.specs.Formats.{depth_limit}
use Rattle.core_terms.specs.Values.{Value, BoolV, IntV, TextV, PairV, ConV, ItemsV, Values, NoV, AndV, size, depth, int_fits}
use Rattle.core_terms.specs.Instructions.{Instruction, PushUnit, PushBool, PushInt, PushText, Load, Bind, Unbind, Pair, Fst, Snd, Make, Switch, Branch, Jump, Call, Return, Auth, Unauth, ArithOp, CompareOp, TextCompareOp, Cat, Len, Not, VecFill, VecGet, VecPut}
use Rattle.core_terms.specs.Bodies.{Body, code_at, field_count}
use Rattle.core_terms.specs.declared.term.Arith.{Arith}
use Rattle.core_terms.specs.declared.term.Arith.TheVariants.{Add, Sub, Mul, Div, Rem}
use Rattle.ideal_meaning.specs.Run.{Mode, Run, Gives, Ends, Traps, Trap, Overflow, DivZero, TooBig, TooDeep, Index, with_fuel, limited, exact, divided, arith_of, compare_of, text_compare_of, at_index, fill_of, get_of, put_of, local, repeated, replaced}
use Rattle.ideal_meaning.specs.Execution.{Coded, Ran, Stuck, then_code, then_coded, where_some, Held, held, tie, without_last, popped, Next, on_pair, on_con, on_bool, on_int, on_text, on_items, act, exec}

-- computations, from the fuel and the mode's state: runs, and code
abbrev pub RunFrom : Type 0 → Type 0 → Type 0
RunFrom C W = ℕ → W → Run C W Value

abbrev pub CodedFrom : Type 0 → Type 0 → Type 0
CodedFrom C W = ℕ → W → Coded C W

-- goes on with the value that a run gives as the top operand
abbrev run_on : {C W : Type 0} → Next C W → Ty → List Held → List Held → RunFrom C W → CodedFrom C W
run_on next t env ops r k w = then_code (r k w) (λ v k w. next 0 env (held t v ∷ ops) k w)

module _ (C W D V : Type 0) (Runs : RunFrom C W → RunFrom D V → Type 0) (Codes : CodedFrom C W → CodedFrom D V → Type 0)
    (gives : (v : Value) → Runs (λ k w. Gives v k w) (λ k w. Gives v k w)) (traps : (trap : Trap) → Runs (λ k w. Ends (Traps trap) k w) (λ k w. Ends (Traps trap) k w))
    (stuck : Codes (λ k w. Stuck) (λ k w. Stuck)) (done : (v : Value) → Codes (λ k w. Ran (Gives v k w)) (λ k w. Ran (Gives v k w)))
    (behind : (r : RunFrom C W) (q : RunFrom D V) (f : Value → CodedFrom C W) (g : Value → CodedFrom D V) → Runs r q → ((v : Value) → Codes (f v) (g v))
    → Codes (λ k w. then_code (r k w) f) (λ k w. then_code (q k w) g))
    (behind_code : (c : CodedFrom C W) (d : CodedFrom D V) (f : Value → CodedFrom C W) (g : Value → CodedFrom D V) → Codes c d → ((v : Value) → Codes (f v) (g v))
    → Codes (λ k w. then_coded (c k w) f) (λ k w. then_coded (d k w) g)) where
  -- what the operations give
  by_test : (b : Bool) (f g : RunFrom C W) (f' g' : RunFrom D V) → Runs f f' → Runs g g' → Runs (λ k w. if b then f k w else g k w) (λ k w. if b then f' k w else g' k w)
  by_test true f g f' g' h j = h
  by_test false f g f' g' h j = j

  limits : (limit : ℕ) (types : Table) (t : Ty) (v : Value) → Runs (λ k w. limited limit types t v k w) (λ k w. limited limit types t v k w)
  limits limit types t v =
      by_test (nat_lt limit (size types t v)) (λ k w. Ends (Traps TooBig) k w) (λ k w. if nat_lt depth_limit (depth types t v) then Ends (Traps TooDeep) k w else Gives v k w)
      (λ k w. Ends (Traps TooBig) k w) (λ k w. if nat_lt depth_limit (depth types t v) then Ends (Traps TooDeep) k w else Gives v k w) (traps TooBig)
      (by_test (nat_lt depth_limit (depth types t v)) (λ k w. Ends (Traps TooDeep) k w) (λ k w. Gives v k w) (λ k w. Ends (Traps TooDeep) k w) (λ k w. Gives v k w) (traps TooDeep) (gives v))

  fits : (z : ℤ) → Runs (λ k w. exact z k w) (λ k w. exact z k w)
  fits z = by_test (int_fits z) (λ k w. Gives (IntV z) k w) (λ k w. Ends (Traps Overflow) k w) (λ k w. Gives (IntV z) k w) (λ k w. Ends (Traps Overflow) k w) (gives (IntV z)) (traps Overflow)

  divides : (z x d : ℤ) → Runs (λ k w. divided z x d k w) (λ k w. divided z x d k w)
  divides z x (pos zero) = traps DivZero
  divides z x (pos (suc n)) =
      by_test (int_fits (int_div x (pos (suc n)))) (λ k w. Gives (IntV z) k w) (λ k w. Ends (Traps Overflow) k w) (λ k w. Gives (IntV z) k w) (λ k w. Ends (Traps Overflow) k w)
      (gives (IntV z)) (traps Overflow)
  divides z x (negsuc n) =
      by_test (int_fits (int_div x (negsuc n))) (λ k w. Gives (IntV z) k w) (λ k w. Ends (Traps Overflow) k w) (λ k w. Gives (IntV z) k w) (λ k w. Ends (Traps Overflow) k w)
      (gives (IntV z)) (traps Overflow)

  computes : (op : Arith) (x y : ℤ) → Runs (λ k w. arith_of op x y k w) (λ k w. arith_of op x y k w)
  computes Add x y = fits (x +ℤ y)
  computes Sub x y = fits (x -ℤ y)
  computes Mul x y = fits (x *ℤ y)
  computes Div x y = divides (int_div x y) x y
  computes Rem x y = divides (int_rem x y) x y

  indexes : (n : ℕ) (z : ℤ) (f : ℕ → RunFrom C W) (g : ℕ → RunFrom D V) → ((i : ℕ) → Runs (f i) (g i)) → Runs (λ k w. at_index n z f k w) (λ k w. at_index n z g k w)
  indexes n (pos i) f g h = by_test (nat_lt i n) (f i) (λ k w. Ends (Traps Index) k w) (g i) (λ k w. Ends (Traps Index) k w) (h i) (traps Index)
  indexes n (negsuc i) f g h = traps Index

  fills : (limit : ℕ) (types : Table) (n : ℕ) (t : Ty) (v : Value) → Runs (λ k w. fill_of limit types n t v k w) (λ k w. fill_of limit types n t v k w)
  fills limit types n t v = limits limit types (VecTy n t) (ItemsV (repeated n v))

  gets : (n : ℕ) (vs : Values) (z : ℤ) → Runs (λ k w. get_of n vs z k w) (λ k w. get_of n vs z k w)
  gets n vs z = indexes n z (λ i k w. Gives (local vs i) k w) (λ i k w. Gives (local vs i) k w) (λ i. gives (local vs i))

  puts : (limit : ℕ) (types : Table) (n : ℕ) (t : Ty) (vs : Values) (z : ℤ) (v : Value) → Runs (λ k w. put_of limit types n t vs z v k w) (λ k w. put_of limit types n t vs z v k w)
  puts limit types n t vs z v =
      indexes n z (λ i k w. limited limit types (VecTy n t) (ItemsV (replaced vs i v)) k w) (λ i k w. limited limit types (VecTy n t) (ItemsV (replaced vs i v)) k w)
      (λ i. limits limit types (VecTy n t) (ItemsV (replaced vs i v)))

  some : {A : Type 0} (o : Option A) (f : A → CodedFrom C W) (g : A → CodedFrom D V) → ((a : A) → Codes (f a) (g a))
      → Codes (λ k w. where_some o (λ a. f a k w)) (λ k w. where_some o (λ a. g a k w))
  some (Some a) f g h = h a
  some None f g h = stuck

  pops : (n : ℕ) (ops : List Held) (vs : Values) (f : Values → List Held → CodedFrom C W) (g : Values → List Held → CodedFrom D V) → ((vs : Values) (ops : List Held) → Codes (f vs ops) (g vs ops))
      → Codes (λ k w. popped n ops vs (λ vs ops. f vs ops k w)) (λ k w. popped n ops vs (λ vs ops. g vs ops k w))
  pops zero ops vs f g h = h vs ops
  pops (suc n) (x ∷ ops) vs f g h = pops n ops (AndV x.value vs) f g h
  pops (suc n) [] vs f g h = stuck

  module _ (B : Body) (mode : Mode C W) (other : Mode D V) (auths : (t : Ty) (v : Value) → mode.auth t v ≡ other.auth t v)
      (opens : (t : Ty) (v : Value) → Runs (λ k w. with_fuel k (mode.unauth t v w)) (λ k w. with_fuel k (other.unauth t v w)))
      (c : ℕ → Values → CodedFrom C W) (d : ℕ → Values → CodedFrom D V) (calls : (f : ℕ) (vs : Values) → Codes (c f vs) (d f vs)) where
    pair : (t : Ty) (v : Value) (f : Ty → Ty → Value → Value → CodedFrom C W) (g : Ty → Ty → Value → Value → CodedFrom D V) → ((a b : Ty) (x y : Value) → Codes (f a b x y) (g a b x y))
        → Codes (λ k w. on_pair B mode c t v (λ a b x y. f a b x y k w)) (λ k w. on_pair B other d t v (λ a b x y. g a b x y k w))
    pair (PairTy a b) (PairV x y) f g h = h a b x y
    pair t v f g h = stuck

    con : (v : Value) (f : ℕ → Values → CodedFrom C W) (g : ℕ → Values → CodedFrom D V) → ((tag : ℕ) (vs : Values) → Codes (f tag vs) (g tag vs))
        → Codes (λ k w. on_con B mode c v (λ tag vs. f tag vs k w)) (λ k w. on_con B other d v (λ tag vs. g tag vs k w))
    con (ConV tag vs) f g h = h tag vs
    con v f g h = stuck

    bool : (v : Value) (f : Bool → CodedFrom C W) (g : Bool → CodedFrom D V) → ((b : Bool) → Codes (f b) (g b))
        → Codes (λ k w. on_bool B mode c v (λ b. f b k w)) (λ k w. on_bool B other d v (λ b. g b k w))
    bool (BoolV b) f g h = h b
    bool v f g h = stuck

    int : (v : Value) (f : ℤ → CodedFrom C W) (g : ℤ → CodedFrom D V) → ((z : ℤ) → Codes (f z) (g z))
        → Codes (λ k w. on_int B mode c v (λ z. f z k w)) (λ k w. on_int B other d v (λ z. g z k w))
    int (IntV z) f g h = h z
    int v f g h = stuck

    text : (v : Value) (f : List ℕ → CodedFrom C W) (g : List ℕ → CodedFrom D V) → ((bytes : List ℕ) → Codes (f bytes) (g bytes))
        → Codes (λ k w. on_text B mode c v (λ bytes. f bytes k w)) (λ k w. on_text B other d v (λ bytes. g bytes k w))
    text (TextV bytes) f g h = h bytes
    text v f g h = stuck

    items : (t : Ty) (v : Value) (f : ℕ → Ty → Values → CodedFrom C W) (g : ℕ → Ty → Values → CodedFrom D V) → ((n : ℕ) (t : Ty) (vs : Values) → Codes (f n t vs) (g n t vs))
        → Codes (λ k w. on_items B mode c t v (λ n t vs. f n t vs k w)) (λ k w. on_items B other d t v (λ n t vs. g n t vs k w))
    items (VecTy n t) (ItemsV vs) f g h = h n t vs
    items t v f g h = stuck

    -- two operands of a kind
    ints : (v u : Value) (f : ℤ → ℤ → CodedFrom C W) (g : ℤ → ℤ → CodedFrom D V) → ((m n : ℤ) → Codes (f m n) (g m n))
        → Codes (λ k w. on_int B mode c v (λ m. on_int B mode c u (λ n. f m n k w))) (λ k w. on_int B other d v (λ m. on_int B other d u (λ n. g m n k w)))
    ints v u f g h = int v (λ m k w. on_int B mode c u (λ n. f m n k w)) (λ m k w. on_int B other d u (λ n. g m n k w)) (λ m. int u (f m) (g m) (h m))

    texts : (v u : Value) (f : List ℕ → List ℕ → CodedFrom C W) (g : List ℕ → List ℕ → CodedFrom D V) → ((m n : List ℕ) → Codes (f m n) (g m n))
        → Codes (λ k w. on_text B mode c v (λ m. on_text B mode c u (λ n. f m n k w))) (λ k w. on_text B other d v (λ m. on_text B other d u (λ n. g m n k w)))
    texts v u f g h = text v (λ m k w. on_text B mode c u (λ n. f m n k w)) (λ m k w. on_text B other d u (λ n. g m n k w)) (λ m. text u (f m) (g m) (h m))

    -- an array, and an int that tells a place in it
    indexed : (t : Ty) (v u : Value) (f : ℕ → Ty → Values → ℤ → CodedFrom C W) (g : ℕ → Ty → Values → ℤ → CodedFrom D V)
        → ((n : ℕ) (t : Ty) (vs : Values) (z : ℤ) → Codes (f n t vs z) (g n t vs z))
        → Codes (λ k w. on_items B mode c t v (λ n t vs. on_int B mode c u (λ z. f n t vs z k w)))
        (λ k w. on_items B other d t v (λ n t vs. on_int B other d u (λ z. g n t vs z k w)))
    indexed t v u f g h =
        items t v (λ n t vs k w. on_int B mode c u (λ z. f n t vs z k w)) (λ n t vs k w. on_int B other d u (λ z. g n t vs z k w))
        (λ n t vs. int u (f n t vs) (g n t vs) (h n t vs))

    module _ (next : Next C W) (next' : Next D V) (on : (n : ℕ) (env ops : List Held) → Codes (next n env ops) (next' n env ops)) where
      -- a value that a run gives becomes the top operand
      push : (t : Ty) (r : RunFrom C W) (q : RunFrom D V) (env ops : List Held) → Runs r q → Codes (run_on next t env ops r) (run_on next' t env ops q)
      push t r q env ops h = behind r q (λ v k w. next 0 env (held t v ∷ ops) k w) (λ v k w. next' 0 env (held t v ∷ ops) k w) h (λ v. on 0 env (held t v ∷ ops))

      acts : (i : Instruction) (env ops : List Held) → Codes (λ k w. act B mode c i next env ops k w) (λ k w. act B other d i next' env ops k w)
      acts PushUnit env ops = on 0 env _
      acts (PushBool b) env ops = on 0 env _
      acts (PushInt z) env ops = on 0 env _
      acts (PushText bytes) env ops = on 0 env _
      acts (Load i) env ops = some (slice_get env i) (λ x k w. next 0 env (x ∷ ops) k w) (λ x k w. next' 0 env (x ∷ ops) k w) (λ x. on 0 env (x ∷ ops))
      acts Bind env (x ∷ ops) = on 0 (env ++ x ∷ []) ops
      acts Bind env [] = stuck
      acts (Unbind n) env ops = some (without_last n env) (λ env k w. next 0 env ops k w) (λ env k w. next' 0 env ops k w) (λ env. on 0 env ops)
      acts Pair env (y ∷ (x ∷ ops)) = push (PairTy x.ty y.ty) _ _ env ops (limits B.limit B.types (PairTy x.ty y.ty) (PairV x.value y.value))
      acts Pair env (y ∷ []) = stuck
      acts Pair env [] = stuck
      acts Fst env (x ∷ ops) =
          pair x.ty x.value (λ a b u v k w. next 0 env (held a u ∷ ops) k w) (λ a b u v k w. next' 0 env (held a u ∷ ops) k w) (λ a b u v. on 0 env (held a u ∷ ops))
      acts Fst env [] = stuck
      acts Snd env (x ∷ ops) =
          pair x.ty x.value (λ a b u v k w. next 0 env (held b v ∷ ops) k w) (λ a b u v k w. next' 0 env (held b v ∷ ops) k w) (λ a b u v. on 0 env (held b v ∷ ops))
      acts Snd env [] = stuck
      acts (Make number tag) env ops =
          pops (field_count B.types number tag) ops NoV (λ vs ops. run_on next (NamedTy number) env ops (limited B.limit B.types (NamedTy number) (ConV tag vs)))
          (λ vs ops. run_on next' (NamedTy number) env ops (limited B.limit B.types (NamedTy number) (ConV tag vs)))
          (λ vs ops. push (NamedTy number) _ _ env ops (limits B.limit B.types (NamedTy number) (ConV tag vs)))
      acts (Switch number places) env (x ∷ ops) =
          let bound : ℕ → Values → List Held = λ tag vs. env ++ tie (unwrap_or (fields_at B.types number tag) []) vs in
          con x.value (λ tag vs k w. where_some (slice_get places tag) (λ n. next n (bound tag vs) ops k w))
          (λ tag vs k w. where_some (slice_get places tag) (λ n. next' n (bound tag vs) ops k w))
          (λ tag vs. some (slice_get places tag) (λ n k w. next n (bound tag vs) ops k w) (λ n k w. next' n (bound tag vs) ops k w) (λ n. on n (bound tag vs) ops))
      acts (Switch number places) env [] = stuck
      acts (Branch n) env (x ∷ ops) =
          bool x.value (λ b k w. next (if b then 0 else n) env ops k w) (λ b k w. next' (if b then 0 else n) env ops k w) (λ b. on (if b then 0 else n) env ops)
      acts (Branch n) env [] = stuck
      acts (Jump n) env ops = on n env ops
      acts (Call f) env ops =
          let g = code_at B f in
          pops (length g.parameters) ops NoV (λ vs ops k w. then_coded (c f vs k w) (λ v k w. next 0 env (held g.result v ∷ ops) k w))
          (λ vs ops k w. then_coded (d f vs k w) (λ v k w. next' 0 env (held g.result v ∷ ops) k w))
          (λ vs ops. behind_code (c f vs) (d f vs) (λ v k w. next 0 env (held g.result v ∷ ops) k w) (λ v k w. next' 0 env (held g.result v ∷ ops) k w)
          (calls f vs) (λ v. on 0 env (held g.result v ∷ ops)))
      acts Return env (x ∷ []) = done x.value
      acts Return env (x ∷ (y ∷ ops)) = stuck
      acts Return env [] = stuck
      acts (Auth t) env (x ∷ ops) =
          subst (λ v. Codes (λ k w. next 0 env (held (AuthTy t) (mode.auth t x.value) ∷ ops) k w) (λ k w. next' 0 env (held (AuthTy t) v ∷ ops) k w)) (auths t x.value)
          (on 0 env _)
      acts (Auth t) env [] = stuck
      acts (Unauth t) env (x ∷ ops) = push t _ _ env ops (opens t x.value)
      acts (Unauth t) env [] = stuck
      acts (ArithOp op) env (y ∷ (x ∷ ops)) =
          ints x.value y.value (λ m n. run_on next IntTy env ops (arith_of op m n)) (λ m n. run_on next' IntTy env ops (arith_of op m n))
          (λ m n. push IntTy _ _ env ops (computes op m n))
      acts (ArithOp op) env (y ∷ []) = stuck
      acts (ArithOp op) env [] = stuck
      acts (CompareOp op) env (y ∷ (x ∷ ops)) =
          ints x.value y.value (λ m n. next 0 env (held BoolTy (BoolV (compare_of op m n)) ∷ ops)) (λ m n. next' 0 env (held BoolTy (BoolV (compare_of op m n)) ∷ ops))
          (λ m n. on 0 env _)
      acts (CompareOp op) env (y ∷ []) = stuck
      acts (CompareOp op) env [] = stuck
      acts (TextCompareOp op) env (y ∷ (x ∷ ops)) =
          texts x.value y.value (λ m n. next 0 env (held BoolTy (BoolV (text_compare_of op m n)) ∷ ops)) (λ m n. next' 0 env (held BoolTy (BoolV (text_compare_of op m n)) ∷ ops))
          (λ m n. on 0 env _)
      acts (TextCompareOp op) env (y ∷ []) = stuck
      acts (TextCompareOp op) env [] = stuck
      acts Cat env (y ∷ (x ∷ ops)) =
          texts x.value y.value (λ m n. run_on next TextTy env ops (limited B.limit B.types TextTy (TextV (m ++ n))))
          (λ m n. run_on next' TextTy env ops (limited B.limit B.types TextTy (TextV (m ++ n)))) (λ m n. push TextTy _ _ env ops (limits B.limit B.types TextTy (TextV (m ++ n))))
      acts Cat env (y ∷ []) = stuck
      acts Cat env [] = stuck
      acts Len env (x ∷ ops) =
          text x.value (λ m k w. next 0 env (held IntTy (IntV (pos (length m))) ∷ ops) k w) (λ m k w. next' 0 env (held IntTy (IntV (pos (length m))) ∷ ops) k w) (λ m. on 0 env _)
      acts Len env [] = stuck
      acts Not env (x ∷ ops) =
          bool x.value (λ b k w. next 0 env (held BoolTy (BoolV (not b)) ∷ ops) k w) (λ b k w. next' 0 env (held BoolTy (BoolV (not b)) ∷ ops) k w) (λ b. on 0 env _)
      acts Not env [] = stuck
      acts (VecFill n) env (x ∷ ops) = push (VecTy n x.ty) _ _ env ops (fills B.limit B.types n x.ty x.value)
      acts (VecFill n) env [] = stuck
      acts VecGet env (y ∷ (x ∷ ops)) =
          indexed x.ty x.value y.value (λ n t vs z. run_on next t env ops (get_of n vs z)) (λ n t vs z. run_on next' t env ops (get_of n vs z))
          (λ n t vs z. push t _ _ env ops (gets n vs z))
      acts VecGet env (y ∷ []) = stuck
      acts VecGet env [] = stuck
      acts VecPut env (e ∷ (y ∷ (x ∷ ops))) =
          indexed x.ty x.value y.value (λ n t vs z. run_on next (VecTy n t) env ops (put_of B.limit B.types n t vs z e.value))
          (λ n t vs z. run_on next' (VecTy n t) env ops (put_of B.limit B.types n t vs z e.value)) (λ n t vs z. push (VecTy n t) _ _ env ops (puts B.limit B.types n t vs z e.value))
      acts VecPut env (e ∷ (y ∷ [])) = stuck
      acts VecPut env (e ∷ []) = stuck
      acts VecPut env [] = stuck

    -- the instructions that are left, where calls are related
    pub related : (is : List Instruction) (skip : ℕ) (env ops : List Held) → Codes (exec B mode c is skip env ops) (exec B other d is skip env ops)
    related [] skip env ops = stuck
    related (i ∷ is) (suc skip) env ops = related is skip env ops
    related (i ∷ is) zero env ops = acts (exec B mode c is) (exec B other d is) (related is) i env ops
