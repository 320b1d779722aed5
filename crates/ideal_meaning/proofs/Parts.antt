-- What the proofs over code share: how values are tied, joined and pushed.
use Rattle.std.proofs.Common.{◌≡◌, ℕ, zero, suc, ◌+◌, ◌-◌, ◌≤◌, Bool, true, false, List, [], ◌∷◌, ◌++◌, length, Option, Some, None, unwrap_or, slice_get, take, length-append, ℤ, pos, negsuc, ◌+ℤ◌, ◌-ℤ◌, ◌*ℤ◌, int_div, int_rem, nat_lt, refl, ap, ◌∙◌, subst, arith, if◌then◌else◌, le-leb}
use Rattle.core_terms.specs.Types.{Ty, BoolTy, IntTy, TextTy, PairTy, NamedTy, Table, fields_at, OnFields}
use Rattle.core_terms.specs.Values.{Value, BoolV, IntV, TextV, PairV, ConV, Values, NoV, AndV, int_fits, size, depth}
use Rattle.core_terms.specs.Formats.{depth_limit}
use Rattle.core_terms.specs.declared.term.Arith.{Arith}
use Rattle.core_terms.specs.declared.term.Arith.TheVariants.{Add, Sub, Mul, Div, Rem}
use Rattle.ideal_meaning.specs.Run.{Run, Gives, Ends, then_run, exact, divided, arith_of, limited, local, join}
use Rattle.ideal_meaning.specs.Execution.{Coded, Ran, then_code, Held, held, tie, without_last, popped}
use Rattle.ideal_meaning.specs.CodeTypes.{IsOf, AreOf, Holds}

module _ (C W : Type 0) where
  pub then_assoc : {A B : Type 0} (r : Run C W A) (f : A → ℕ → W → Run C W B) (g : B → ℕ → W → Coded C W) → then_code (then_run r f) g ≡ then_code r (λ a k w. then_code (f a k w) g)
  then_assoc (Gives a k w) f g = refl
  then_assoc (Ends stop k w) f g = refl

  -- what a run gives is all that matters behind it
  pub on_holds : {A : Type 0} (Q : A → Type 0) (r : Run C W A) (f g : A → ℕ → W → Coded C W) → Holds Q r → ((a : A) (k : ℕ) (w : W) → Q a → f a k w ≡ g a k w) → then_code r f ≡ then_code r g
  on_holds Q (Gives a k w) f g h e = e a k w h
  on_holds Q (Ends stop k w) f g h e = refl

  pub holds_then : {A B : Type 0} (Q : A → Type 0) (R : B → Type 0) (r : Run C W A) (f : A → ℕ → W → Run C W B) → Holds Q r
      → ((a : A) (k : ℕ) (w : W) → Q a → Holds R (f a k w)) → Holds R (then_run r f)
  holds_then Q R (Gives a k w) f h e = e a k w h
  holds_then Q R (Ends stop k w) f h e = tt

  pub then_ran : (r : Run C W Value) → then_code r (λ v k w. Ran (Gives v k w)) ≡ Ran r
  then_ran (Gives a k w) = refl
  then_ran (Ends stop k w) = refl

  pub holds_if : {A : Type 0} (Q : A → Type 0) (b : Bool) (r s : Run C W A) → Holds Q r → Holds Q s → Holds Q (if b then r else s)
  holds_if Q true r s h j = h
  holds_if Q false r s h j = j

  pub holds_limited : (limit : ℕ) (types : Table) (Q : Value → Type 0) (t : Ty) (v : Value) (k : ℕ) (w : W) → Q v → Holds Q (limited {C = C} limit types t v k w)
  holds_limited limit types Q t v k w h = holds_if Q (nat_lt limit (size types t v)) _ _ tt (holds_if Q (nat_lt depth_limit (depth types t v)) _ _ tt h)

  module _ (types : Table) (A : Ty → Value → Bool) where
    holds_exact : (z : ℤ) (k : ℕ) (w : W) → Holds (IsOf types A IntTy) (exact {C = C} z k w)
    holds_exact z k w = holds_if (IsOf types A IntTy) (int_fits z) _ _ tt tt

    holds_divided : (z x y : ℤ) (k : ℕ) (w : W) → Holds (IsOf types A IntTy) (divided {C = C} z x y k w)
    holds_divided z x (pos zero) k w = tt
    holds_divided z x (pos (suc n)) k w = holds_if (IsOf types A IntTy) (int_fits (int_div x (pos (suc n)))) _ _ tt tt
    holds_divided z x (negsuc n) k w = holds_if (IsOf types A IntTy) (int_fits (int_div x (negsuc n))) _ _ tt tt

    pub holds_arith : (op : Arith) (x y : ℤ) (k : ℕ) (w : W) → Holds (IsOf types A IntTy) (arith_of {C = C} op x y k w)
    holds_arith Add x y k w = holds_exact (x +ℤ y) k w
    holds_arith Sub x y k w = holds_exact (x -ℤ y) k w
    holds_arith Mul x y k w = holds_exact (x *ℤ y) k w
    holds_arith Div x y k w = holds_divided (int_div x y) x y k w
    holds_arith Rem x y k w = holds_divided (int_rem x y) x y k w

-- the operands with the values of a list, the last of them being the top
abbrev pub push_all : List Ty → Values → List Held → List Held
push_all (t ∷ ts) (AndV v vs) ops = push_all ts vs (held t v ∷ ops)
push_all ts vs ops = ops

pub join_nil : (vs : Values) → join vs NoV ≡ vs
join_nil NoV = refl
join_nil (AndV v vs) = ap (AndV v) (join_nil vs)

take_front : (xs ys : List Held) → take (length xs) (xs ++ ys) ≡ xs
take_front [] ys = refl
take_front (x ∷ xs) ys = ap (λ l. x ∷ l) (take_front xs ys)

pub last_dropped : (xs ys : List Held) (n : ℕ) → length ys ≡ n → without_last n (xs ++ ys) ≡ Some xs
last_dropped xs ys n h =
    let c = length-append xs ys in
    let low : n ≤ length (xs ++ ys) = omega (arith, c, h) in
    let e : length (xs ++ ys) - n ≡ length xs = omega (arith, c, h) in
    ap (λ b. if b then Some (take (length (xs ++ ys) - n) (xs ++ ys)) else None) (le-leb n (length (xs ++ ys)) low)
    ∙ ap (λ m. Some (take m (xs ++ ys))) e
    ∙ ap Some (take_front xs ys)

module _ (types : Table) (A : Ty → Value → Bool) where
  popped_back : {C W : Type 0} (ts : List Ty) (vs : Values) → AreOf types A ts vs → (n : ℕ) (ops : List Held) (acc : Values) (go : Values → List Held → Coded C W)
      → popped (length ts + n) (push_all ts vs ops) acc go ≡ popped n ops (join vs acc) go
  popped_back [] NoV h n ops acc go = let e : 0 + n ≡ n = omega arith in ap (λ m. popped m ops acc go) e
  popped_back (t ∷ ts) (AndV v vs) h n ops acc go =
      let e : length (t ∷ ts) + n ≡ length ts + suc n = omega arith in
      ap (λ m. popped m (push_all ts vs (held t v ∷ ops)) acc go) e ∙ popped_back ts vs h.1 (suc n) (held t v ∷ ops) acc go
  popped_back [] (AndV v vs) h n ops acc go = elim h [ ]
  popped_back (t ∷ ts) NoV h n ops acc go = elim h [ ]

  pub popped_all : {C W : Type 0} (ts : List Ty) (vs : Values) → AreOf types A ts vs → (n : ℕ) (ops : List Held) (go : Values → List Held → Coded C W) → length ts ≡ n
      → popped n (push_all ts vs ops) NoV go ≡ go vs ops
  popped_all ts vs a n ops go h =
      let e : n ≡ length ts + 0 = omega (arith, h) in
      ap (λ m. popped m (push_all ts vs ops) NoV go) e ∙ popped_back ts vs a 0 ops NoV go ∙ ap (λ us. go us ops) (join_nil vs)

  pub length_tie : (ts : List Ty) (vs : Values) → AreOf types A ts vs → length (tie ts vs) ≡ length ts
  length_tie [] NoV h = refl
  length_tie (t ∷ ts) (AndV v vs) h = ap suc (length_tie ts vs h.1)
  length_tie [] (AndV v vs) h = elim h [ ]
  length_tie (t ∷ ts) NoV h = elim h [ ]

  pub tie_join : (ts us : List Ty) (vs ws : Values) → AreOf types A ts vs → tie ts vs ++ tie us ws ≡ tie (ts ++ us) (join vs ws)
  tie_join [] us NoV ws h = refl
  tie_join (t ∷ ts) us (AndV v vs) ws h = ap (λ l. held t v ∷ l) (tie_join ts us vs ws h.1)
  tie_join [] us (AndV v vs) ws h = elim h [ ]
  tie_join (t ∷ ts) us NoV ws h = elim h [ ]

  pub of_join : (ts us : List Ty) (vs ws : Values) → AreOf types A ts vs → AreOf types A us ws → AreOf types A (ts ++ us) (join vs ws)
  of_join [] us NoV ws h j = j
  of_join (t ∷ ts) us (AndV v vs) ws h j = (h.0, of_join ts us vs ws h.1 j)
  of_join [] us (AndV v vs) ws h j = elim h [ ]
  of_join (t ∷ ts) us NoV ws h j = elim h [ ]

  pub of_local : (ts : List Ty) (vs : Values) (i : ℕ) (t : Ty) → AreOf types A ts vs → slice_get ts i ≡ Some t → IsOf types A t (local vs i)
  of_local (u ∷ ts) (AndV v vs) zero t h e = let s : u ≡ t = cc in subst (λ t. IsOf types A t v) s h.0
  of_local (u ∷ ts) (AndV v vs) (suc i) t h e = of_local ts vs i t h.1 e
  of_local [] NoV i t h e = absurd (cc)
  of_local [] (AndV v vs) i t h e = elim h [ ]
  of_local (u ∷ ts) NoV i t h e = elim h [ ]

  pub local_is : (ts : List Ty) (vs : Values) (i : ℕ) (t : Ty) → AreOf types A ts vs → slice_get ts i ≡ Some t → slice_get (tie ts vs) i ≡ Some (held t (local vs i))
  local_is (u ∷ ts) (AndV v vs) zero t h e = let s : u ≡ t = cc in ap (λ t. Some (held t v)) s
  local_is (u ∷ ts) (AndV v vs) (suc i) t h e = local_is ts vs i t h.1 e
  local_is [] NoV i t h e = absurd (cc)
  local_is [] (AndV v vs) i t h e = elim h [ ]
  local_is (u ∷ ts) NoV i t h e = elim h [ ]

  pub at_bool : (Q : Value → Type 0) (v : Value) → IsOf types A BoolTy v → ((b : Bool) → Q (BoolV b)) → Q v
  at_bool Q (BoolV b) h f = f b
  at_bool Q _ h f = elim h [ ]

  pub at_int : (Q : Value → Type 0) (v : Value) → IsOf types A IntTy v → ((z : ℤ) → Q (IntV z)) → Q v
  at_int Q (IntV z) h f = f z
  at_int Q _ h f = elim h [ ]

  pub at_text : (Q : Value → Type 0) (v : Value) → IsOf types A TextTy v → ((bytes : List ℕ) → Q (TextV bytes)) → Q v
  at_text Q (TextV bytes) h f = f bytes
  at_text Q _ h f = elim h [ ]

  pub at_pair : (Q : Value → Type 0) (a b : Ty) (v : Value) → IsOf types A (PairTy a b) v → ((x y : Value) → IsOf types A a x → IsOf types A b y → Q (PairV x y)) → Q v
  at_pair Q a b (PairV x y) h f = f x y h.0 h.1
  at_pair Q a b _ h f = elim h [ ]

  pub on_fields : (o : Option (List Ty)) (Q : List Ty → Type 0) → OnFields o Q → (ts : List Ty) × (o ≡ Some ts) × Q ts
  on_fields (Some ts) Q h = (ts, refl, h)
  on_fields None Q h = elim h [ ]

  pub in_table : (o : Option (List (List Ty))) (tag : ℕ) (ts : List Ty) → (elim o as (λ o. Option (List Ty)) [ Some cs ↦ slice_get cs tag | None ↦ None ]) ≡ Some ts
      → slice_get (unwrap_or o []) tag ≡ Some ts
  in_table (Some cs) tag ts h = h
  in_table None tag ts h = absurd (cc)

  pub at_con : (Q : Value → Type 0) (number : ℕ) (v : Value) → IsOf types A (NamedTy number) v
      → ((tag : ℕ) (vs : Values) (ts : List Ty) → fields_at types number tag ≡ Some ts → slice_get (unwrap_or (slice_get types number) []) tag ≡ Some ts
      → AreOf types A ts vs → Q (ConV tag vs)) → Q v
  at_con Q number (ConV tag vs) h f =
      let r = on_fields (fields_at types number tag) (λ ts. AreOf types A ts vs) h in
      f tag vs r.0 r.1 (in_table (slice_get types number) tag r.0 r.1) r.2
  at_con Q number _ h f = elim h [ ]
