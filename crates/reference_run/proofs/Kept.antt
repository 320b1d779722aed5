-- What an ideal run of a typed expression gives is an ideal value of its type, within the limits, and so is what is authenticated in it.
use Rattle.std.proofs.Common.{◌≡◌, ℕ, zero, suc, ◌<◌, ◌≤◌, ◌^◌, Bool, true, false, List, [], ◌∷◌, ◌++◌, length, ℤ, pos, negsuc, ◌+ℤ◌, ◌-ℤ◌, ◌*ℤ◌, int_div, int_rem, nat_lt, Option, Some, None, unwrap_or, slice_get, if◌then◌else◌, refl, subst, arith, ltb-true, ltb-false, lt-ltb, lt_of_le_of_lt}
use lib.Signed.{mag_rem}
use Rattle.std.specs.Option.{option_and_then}
use Rattle.std.proofs.lemmas.Str.{IsUtf8-append}
use Rattle.core_terms.specs.Types.{Ty, BoolTy, IntTy, TextTy, PairTy, NamedTy, AuthTy, VecTy, fields_at, item_types}
use Rattle.core_terms.specs.Formats.{IsFormat, depth_limit}
use Rattle.core_terms.specs.Values.{Value, UnitV, BoolV, IntV, TextV, PairV, ConV, ItemsV, Values, NoV, AndV, AreIdeal, AuthWithinAll, int_fits, size, depth}
use Rattle.core_terms.specs.Terms.{Expression, UnitE, BoolE, IntE, TextE, LocalE, PairE, FstE, SndE, NotE, LenE, AuthE, UnauthE, ConE, ArithE, CompareE, TextCompareE, CatE, LetE, IfE, MatchE, CallE, OperateE, Operation, VecFill, VecGet, VecPut, operand_types, result_type, Expressions, NoE, AndE, Arms, NoArm, AndArm, Function, no_function, Program, function_at}
use Rattle.core_terms.specs.TypingRules.{OnFunction, HasType, HaveTypes, HaveArms, IsWrittenWell}
use Rattle.core_terms.specs.Projection.{AllFit}
use Rattle.core_terms.specs.declared.term.Arith.{Arith}
use Rattle.core_terms.specs.declared.term.Arith.TheVariants.{Add, Sub, Mul, Div, Rem}
use Rattle.core_terms.proofs.Numbers.{mag_of, of_mag}
use Rattle.core_terms.proofs.Fields.{on_fields}
use Rattle.ideal_meaning.specs.Run.{Traps, Overflow, Run, Gives, Ends, then_run, local, join, bool_in, int_in, text_in, tag_in, fields_in, items_in, repeated, replaced, divided, arith_of, choose, limited, at_index, get_of, put_of, operate, run, run_all, run_arm, call}
use Rattle.ideal_meaning.specs.Ideal.{Opened, ideal_mode}
use Rattle.ideal_meaning.proofs.InHand.{int_fits_in, utf8_in, length_in, at_con, at_items, item_type_at, IsHeld, AreHeld, held_unit, held_bool, held_int, held_text, held_local, held_join, held_pair, held_first, held_second, held_con, held_parts, held_items, held_elements, held_repeated, held_replaced, held_auth, held_inputs}

abbrev IdealRun : Type 0 → Type 0
IdealRun A = Run ⊥ (List Opened) A

-- what the run gives, if it gives something, is such a thing
abbrev pub Holds : {A : Type 0} → (A → Type 0) → IdealRun A → Type 0
Holds Q (Gives a k s) = Q a
Holds Q (Ends stop k s) = Unit {0}

holds_then : {A B : Type 0} (Q : A → Type 0) (R : B → Type 0) (r : IdealRun A) (f : A → ℕ → List Opened → IdealRun B) → Holds Q r
    → ((a : A) (k : ℕ) (s : List Opened) → Q a → Holds R (f a k s)) → Holds R (then_run r f)
holds_then Q R (Gives a k s) f h on = on a k s h
holds_then Q R (Ends stop k s) f h on = tt

holds_if : {A : Type 0} (Q : A → Type 0) (b : Bool) (r q : IdealRun A) → (b ≡ true → Holds Q r) → (b ≡ false → Holds Q q) → Holds Q (if b then r else q)
holds_if Q true r q h j = h refl
holds_if Q false r q h j = j refl

on_function : (o : Option Function) (Q : Function → Type 0) → OnFunction o Q → Q (unwrap_or o no_function)
on_function (Some g) Q h = h
on_function None Q h = elim h [ ]

tag_fields : (o : Option (List (List Ty))) (tag : ℕ) (us : List Ty) → option_and_then (λ cs. slice_get cs tag) o ≡ Some us → slice_get (unwrap_or o []) tag ≡ Some us
tag_fields None tag us e = cc
tag_fields (Some cs) tag us e = e

-- the limits hold of what is authenticated in values too
abbrev Everywhere : Type 0
Everywhere = Unit {0}

module _ (P : Program) (format : IsFormat P.format) where
  -- a value in hand, and values in a row
  abbrev pub Held : Ty → Value → Type 0
  Held t v = IsHeld P Everywhere t v

  abbrev pub AllHeld : List Ty → Values → Type 0
  AllHeld ts vs = AreHeld P Everywhere ts vs

  limited_holds : (t : Ty) (v : Value) (k : ℕ) (s : List Opened) → (size P.types t v ≤ P.format.limit → depth P.types t v ≤ depth_limit → Held t v)
      → Holds (Held t) (limited P.format.limit P.types t v k s)
  limited_holds t v k s held =
      holds_if (Held t) (nat_lt P.format.limit (size P.types t v)) _ _ (λ q. tt) (λ q.
      holds_if (Held t) (nat_lt depth_limit (depth P.types t v)) _ _ (λ r. tt) (λ r. held (ltb-false P.format.limit _ q) (ltb-false depth_limit _ r)))

  int_holds : (b : Bool) (z : ℤ) (k : ℕ) (s : List Opened) → (b ≡ true → int_fits z ≡ true)
      → Holds (Held IntTy) (if b then Gives (IntV z) k s else Ends (Traps Overflow) k s)
  int_holds b z k s fits = holds_if (Held IntTy) b _ _ (λ q. held_int P format Everywhere z (fits q)) (λ q. tt)

  divided_holds : (z x d : ℤ) (k : ℕ) (s : List Opened) → (int_fits (int_div x d) ≡ true → int_fits z ≡ true) → Holds (Held IntTy) (divided z x d k s)
  divided_holds z x (pos zero) k s fits = tt
  divided_holds z x (pos (suc n)) k s fits = int_holds (int_fits (int_div x (pos (suc n)))) z k s fits
  divided_holds z x (negsuc n) k s fits = int_holds (int_fits (int_div x (negsuc n))) z k s fits

  arith_holds : (op : Arith) (x d : ℤ) (k : ℕ) (s : List Opened) → int_fits x ≡ true → Holds (Held IntTy) (arith_of op x d k s)
  arith_holds Add x d k s fx = int_holds (int_fits (x +ℤ d)) (x +ℤ d) k s (λ q. q)
  arith_holds Sub x d k s fx = int_holds (int_fits (x -ℤ d)) (x -ℤ d) k s (λ q. q)
  arith_holds Mul x d k s fx = int_holds (int_fits (x *ℤ d)) (x *ℤ d) k s (λ q. q)
  arith_holds Div x d k s fx = divided_holds (int_div x d) x d k s (λ q. q)
  arith_holds Rem x d k s fx = divided_holds (int_rem x d) x d k s (λ q. of_mag (int_rem x d) (lt_of_le_of_lt (mag_rem x d) (mag_of x fx)))

  index_holds : (n : ℕ) (t : Ty) (z : ℤ) (f : ℕ → ℕ → List Opened → IdealRun Value) (k : ℕ) (s : List Opened) → ((i : ℕ) → i < n → Holds (Held t) (f i k s))
      → Holds (Held t) (at_index n z f k s)
  index_holds n t (pos i) f k s h = holds_if (Held t) (nat_lt i n) _ _ (λ q. h i (ltb-true i n q)) (λ q. tt)
  index_holds n t (negsuc i) f k s h = tt

  get_holds : (n : ℕ) (t : Ty) (es : Values) (z : ℤ) (k : ℕ) (s : List Opened) → AllHeld (item_types n t) es → Holds (Held t) (get_of n es z k s)
  get_holds n t es z k s h =
      index_holds n t z (λ i k s. Gives (local es i) k s) k s (λ i l. held_local P Everywhere (item_types n t) es i t h (item_type_at n i t l))

  put_holds : (n : ℕ) (t : Ty) (es : Values) (z : ℤ) (v : Value) (k : ℕ) (s : List Opened) → AllHeld (item_types n t) es → Held t v
      → Holds (Held (VecTy n t)) (put_of P.format.limit P.types n t es z v k s)
  put_holds n t es z v k s h j =
      index_holds n (VecTy n t) z (λ i k s. limited P.format.limit P.types (VecTy n t) (ItemsV (replaced es i v)) k s) k s (λ i l.
      limited_holds (VecTy n t) (ItemsV (replaced es i v)) k s (λ p d. held_items P Everywhere n t (replaced es i v) (held_replaced P Everywhere n i t es v h j) p d))

  operate_holds : (op : Operation) (vs : Values) (k : ℕ) (s : List Opened) → AllHeld (operand_types op) vs → Holds (Held (result_type op)) (operate P.format.limit P.types op vs k s)
  operate_holds (VecFill n t) (AndV v NoV) k s h =
      limited_holds (VecTy n t) (ItemsV (repeated n v)) k s (λ p d. held_items P Everywhere n t (repeated n v) (held_repeated P Everywhere n t v h.0) p d)
  operate_holds (VecGet n t) (AndV u (AndV z NoV)) k s h =
      at_items P.types (λ u. Held (VecTy n t) u → Holds (Held t) (get_of n (items_in u) (int_in z) k s)) n t u h.0.ideal
      (λ es i j. get_holds n t es (int_in z) k s (held_elements P Everywhere n t es i j)) h.0
  operate_holds (VecPut n t) (AndV u (AndV z (AndV v NoV))) k s h =
      at_items P.types (λ u. Held (VecTy n t) u → Holds (Held (VecTy n t)) (put_of P.format.limit P.types n t (items_in u) (int_in z) v k s)) n t u h.0.ideal
      (λ es i j. put_holds n t es (int_in z) v k s (held_elements P Everywhere n t es i j) h.1.1.0) h.0
  operate_holds (VecFill n t) NoV k s h = elim h [ ]
  operate_holds (VecFill n t) (AndV v (AndV u vs)) k s h = elim h.1 [ ]
  operate_holds (VecGet n t) NoV k s h = elim h [ ]
  operate_holds (VecGet n t) (AndV u NoV) k s h = elim h.1 [ ]
  operate_holds (VecGet n t) (AndV u (AndV z (AndV v vs))) k s h = elim h.1.1 [ ]
  operate_holds (VecPut n t) NoV k s h = elim h [ ]
  operate_holds (VecPut n t) (AndV u NoV) k s h = elim h.1 [ ]
  operate_holds (VecPut n t) (AndV u (AndV z NoV)) k s h = elim h.1.1 [ ]
  operate_holds (VecPut n t) (AndV u (AndV z (AndV v (AndV r vs)))) k s h = elim h.1.1.1 [ ]

  choose_holds : (t : Ty) (b : Bool) (f g : Values → ℕ → List Opened → IdealRun Value) (env : Values) (k : ℕ) (s : List Opened)
      → Holds (Held t) (f env k s) → Holds (Held t) (g env k s) → Holds (Held t) (choose b f g env k s)
  choose_holds t true f g env k s h j = h
  choose_holds t false f g env k s h j = j

  -- Expressions, where it holds of calls.
  module _ (called : ℕ → Values → ℕ → List Opened → IdealRun Value)
      (calls : (f : ℕ) (vs : Values) (k : ℕ) (s : List Opened) → AllHeld (function_at P f).parameters vs → Holds (Held (function_at P f).result) (called f vs k s)) where
    abbrev eval : Expression → Values → ℕ → List Opened → IdealRun Value
    eval e env k s = run P ideal_mode called e env k s

    abbrev eval_all : Expressions → Values → ℕ → List Opened → IdealRun Values
    eval_all xs env k s = run_all P ideal_mode called xs env k s

    abbrev eval_arm : Arms → ℕ → Values → ℕ → List Opened → IdealRun Value
    eval_arm arms tag env k s = run_arm P ideal_mode called arms tag env k s

    abbrev Gave : Ty → IdealRun Value → Type 0
    Gave t r = Holds (Held t) r

    -- one value, and two, and what goes on behind them
    one : (a t : Ty) (r : IdealRun Value) (f : Value → ℕ → List Opened → IdealRun Value) → Gave a r
        → ((v : Value) (k : ℕ) (s : List Opened) → Held a v → Gave t (f v k s)) → Gave t (then_run r f)
    one a t r f h on = holds_then (Held a) (Held t) r f h on

    two : (a b t : Ty) (x y : Expression) (env : Values) (k : ℕ) (s : List Opened) (f : Value → Value → ℕ → List Opened → IdealRun Value) → Gave a (eval x env k s)
        → ((k : ℕ) (s : List Opened) → Gave b (eval y env k s))
        → ((u v : Value) (k : ℕ) (s : List Opened) → Held a u → Held b v → Gave t (f u v k s))
        → Gave t (then_run (eval x env k s) (λ u k s. then_run (eval y env k s) (λ v k s. f u v k s)))
    two a b t x y env k s f h j on =
        one a t (eval x env k s) (λ u k s. then_run (eval y env k s) (λ v k s. f u v k s)) h (λ u k s hu.
        one b t (eval y env k s) (λ v k s. f u v k s) (j k s) (λ v k s hv. on u v k s hu hv))

    mutual
      holds : (e : Expression) (ts : List Ty) (t : Ty) → HasType P ts e t → (env : Values) (k : ℕ) (s : List Opened) → AllHeld ts env → Gave t (eval e env k s)
      holds UnitE ts t h env k s i = subst (λ t. Held t UnitV) h (held_unit P format Everywhere)
      holds (BoolE b) ts t h env k s i = subst (λ t. Held t (BoolV b)) h (held_bool P format Everywhere b)
      holds (IntE z) ts t h env k s i = subst (λ t. Held t (IntV z)) h.0 (held_int P format Everywhere z h.1)
      holds (TextE bytes) ts t h env k s i =
          subst (λ t. Held t (TextV bytes)) h.0 (held_text P format Everywhere bytes h.1 (omega (arith, h.2, format.limit_holds)))
      holds (LocalE n) ts t h env k s i = held_local P Everywhere ts env n t i h
      holds (PairE a b x y) ts t h env k s i =
          subst (λ t. Gave t (eval (PairE a b x y) env k s)) h.0
          (two a b (PairTy a b) x y env k s (λ u v k s. limited P.format.limit P.types (PairTy a b) (PairV u v) k s)
          (holds x ts a h.1 env k s i) (λ k s. holds y ts b h.2 env k s i)
          (λ u v k s hu hv. limited_holds (PairTy a b) (PairV u v) k s (λ p q. held_pair P Everywhere a b u v hu hv p q)))
      holds (FstE a b x) ts t h env k s i =
          subst (λ t. Gave t (eval (FstE a b x) env k s)) h.0
          (one (PairTy a b) a (eval x env k s) _ (holds x ts (PairTy a b) h.1 env k s i) (λ v k s hv. held_first P Everywhere a b v hv))
      holds (SndE a b x) ts t h env k s i =
          subst (λ t. Gave t (eval (SndE a b x) env k s)) h.0
          (one (PairTy a b) b (eval x env k s) _ (holds x ts (PairTy a b) h.1 env k s i) (λ v k s hv. held_second P Everywhere a b v hv))
      holds (NotE x) ts t h env k s i =
          subst (λ t. Gave t (eval (NotE x) env k s)) h.0
          (one BoolTy BoolTy (eval x env k s) _ (holds x ts BoolTy h.1 env k s i) (λ v k s hv. held_bool P format Everywhere _))
      holds (LenE x) ts t h env k s i =
          subst (λ t. Gave t (eval (LenE x) env k s)) h.0
          (one TextTy IntTy (eval x env k s) _ (holds x ts TextTy h.1 env k s i) (λ v k s hv.
          let low : length (text_in v) < 2 ^ 63 = omega (arith, length_in P.types v hv.ideal, hv.within.size_fits, format.limit_fits) in
          held_int P format Everywhere (pos (length (text_in v))) (lt-ltb (length (text_in v)) (2 ^ 63) low)))
      holds (AuthE a x) ts t h env k s i =
          subst (λ t. Gave t (eval (AuthE a x) env k s)) h.0
          (one a (AuthTy a) (eval x env k s) _ (holds x ts a h.1 env k s i) (λ v k s hv. held_auth P format Everywhere a v hv))
      holds (UnauthE a x) ts t h env k s i =
          subst (λ t. Gave t (eval (UnauthE a x) env k s)) h.0
          (one (AuthTy a) a (eval x env k s) _ (holds x ts (AuthTy a) h.1 env k s i) (λ v k s hv. record { ideal = hv.ideal; within = (hv.deep tt).0; deep = λ d. (hv.deep d).1 }))
      holds (ConE number tag xs) ts t h env k s i =
          let q = on_fields (fields_at P.types number tag) (λ us. HaveTypes P ts xs us) h.1 in
          subst (λ t. Gave t (eval (ConE number tag xs) env k s)) h.0
          (holds_then (AllHeld q.0) (Held (NamedTy number)) (eval_all xs env k s) (λ vs k s. limited P.format.limit P.types (NamedTy number) (ConV tag vs) k s)
          (all_hold xs ts q.0 q.2 env k s i) (λ vs k s hv. limited_holds (NamedTy number) (ConV tag vs) k s (λ p d. held_con P Everywhere number tag q.0 vs q.1 hv p d)))
      holds (ArithE op x y) ts t h env k s i =
          subst (λ t. Gave t (eval (ArithE op x y) env k s)) h.0
          (two IntTy IntTy IntTy x y env k s (λ u v k s. arith_of op (int_in u) (int_in v) k s) (holds x ts IntTy h.1 env k s i) (λ k s. holds y ts IntTy h.2 env k s i)
          (λ u v k s hu hv. arith_holds op (int_in u) (int_in v) k s (int_fits_in P.types u hu.ideal)))
      holds (CompareE op x y) ts t h env k s i =
          subst (λ t. Gave t (eval (CompareE op x y) env k s)) h.0
          (two IntTy IntTy BoolTy x y env k s _ (holds x ts IntTy h.1 env k s i) (λ k s. holds y ts IntTy h.2 env k s i)
          (λ u v k s hu hv. held_bool P format Everywhere _))
      holds (TextCompareE op x y) ts t h env k s i =
          subst (λ t. Gave t (eval (TextCompareE op x y) env k s)) h.0
          (two TextTy TextTy BoolTy x y env k s _ (holds x ts TextTy h.1 env k s i) (λ k s. holds y ts TextTy h.2 env k s i)
          (λ u v k s hu hv. held_bool P format Everywhere _))
      holds (CatE x y) ts t h env k s i =
          subst (λ t. Gave t (eval (CatE x y) env k s)) h.0
          (two TextTy TextTy TextTy x y env k s (λ u v k s. limited P.format.limit P.types TextTy (TextV (text_in u ++ text_in v)) k s)
          (holds x ts TextTy h.1 env k s i) (λ k s. holds y ts TextTy h.2 env k s i)
          (λ u v k s hu hv. limited_holds TextTy (TextV (text_in u ++ text_in v)) k s
          (λ p d. held_text P format Everywhere (text_in u ++ text_in v) (IsUtf8-append (text_in u) (text_in v) (utf8_in P.types u hu.ideal) (utf8_in P.types v hv.ideal)) p)))
      holds (LetE a x body) ts t h env k s i =
          one a t (eval x env k s) _ (holds x ts a h.0 env k s i) (λ v k s hv.
          holds body (ts ++ a ∷ []) t h.1 (join env (AndV v NoV)) k s (held_join P Everywhere ts (a ∷ []) env (AndV v NoV) i (hv, tt)))
      holds (IfE test first other) ts t h env k s i =
          one BoolTy t (eval test env k s) (λ v k s. choose (bool_in v) (eval first) (eval other) env k s) (holds test ts BoolTy h.0 env k s i) (λ v k s hv.
          choose_holds t (bool_in v) (eval first) (eval other) env k s (holds first ts t h.1 env k s i) (holds other ts t h.2 env k s i))
      holds (MatchE number x arms) ts t h env k s i =
          one (NamedTy number) t (eval x env k s) (λ v k s. eval_arm arms (tag_in v) (join env (fields_in v)) k s) (holds x ts (NamedTy number) h.0 env k s i) (λ v k s hv.
          at_con P.types (λ v. Held (NamedTy number) v → Gave t (eval_arm arms (tag_in v) (join env (fields_in v)) k s)) number v hv.ideal
          (λ tag vs us e ideals hv. arm_holds arms ts (unwrap_or (slice_get P.types number) []) t h.1 tag us (tag_fields (slice_get P.types number) tag us e) env vs k s i
          (held_parts P Everywhere number tag us vs e ideals hv)) hv)
      holds (CallE f args) ts t h env k s i =
          let typed : ((function_at P f).result ≡ t) × HaveTypes P ts args (function_at P f).parameters =
          on_function (slice_get P.functions f) (λ g. (g.result ≡ t) × HaveTypes P ts args g.parameters) h in
          subst (λ t. Gave t (eval (CallE f args) env k s)) typed.0
          (holds_then (AllHeld (function_at P f).parameters) (Held (function_at P f).result) (eval_all args env k s) (λ vs k s. called f vs k s)
          (all_hold args ts (function_at P f).parameters typed.1 env k s i) (λ vs k s hv. calls f vs k s hv))
      holds (OperateE op xs) ts t h env k s i =
          subst (λ t. Gave t (eval (OperateE op xs) env k s)) h.0
          (holds_then (AllHeld (operand_types op)) (Held (result_type op)) (eval_all xs env k s) (λ vs k s. operate P.format.limit P.types op vs k s)
          (all_hold xs ts (operand_types op) h.2 env k s i) (λ vs k s hv. operate_holds op vs k s hv))

      all_hold : (xs : Expressions) (ts us : List Ty) → HaveTypes P ts xs us → (env : Values) (k : ℕ) (s : List Opened) → AllHeld ts env → Holds (AllHeld us) (eval_all xs env k s)
      all_hold NoE ts [] h env k s i = tt
      all_hold NoE ts (u ∷ us) h env k s i = elim h [ ]
      all_hold (AndE x xs) ts [] h env k s i = elim h [ ]
      all_hold (AndE x xs) ts (u ∷ us) h env k s i =
          holds_then (Held u) (AllHeld (u ∷ us)) (eval x env k s) (λ v k s. then_run (eval_all xs env k s) (λ vs k s. Gives (AndV v vs) k s)) (holds x ts u h.0 env k s i) (λ v k s hv.
          holds_then (AllHeld us) (AllHeld (u ∷ us)) (eval_all xs env k s) (λ vs k s. Gives (AndV v vs) k s) (all_hold xs ts us h.1 env k s i) (λ vs k s hvs. (hv, hvs)))

      arm_holds : (arms : Arms) (ts : List Ty) (cs : List (List Ty)) (t : Ty) → HaveArms P ts cs arms t → (tag : ℕ) (us : List Ty) → slice_get cs tag ≡ Some us
          → (env vs : Values) (k : ℕ) (s : List Opened) → AllHeld ts env → AllHeld us vs → Gave t (eval_arm arms tag (join env vs) k s)
      arm_holds NoArm ts [] t h tag us e env vs k s i j = cc
      arm_holds NoArm ts (c ∷ cs) t h tag us e env vs k s i j = elim h [ ]
      arm_holds (AndArm body arms) ts [] t h tag us e env vs k s i j = elim h [ ]
      arm_holds (AndArm body arms) ts (c ∷ cs) t h zero us e env vs k s i j =
          let same : c ≡ us = cc in
          holds body (ts ++ us) t (subst (λ c. HasType P (ts ++ c) body t) same h.0) (join env vs) k s (held_join P Everywhere ts us env vs i j)
      arm_holds (AndArm body arms) ts (c ∷ cs) t h (suc tag) us e env vs k s i j = arm_holds arms ts cs t h.1 tag us e env vs k s i j

  module _ (typed : IsWrittenWell P) where
    -- the body of each function, also of one that isn't there, has its type
    body_typed : (f : ℕ) → HasType P (function_at P f).parameters (function_at P f).body (function_at P f).result
    body_typed f = by (slice_get P.functions f) refl
      where
        by : (o : Option Function) → slice_get P.functions f ≡ o → HasType P (unwrap_or o no_function).parameters (unwrap_or o no_function).body (unwrap_or o no_function).result
        by (Some g) e = typed f g e
        by None e = refl

    calls_hold : (n f : ℕ) (vs : Values) (k : ℕ) (s : List Opened) → AllHeld (function_at P f).parameters vs → Holds (Held (function_at P f).result) (call P ideal_mode n f vs k s)
    calls_hold zero f vs k s h = tt
    calls_hold (suc n) f vs zero s h = tt
    calls_hold (suc n) f vs (suc k) s h =
        holds (call P ideal_mode n) (calls_hold n) (function_at P f).body (function_at P f).parameters (function_at P f).result (body_typed f) vs k s h

    -- a call from outside, on ideal values within the limits
    pub bodies_hold : (f : ℕ) (vs : Values) (k : ℕ) → AreIdeal P.types (function_at P f).parameters vs → AllFit P (function_at P f).parameters vs
        → AuthWithinAll P.format.limit P.types (function_at P f).parameters vs → Holds (Held (function_at P f).result) (call P ideal_mode k f vs k [])
    bodies_hold f vs k ideals fit deep = calls_hold k f vs k [] (held_inputs P Everywhere (function_at P f).parameters vs ideals fit (λ d. deep))
