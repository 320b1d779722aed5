-- The checked run is the projection of the ideal one, as long as the pieces are honest: by induction on the expression, where
-- it holds of the calls in it.
use Rattle.std.proofs.Common.{◌≡◌, ℕ, zero, suc, ◌<◌, ◌≤◌, ◌^◌, Bool, true, false, not, List, [], ◌∷◌, ◌++◌, length, ℤ, pos, negsuc, ◌+ℤ◌, ◌-ℤ◌, ◌*ℤ◌, int_div, int_rem, nat_lt, ltb-true, Option, Some, None, unwrap_or, slice_get, if◌then◌else◌, refl, sym, ap, subst, arith, ltb-false, lt-ltb, lt_of_le_of_lt}
use lib.Signed.{mag_rem}
use Rattle.std.specs.Option.{option_and_then}
use Rattle.std.proofs.lemmas.Str.{IsUtf8-append}
use Rattle.core_terms.specs.Types.{Ty, UnitTy, BoolTy, IntTy, TextTy, PairTy, NamedTy, AuthTy, VecTy, fields_at, item_types}
use Rattle.core_terms.specs.Formats.{Hash, IsFormat, depth_limit}
use Rattle.core_terms.specs.Values.{Value, UnitV, BoolV, IntV, TextV, PairV, ConV, DigestV, ItemsV, Values, NoV, AndV, IsIdeal, int_fits, size, depth}
use Rattle.core_terms.specs.Spelling.{spelling}
use Rattle.core_terms.specs.Terms.{Expression, UnitE, BoolE, IntE, TextE, LocalE, PairE, FstE, SndE, NotE, LenE, AuthE, UnauthE, ConE, ArithE, CompareE, TextCompareE, CatE, LetE, IfE, MatchE, CallE, OperateE, Operation, VecFill, VecGet, VecPut, operand_types, result_type, Expressions, NoE, AndE, Arms, NoArm, AndArm, Function, no_function, Program, function_at}
use Rattle.core_terms.specs.TypingRules.{OnFunction, HasType, HaveTypes, HaveArms}
use Rattle.core_terms.specs.declared.term.Arith.{Arith}
use Rattle.core_terms.specs.declared.term.Arith.TheVariants.{Add, Sub, Mul, Div, Rem}
use Rattle.core_terms.specs.Projection.{digest_at, projection, projections}
use Rattle.core_terms.proofs.Numbers.{mag_of, of_mag}
use Rattle.core_terms.proofs.Fields.{on_fields}
use Rattle.core_terms.proofs.Projection.{size_shallow, depth_shallow}
use Rattle.ideal_meaning.specs.Run.{Trap, TooBig, TooDeep, Overflow, Index, Traps, Run, Gives, Ends, then_run, with_fuel, local, join, first_in, second_in, bool_in, int_in, text_in, tag_in, fields_in, divided, arith_of, compare_of, text_compare_of, choose, limited, at_index, operate, fill_of, get_of, put_of, items_in, repeated, replaced, run, run_all, run_arm}
use Rattle.ideal_meaning.specs.Ideal.{Opened, ideal_mode}
use Rattle.ideal_meaning.specs.PieceForms.{PieceForm}
use Rattle.ideal_meaning.specs.Checked.{Taking, Cause, checked_mode_as, take_as, digest_in}
use Rattle.ideal_meaning.proofs.Grows.{Grows, grows, grows_all, grows_arm, grows_then, grows_limited, grows_operate, grows_arith, grows_choose, gives}
use Rattle.ideal_meaning.proofs.InHand.{int_fits_in, utf8_in, length_in, first_projection, second_projection, at_con, IsHeld, AreHeld, held_unit, held_bool, held_int, held_text, held_local, local_projection, held_join, join_projection, held_pair, held_first, held_second, held_con, held_parts, held_auth, at_int, at_items, item_type_at, held_items, held_elements, held_repeated, held_replaced, repeated_projection, replaced_projection}
use Rattle.ideal_meaning.proofs.Relation.{InStep, Agree, agree_then, agree_gives, agree_traps, agree_if}
use Rattle.ideal_meaning.proofs.Opening.{IsFormOf, ReadsBackAs, opens}

-- a fact about a function that is there
on_function : (o : Option Function) (Q : Function → Type 0) → OnFunction o Q → Q (unwrap_or o no_function)
on_function (Some g) Q h = h
on_function None Q h = elim h [ ]

-- the fields of a constructor are among those of its type
tag_fields : (o : Option (List (List Ty))) (tag : ℕ) (us : List Ty) → option_and_then (λ cs. slice_get cs tag) o ≡ Some us → slice_get (unwrap_or o []) tag ≡ Some us
tag_fields None tag us e = cc
tag_fields (Some cs) tag us e = e

-- a remainder is an int where the dividend is
rem_fits : (x d : ℤ) → int_fits x ≡ true → int_fits (int_rem x d) ≡ true
rem_fits x d e = of_mag (int_rem x d) (lt_of_le_of_lt (mag_rem x d) (mag_of x e))

-- the runs of the two modes
abbrev IdealRun : Type 0 → Type 0
IdealRun A = Run ⊥ (List Opened) A

abbrev CheckedRun : Type 0 → Type 0
CheckedRun A = Run Cause Taking A

abbrev IdealStepOnAll : Type 0
IdealStepOnAll = Values → ℕ → List Opened → IdealRun Value

abbrev CheckedStepOnAll : Type 0
CheckedStepOnAll = Values → ℕ → Taking → CheckedRun Value

-- what goes on behind a value, and behind two: in the ideal run, in the checked run, and as one step in both
abbrev IdealStep : Type 0
IdealStep = Value → ℕ → List Opened → IdealRun Value

abbrev CheckedStep : Type 0
CheckedStep = Value → ℕ → Taking → CheckedRun Value

abbrev Step : Type 1
Step = (C W : Type 0) → Value → ℕ → W → Run C W Value

abbrev StepOnTwo : Type 1
StepOnTwo = (C W : Type 0) → Value → Value → ℕ → W → Run C W Value

-- In all that follows k is the fuel left, s what was opened so far, w the verifier's state, y says that w fits s, and i that the
-- locals are known as values in hand.
module _ (hash : Hash) (P : Program) (form : PieceForm) (format : IsFormat P.format) (Deep : Type 0) (began : Taking) where
  abbrev Projected : Ty → Value → Value
  Projected t v = projection hash P t v

  abbrev AllProjected : List Ty → Values → Values
  AllProjected ts vs = projections hash P ts vs

  abbrev Held : Ty → Value → Type 0
  Held t v = IsHeld P Deep t v

  abbrev Synced : List Opened → Taking → Type 0
  Synced s w = InStep hash P form Deep began s w

  -- the runs agree at a value of type t, and at values of these types
  abbrev pub Both : Ty → IdealRun Value → CheckedRun Value → Type 0
  Both t ideal checked = Agree hash P form Deep began (IsHeld P Deep t) (projection hash P t) ideal checked

  abbrev pub BothAll : List Ty → IdealRun Values → CheckedRun Values → Type 0
  BothAll ts ideal checked = Agree hash P form Deep began (AreHeld P Deep ts) (projections hash P ts) ideal checked

  -- a value, and what goes on behind it
  after : (a t : Ty) (ideal : IdealRun Value) (checked : CheckedRun Value) (f : IdealStep) (g : CheckedStep)
      → Both a ideal checked → ((v : Value) (k : ℕ) (s : List Opened) → Grows s (f v k s))
      → ((v : Value) (k : ℕ) (s : List Opened) (w : Taking) → Held a v → Synced s w → Both t (f v k s) (g (Projected a v) k w))
      → Both t (then_run ideal f) (then_run checked g)
  after a t ideal checked f g h grow on =
      agree_then hash P form Deep began (IsHeld P Deep a) (projection hash P a) (IsHeld P Deep t) (projection hash P t) ideal checked f g h grow on

  -- values, and what goes on behind them
  after_all : (us : List Ty) (t : Ty) (ideal : IdealRun Values) (checked : CheckedRun Values) (f : IdealStepOnAll) (g : CheckedStepOnAll)
      → BothAll us ideal checked → ((vs : Values) (k : ℕ) (s : List Opened) → Grows s (f vs k s))
      → ((vs : Values) (k : ℕ) (s : List Opened) (w : Taking) → AreHeld P Deep us vs → Synced s w → Both t (f vs k s) (g (AllProjected us vs) k w))
      → Both t (then_run ideal f) (then_run checked g)
  after_all us t ideal checked f g h grow on =
      agree_then hash P form Deep began (AreHeld P Deep us) (projections hash P us) (IsHeld P Deep t) (projection hash P t) ideal checked f g h grow on

  -- both give a value, or trap, or take the same branch
  both_gives : (t : Ty) (v shallow : Value) (k : ℕ) (s : List Opened) (w : Taking) → Held t v → shallow ≡ Projected t v → Synced s w → Both t (Gives v k s) (Gives shallow k w)
  both_gives t v shallow k s w h e y = agree_gives hash P form Deep began (IsHeld P Deep t) (projection hash P t) v shallow k s w h e y

  both_traps : (t : Ty) (trap : Trap) (k : ℕ) (s : List Opened) (w : Taking) → Synced s w → Both t (Ends (Traps trap) k s) (Ends (Traps trap) k w)
  both_traps t trap k s w y = agree_traps hash P form Deep began (IsHeld P Deep t) (projection hash P t) trap k s w y

  both_if : (t : Ty) (b c : Bool) (r1 r2 : IdealRun Value) (q1 q2 : CheckedRun Value)
      → c ≡ b → (b ≡ true → Both t r1 q1) → (b ≡ false → Both t r2 q2) → Both t (if b then r1 else r2) (if c then q1 else q2)
  both_if t b c r1 r2 q1 q2 e h j = agree_if hash P form Deep began (IsHeld P Deep t) (projection hash P t) b c r1 r2 q1 q2 e h j

  both_choose : (t : Ty) (b : Bool) (f1 f2 : IdealStepOnAll) (g1 g2 : CheckedStepOnAll) (env shallow : Values) (k : ℕ) (s : List Opened) (w : Taking)
      → Both t (f1 env k s) (g1 shallow k w) → Both t (f2 env k s) (g2 shallow k w) → Both t (choose b f1 f2 env k s) (choose b g1 g2 shallow k w)
  both_choose t true f1 f2 g1 g2 env shallow k s w h j = h
  both_choose t false f1 f2 g1 g2 env shallow k s w h j = j

  -- a new value is within the limits in both runs, or in neither
  pub both_limited : (t : Ty) (v shallow : Value) (k : ℕ) (s : List Opened) (w : Taking) → shallow ≡ Projected t v
      → (size P.types t v ≤ P.format.limit → depth P.types t v ≤ depth_limit → Held t v) → Synced s w
      → Both t (limited P.format.limit P.types t v k s) (limited P.format.limit P.types t shallow k w)
  both_limited t v shallow k s w e held y =
      subst (λ shallow. Both t (limited P.format.limit P.types t v k s) (limited P.format.limit P.types t shallow k w)) (sym e)
      (both_if t (nat_lt P.format.limit (size P.types t v)) (nat_lt P.format.limit (size P.types t (Projected t v))) _ _ _ _
      (ap (λ n. nat_lt P.format.limit n) (size_shallow (digest_at hash P) P.types t v))
      (λ q. both_traps t TooBig k s w y)
      (λ q. both_if t (nat_lt depth_limit (depth P.types t v)) (nat_lt depth_limit (depth P.types t (Projected t v))) _ _ _ _
      (ap (λ n. nat_lt depth_limit n) (depth_shallow (digest_at hash P) P.types t v))
      (λ r. both_traps t TooDeep k s w y)
      (λ r. both_gives t v (Projected t v) k s w (held (ltb-false P.format.limit _ q) (ltb-false depth_limit _ r)) refl y)))

  -- arithmetic
  both_int : (b : Bool) (z : ℤ) (k : ℕ) (s : List Opened) (w : Taking) → (b ≡ true → int_fits z ≡ true) → Synced s w
      → Both IntTy (if b then Gives (IntV z) k s else Ends (Traps Overflow) k s) (if b then Gives (IntV z) k w else Ends (Traps Overflow) k w)
  both_int b z k s w fits y =
      both_if IntTy b b _ _ _ _ refl (λ q. both_gives IntTy (IntV z) (IntV z) k s w (held_int P format Deep z (fits q)) refl y) (λ q. both_traps IntTy Overflow k s w y)

  both_divided : (z x d : ℤ) (k : ℕ) (s : List Opened) (w : Taking) → (int_fits (int_div x d) ≡ true → int_fits z ≡ true) → Synced s w
      → Both IntTy (divided z x d k s) (divided z x d k w)
  both_divided z x (pos zero) k s w fits y = both_traps IntTy _ k s w y
  both_divided z x (pos (suc n)) k s w fits y = both_int (int_fits (int_div x (pos (suc n)))) z k s w fits y
  both_divided z x (negsuc n) k s w fits y = both_int (int_fits (int_div x (negsuc n))) z k s w fits y

  pub both_arith : (op : Arith) (x d : ℤ) (k : ℕ) (s : List Opened) (w : Taking) → int_fits x ≡ true → Synced s w → Both IntTy (arith_of op x d k s) (arith_of op x d k w)
  both_arith Add x d k s w fx y = both_int (int_fits (x +ℤ d)) (x +ℤ d) k s w (λ q. q) y
  both_arith Sub x d k s w fx y = both_int (int_fits (x -ℤ d)) (x -ℤ d) k s w (λ q. q) y
  both_arith Mul x d k s w fx y = both_int (int_fits (x *ℤ d)) (x *ℤ d) k s w (λ q. q) y
  both_arith Div x d k s w fx y = both_divided (int_div x d) x d k s w (λ q. q) y
  both_arith Rem x d k s w fx y = both_divided (int_rem x d) x d k s w (λ q. rem_fits x d fx) y

  -- operations
  both_index : (n : ℕ) (t : Ty) (z : ℤ) (f : ℕ → ℕ → List Opened → IdealRun Value) (g : ℕ → ℕ → Taking → CheckedRun Value) (k : ℕ) (s : List Opened) (w : Taking)
      → ((i : ℕ) → i < n → Both t (f i k s) (g i k w)) → Synced s w → Both t (at_index n z f k s) (at_index n z g k w)
  both_index n t (pos i) f g k s w h y = both_if t (nat_lt i n) (nat_lt i n) _ _ _ _ refl (λ q. h i (ltb-true i n q)) (λ q. both_traps t Index k s w y)
  both_index n t (negsuc i) f g k s w h y = both_traps t Index k s w y

  pub both_fill : (n : ℕ) (t : Ty) (v : Value) (k : ℕ) (s : List Opened) (w : Taking) → Held t v → Synced s w
      → Both (VecTy n t) (fill_of P.format.limit P.types n t v k s) (fill_of P.format.limit P.types n t (Projected t v) k w)
  both_fill n t v k s w h y =
      both_limited (VecTy n t) (ItemsV (repeated n v)) (ItemsV (repeated n (Projected t v))) k s w (ap ItemsV (repeated_projection P Deep hash n t v))
      (λ p d. held_items P Deep n t (repeated n v) (held_repeated P Deep n t v h) p d) y

  pub both_get : (n : ℕ) (t : Ty) (es : Values) (z : ℤ) (k : ℕ) (s : List Opened) (w : Taking) → AreHeld P Deep (item_types n t) es → Synced s w
      → Both t (get_of n es z k s) (get_of n (AllProjected (item_types n t) es) z k w)
  both_get n t es z k s w h y =
      both_index n t z (λ i k s. Gives (local es i) k s) (λ i k w. Gives (local (AllProjected (item_types n t) es) i) k w) k s w
      (λ i l. both_gives t (local es i) (local (AllProjected (item_types n t) es) i) k s w (held_local P Deep (item_types n t) es i t h (item_type_at n i t l))
      (local_projection P Deep hash (item_types n t) es i t h (item_type_at n i t l)) y) y

  pub both_put : (n : ℕ) (t : Ty) (es : Values) (z : ℤ) (v : Value) (k : ℕ) (s : List Opened) (w : Taking) → AreHeld P Deep (item_types n t) es → Held t v → Synced s w
      → Both (VecTy n t) (put_of P.format.limit P.types n t es z v k s) (put_of P.format.limit P.types n t (AllProjected (item_types n t) es) z (Projected t v) k w)
  both_put n t es z v k s w h j y =
      both_index n (VecTy n t) z (λ i k s. limited P.format.limit P.types (VecTy n t) (ItemsV (replaced es i v)) k s)
      (λ i k w. limited P.format.limit P.types (VecTy n t) (ItemsV (replaced (AllProjected (item_types n t) es) i (Projected t v))) k w) k s w
      (λ i l. both_limited (VecTy n t) (ItemsV (replaced es i v)) (ItemsV (replaced (AllProjected (item_types n t) es) i (Projected t v))) k s w
      (ap ItemsV (replaced_projection P Deep hash n i t es v h)) (λ p d. held_items P Deep n t (replaced es i v) (held_replaced P Deep n i t es v h j) p d) y) y

  both_operate : (op : Operation) (vs : Values) (k : ℕ) (s : List Opened) (w : Taking) → AreHeld P Deep (operand_types op) vs → Synced s w
      → Both (result_type op) (operate P.format.limit P.types op vs k s) (operate P.format.limit P.types op (AllProjected (operand_types op) vs) k w)
  both_operate (VecFill n t) (AndV v NoV) k s w h y = both_fill n t v k s w h.0 y
  both_operate (VecGet n t) (AndV u (AndV z NoV)) k s w h y =
      at_int P.types (λ z. Both t (get_of n (items_in u) (int_in z) k s) (get_of n (items_in (Projected (VecTy n t) u)) (int_in (Projected IntTy z)) k w)) z h.1.0.ideal
      (λ c. at_items P.types (λ u. Held (VecTy n t) u → Both t (get_of n (items_in u) c k s) (get_of n (items_in (Projected (VecTy n t) u)) c k w)) n t u h.0.ideal
      (λ es i j. both_get n t es c k s w (held_elements P Deep n t es i j) y) h.0)
  both_operate (VecPut n t) (AndV u (AndV z (AndV v NoV))) k s w h y =
      at_int P.types (λ z. Both (VecTy n t) (put_of P.format.limit P.types n t (items_in u) (int_in z) v k s)
      (put_of P.format.limit P.types n t (items_in (Projected (VecTy n t) u)) (int_in (Projected IntTy z)) (Projected t v) k w)) z h.1.0.ideal
      (λ c. at_items P.types (λ u. Held (VecTy n t) u → Both (VecTy n t) (put_of P.format.limit P.types n t (items_in u) c v k s)
      (put_of P.format.limit P.types n t (items_in (Projected (VecTy n t) u)) c (Projected t v) k w)) n t u h.0.ideal
      (λ es i j. both_put n t es c v k s w (held_elements P Deep n t es i j) h.1.1.0 y) h.0)
  both_operate (VecFill n t) NoV k s w h y = elim h [ ]
  both_operate (VecFill n t) (AndV v (AndV u vs)) k s w h y = elim h.1 [ ]
  both_operate (VecGet n t) NoV k s w h y = elim h [ ]
  both_operate (VecGet n t) (AndV u NoV) k s w h y = elim h.1 [ ]
  both_operate (VecGet n t) (AndV u (AndV z (AndV v vs))) k s w h y = elim h.1.1 [ ]
  both_operate (VecPut n t) NoV k s w h y = elim h [ ]
  both_operate (VecPut n t) (AndV u NoV) k s w h y = elim h.1 [ ]
  both_operate (VecPut n t) (AndV u (AndV z NoV)) k s w h y = elim h.1.1 [ ]
  both_operate (VecPut n t) (AndV u (AndV z (AndV v (AndV r vs)))) k s w h y = elim h.1.1.1 [ ]

  -- Expressions, where calls agree.
  module _ (is_form : IsFormOf hash P form) (reads_back : (t : Ty) (v : Value) → IsIdeal P.types t v → ReadsBackAs hash P form t v)
      (ideal_call : ℕ → IdealStepOnAll) (checked_call : ℕ → CheckedStepOnAll)
      (ideal_grows : (f : ℕ) (vs : Values) (k : ℕ) (s : List Opened) → Grows s (ideal_call f vs k s))
      (calls : (f : ℕ) (vs : Values) (k : ℕ) (s : List Opened) (w : Taking) → AreHeld P Deep (function_at P f).parameters vs → Synced s w
      → Both (function_at P f).result (ideal_call f vs k s) (checked_call f (projections hash P (function_at P f).parameters vs) k w)) where
    -- the two runs of an expression, of operands and of arms
    abbrev ideal_run : Expression → IdealStepOnAll
    ideal_run e env k s = run P ideal_mode ideal_call e env k s

    abbrev checked_run : Expression → CheckedStepOnAll
    checked_run e env k w = run P (checked_mode_as hash P form) checked_call e env k w

    abbrev ideal_run_all : Expressions → Values → ℕ → List Opened → IdealRun Values
    ideal_run_all xs env k s = run_all P ideal_mode ideal_call xs env k s

    abbrev checked_run_all : Expressions → Values → ℕ → Taking → CheckedRun Values
    checked_run_all xs env k w = run_all P (checked_mode_as hash P form) checked_call xs env k w

    abbrev ideal_arm : Arms → ℕ → IdealStepOnAll
    ideal_arm arms tag env k s = run_arm P ideal_mode ideal_call arms tag env k s

    abbrev checked_arm : Arms → ℕ → CheckedStepOnAll
    checked_arm arms tag env k w = run_arm P (checked_mode_as hash P form) checked_call arms tag env k w

    -- the ideal run only adds to what was opened
    grow : (e : Expression) (env : Values) (k : ℕ) (s : List Opened) → Grows s (ideal_run e env k s)
    grow e env k s = grows P ideal_call ideal_grows e env k s

    -- where the locals have the types ts and the values env, the two runs of e agree at type t
    abbrev Agrees : Expression → List Ty → Values → ℕ → List Opened → Taking → Ty → Type 0
    Agrees e ts env k s w t = Both t (ideal_run e env k s) (checked_run e (AllProjected ts env) k w)

    -- an expression, and one step behind it
    one : (x : Expression) (ts : List Ty) (env : Values) (k : ℕ) (s : List Opened) (w : Taking) (a t : Ty) (step : Step) → Agrees x ts env k s w a
        → ((v : Value) (k : ℕ) (s : List Opened) → Grows s (step ⊥ (List Opened) v k s))
        → ((v : Value) (k : ℕ) (s : List Opened) (w : Taking) → Held a v → Synced s w → Both t (step ⊥ (List Opened) v k s) (step Cause Taking (Projected a v) k w))
        → Both t (then_run (ideal_run x env k s) (λ v k s. step ⊥ (List Opened) v k s)) (then_run (checked_run x (AllProjected ts env) k w) (λ v k w. step Cause Taking v k w))
    one x ts env k s w a t step h grow on =
        after a t (ideal_run x env k s) (checked_run x (AllProjected ts env) k w) (λ v k s. step ⊥ (List Opened) v k s)
        (λ v k w. step Cause Taking v k w) h grow on

    -- two expressions, and one step behind them
    two : (x z : Expression) (ts : List Ty) (env : Values) (k : ℕ) (s : List Opened) (w : Taking) (a b t : Ty) (step : StepOnTwo) → Agrees x ts env k s w a
        → ((k : ℕ) (s : List Opened) (w : Taking) → Synced s w → Agrees z ts env k s w b)
        → ((u v : Value) (k : ℕ) (s : List Opened) → Grows s (step ⊥ (List Opened) u v k s))
        → ((u v : Value) (k : ℕ) (s : List Opened) (w : Taking) → Held a u → Held b v → Synced s w
        → Both t (step ⊥ (List Opened) u v k s) (step Cause Taking (Projected a u) (Projected b v) k w))
        → Both t (then_run (ideal_run x env k s) (λ u k s. then_run (ideal_run z env k s) (λ v k s. step ⊥ (List Opened) u v k s)))
        (then_run (checked_run x (AllProjected ts env) k w) (λ u k w. then_run (checked_run z (AllProjected ts env) k w) (λ v k w. step Cause Taking u v k w)))
    two x z ts env k s w a b t step h j grow_step on =
        after a t (ideal_run x env k s) (checked_run x (AllProjected ts env) k w)
        (λ u k s. then_run (ideal_run z env k s) (λ v k s. step ⊥ (List Opened) u v k s)) (λ u k w. then_run (checked_run z (AllProjected ts env) k w) (λ v k w. step Cause Taking u v k w)) h
        (λ u k s. grows_then s (ideal_run z env k s) (λ v k s. step ⊥ (List Opened) u v k s) (grow z env k s) (λ v k s. grow_step u v k s))
        (λ u k s w hu y. after b t (ideal_run z env k s) (checked_run z (AllProjected ts env) k w) (λ v k s. step ⊥ (List Opened) u v k s)
        (λ v k w. step Cause Taking (Projected a u) v k w) (j k s w y) (λ v k s. grow_step u v k s) (λ v k s w hv y. on u v k s w hu hv y))

    -- where more locals were added behind the ones there
    joined : (e : Expression) (ts us : List Ty) (t : Ty) (env vs : Values) (k : ℕ) (s : List Opened) (w : Taking) → AreHeld P Deep ts env → Agrees e (ts ++ us) (join env vs) k s w t
        → Both t (ideal_run e (join env vs) k s) (checked_run e (join (AllProjected ts env) (AllProjected us vs)) k w)
    joined e ts us t env vs k s w i h =
        subst (λ shallow. Both t (ideal_run e (join env vs) k s) (checked_run e shallow k w)) (join_projection P Deep hash ts us env vs i) h

    mutual
      -- an expression of type t
      pub sim : (e : Expression) (ts : List Ty) (t : Ty) → HasType P ts e t → (env : Values) (k : ℕ) (s : List Opened) (w : Taking)
          → AreHeld P Deep ts env → Synced s w → Agrees e ts env k s w t
      sim UnitE ts t h env k s w i y = subst (Agrees UnitE ts env k s w) h (both_gives UnitTy UnitV UnitV k s w (held_unit P format Deep) refl y)
      sim (BoolE b) ts t h env k s w i y = subst (Agrees (BoolE b) ts env k s w) h (both_gives BoolTy (BoolV b) (BoolV b) k s w (held_bool P format Deep b) refl y)
      sim (IntE z) ts t h env k s w i y = subst (Agrees (IntE z) ts env k s w) h.0 (both_gives IntTy (IntV z) (IntV z) k s w (held_int P format Deep z h.1) refl y)
      sim (TextE bytes) ts t h env k s w i y =
          subst (Agrees (TextE bytes) ts env k s w) h.0
          (both_gives TextTy (TextV bytes) (TextV bytes) k s w (held_text P format Deep bytes h.1 (omega (arith, h.2, format.limit_holds))) refl y)
      sim (LocalE n) ts t h env k s w i y =
          both_gives t (local env n) (local (AllProjected ts env) n) k s w (held_local P Deep ts env n t i h) (local_projection P Deep hash ts env n t i h) y
      sim (PairE a b x z) ts t h env k s w i y =
          subst (Agrees (PairE a b x z) ts env k s w) h.0
          (two x z ts env k s w a b (PairTy a b) (λ C W u v k w. limited P.format.limit P.types (PairTy a b) (PairV u v) k w)
          (sim x ts a h.1 env k s w i y) (λ k s w y. sim z ts b h.2 env k s w i y) (λ u v k s. grows_limited P (PairTy a b) (PairV u v) k s)
          (λ u v k s w hu hv y. both_limited (PairTy a b) (PairV u v) (PairV (Projected a u) (Projected b v)) k s w refl (λ p q. held_pair P Deep a b u v hu hv p q) y))
      sim (FstE a b x) ts t h env k s w i y =
          subst (Agrees (FstE a b x) ts env k s w) h.0
          (one x ts env k s w (PairTy a b) a (λ C W v k w. Gives (first_in v) k w) (sim x ts (PairTy a b) h.1 env k s w i y) (λ v k s. gives _ k s)
          (λ v k s w hv y. both_gives a (first_in v) (first_in (Projected (PairTy a b) v)) k s w (held_first P Deep a b v hv) (first_projection P.types hash P a b v hv.ideal) y))
      sim (SndE a b x) ts t h env k s w i y =
          subst (Agrees (SndE a b x) ts env k s w) h.0
          (one x ts env k s w (PairTy a b) b (λ C W v k w. Gives (second_in v) k w) (sim x ts (PairTy a b) h.1 env k s w i y) (λ v k s. gives _ k s)
          (λ v k s w hv y. both_gives b (second_in v) (second_in (Projected (PairTy a b) v)) k s w (held_second P Deep a b v hv) (second_projection P.types hash P a b v hv.ideal) y))
      sim (NotE x) ts t h env k s w i y =
          subst (Agrees (NotE x) ts env k s w) h.0
          (one x ts env k s w BoolTy BoolTy (λ C W v k w. Gives (BoolV (not (bool_in v))) k w) (sim x ts BoolTy h.1 env k s w i y) (λ v k s. gives _ k s)
          (λ v k s w hv y. both_gives BoolTy (BoolV (not (bool_in v))) (BoolV (not (bool_in v))) k s w (held_bool P format Deep (not (bool_in v))) refl y))
      sim (LenE x) ts t h env k s w i y =
          subst (Agrees (LenE x) ts env k s w) h.0
          (one x ts env k s w TextTy IntTy (λ C W v k w. Gives (IntV (pos (length (text_in v)))) k w) (sim x ts TextTy h.1 env k s w i y) (λ v k s. gives _ k s)
          (λ v k s w hv y. let low : length (text_in v) < 2 ^ 63 = omega (arith, length_in P.types v hv.ideal, hv.within.size_fits, format.limit_fits) in
          both_gives IntTy (IntV (pos (length (text_in v)))) (IntV (pos (length (text_in v)))) k s w
          (held_int P format Deep (pos (length (text_in v))) (lt-ltb (length (text_in v)) (2 ^ 63) low)) refl y))
      sim (AuthE a x) ts t h env k s w i y =
          subst (Agrees (AuthE a x) ts env k s w) h.0
          (after a (AuthTy a) (ideal_run x env k s) (checked_run x (AllProjected ts env) k w) (λ v k s. Gives v k s) (λ v k w. Gives (DigestV (digest_at hash P a (spelling v))) k w)
          (sim x ts a h.1 env k s w i y) (λ v k s. gives _ k s)
          (λ v k s w hv y. both_gives (AuthTy a) v (Projected (AuthTy a) v) k s w (held_auth P format Deep a v hv) refl y))
      sim (UnauthE a x) ts t h env k s w i y =
          subst (Agrees (UnauthE a x) ts env k s w) h.0
          (after (AuthTy a) a (ideal_run x env k s) (checked_run x (AllProjected ts env) k w) (λ v k s. Gives v k (s ++ record { ty = a; value = v } ∷ []))
          (λ v k w. with_fuel k (take_as hash P form a (digest_in v) w.place w.more w))
          (sim x ts (AuthTy a) h.1 env k s w i y) (λ v k s. record { added = _; is = refl })
          (λ v k s w hv y. opens hash P form is_form reads_back Deep began a v hv k s w y))
      sim (ConE number tag xs) ts t h env k s w i y =
          let q = on_fields (fields_at P.types number tag) (λ us. HaveTypes P ts xs us) h.1 in
          subst (Agrees (ConE number tag xs) ts env k s w) h.0
          (after_all q.0 (NamedTy number) (ideal_run_all xs env k s) (checked_run_all xs (AllProjected ts env) k w)
          (λ vs k s. limited P.format.limit P.types (NamedTy number) (ConV tag vs) k s) (λ vs k w. limited P.format.limit P.types (NamedTy number) (ConV tag vs) k w)
          (sim_all xs ts q.0 q.2 env k s w i y) (λ vs k s. grows_limited P (NamedTy number) (ConV tag vs) k s)
          (λ vs k s w hv y. both_limited (NamedTy number) (ConV tag vs) (ConV tag (AllProjected q.0 vs)) k s w
          (ap (λ o. ConV tag (AllProjected (unwrap_or o []) vs)) (sym q.1))
          (λ p d. held_con P Deep number tag q.0 vs q.1 hv p d) y))
      sim (ArithE op x z) ts t h env k s w i y =
          subst (Agrees (ArithE op x z) ts env k s w) h.0
          (two x z ts env k s w IntTy IntTy IntTy (λ C W u v k w. arith_of op (int_in u) (int_in v) k w)
          (sim x ts IntTy h.1 env k s w i y) (λ k s w y. sim z ts IntTy h.2 env k s w i y) (λ u v k s. grows_arith op (int_in u) (int_in v) k s)
          (λ u v k s w hu hv y. both_arith op (int_in u) (int_in v) k s w (int_fits_in P.types u hu.ideal) y))
      sim (CompareE op x z) ts t h env k s w i y =
          subst (Agrees (CompareE op x z) ts env k s w) h.0
          (two x z ts env k s w IntTy IntTy BoolTy (λ C W u v k w. Gives (BoolV (compare_of op (int_in u) (int_in v))) k w)
          (sim x ts IntTy h.1 env k s w i y) (λ k s w y. sim z ts IntTy h.2 env k s w i y) (λ u v k s. gives _ k s)
          (λ u v k s w hu hv y. both_gives BoolTy _ _ k s w (held_bool P format Deep (compare_of op (int_in u) (int_in v))) refl y))
      sim (TextCompareE op x z) ts t h env k s w i y =
          subst (Agrees (TextCompareE op x z) ts env k s w) h.0
          (two x z ts env k s w TextTy TextTy BoolTy (λ C W u v k w. Gives (BoolV (text_compare_of op (text_in u) (text_in v))) k w)
          (sim x ts TextTy h.1 env k s w i y) (λ k s w y. sim z ts TextTy h.2 env k s w i y) (λ u v k s. gives _ k s)
          (λ u v k s w hu hv y. both_gives BoolTy _ _ k s w (held_bool P format Deep (text_compare_of op (text_in u) (text_in v))) refl y))
      sim (CatE x z) ts t h env k s w i y =
          subst (Agrees (CatE x z) ts env k s w) h.0
          (two x z ts env k s w TextTy TextTy TextTy (λ C W u v k w. limited P.format.limit P.types TextTy (TextV (text_in u ++ text_in v)) k w)
          (sim x ts TextTy h.1 env k s w i y) (λ k s w y. sim z ts TextTy h.2 env k s w i y) (λ u v k s. grows_limited P TextTy (TextV (text_in u ++ text_in v)) k s)
          (λ u v k s w hu hv y. both_limited TextTy (TextV (text_in u ++ text_in v)) (TextV (text_in u ++ text_in v)) k s w refl
          (λ p d. held_text P format Deep (text_in u ++ text_in v) (IsUtf8-append (text_in u) (text_in v) (utf8_in P.types u hu.ideal) (utf8_in P.types v hv.ideal)) p) y))
      sim (LetE a x body) ts t h env k s w i y =
          after a t (ideal_run x env k s) (checked_run x (AllProjected ts env) k w) (λ v k s. ideal_run body (join env (AndV v NoV)) k s)
          (λ v k w. checked_run body (join (AllProjected ts env) (AndV v NoV)) k w)
          (sim x ts a h.0 env k s w i y) (λ v k s. grow body (join env (AndV v NoV)) k s)
          (λ v k s w hv y. joined body ts (a ∷ []) t env (AndV v NoV) k s w i
          (sim body (ts ++ a ∷ []) t h.1 (join env (AndV v NoV)) k s w (held_join P Deep ts (a ∷ []) env (AndV v NoV) i (hv, tt)) y))
      sim (IfE test first other) ts t h env k s w i y =
          after BoolTy t (ideal_run test env k s) (checked_run test (AllProjected ts env) k w) (λ v k s. choose (bool_in v) (ideal_run first) (ideal_run other) env k s)
          (λ v k w. choose (bool_in v) (checked_run first) (checked_run other) (AllProjected ts env) k w)
          (sim test ts BoolTy h.0 env k s w i y) (λ v k s. grows_choose (bool_in v) (ideal_run first) (ideal_run other) env k s (grow first env k s) (grow other env k s))
          (λ v k s w hv y. both_choose t (bool_in v) (ideal_run first) (ideal_run other) _ _ env (AllProjected ts env) k s w (sim first ts t h.1 env k s w i y) (sim other ts t h.2 env k s w i y))
      sim (MatchE number x arms) ts t h env k s w i y =
          after (NamedTy number) t (ideal_run x env k s) (checked_run x (AllProjected ts env) k w) (λ v k s. ideal_arm arms (tag_in v) (join env (fields_in v)) k s)
          (λ v k w. checked_arm arms (tag_in v) (join (AllProjected ts env) (fields_in v)) k w)
          (sim x ts (NamedTy number) h.0 env k s w i y) (λ v k s. grows_arm P ideal_call ideal_grows arms (tag_in v) (join env (fields_in v)) k s)
          (λ v k s w hv y. at_con P.types (λ v. Held (NamedTy number) v → Both t (ideal_arm arms (tag_in v) (join env (fields_in v)) k s)
          (checked_arm arms (tag_in (Projected (NamedTy number) v)) (join (AllProjected ts env) (fields_in (Projected (NamedTy number) v))) k w)) number v hv.ideal
          (λ tag vs us e ideals hv. subst (λ o. Both t (ideal_arm arms tag (join env vs) k s) (checked_arm arms tag (join (AllProjected ts env) (AllProjected (unwrap_or o []) vs)) k w)) (sym e)
          (sim_arm arms ts (unwrap_or (slice_get P.types number) []) t h.1 tag us (tag_fields (slice_get P.types number) tag us e) env vs k s w i
          (held_parts P Deep number tag us vs e ideals hv) y)) hv)
      sim (CallE f args) ts t h env k s w i y =
          let typed : ((function_at P f).result ≡ t) × HaveTypes P ts args (function_at P f).parameters =
          on_function (slice_get P.functions f) (λ g. (g.result ≡ t) × HaveTypes P ts args g.parameters) h in
          subst (Agrees (CallE f args) ts env k s w) typed.0
          (after_all (function_at P f).parameters (function_at P f).result (ideal_run_all args env k s) (checked_run_all args (AllProjected ts env) k w)
          (λ vs k s. ideal_call f vs k s) (λ vs k w. checked_call f vs k w)
          (sim_all args ts (function_at P f).parameters typed.1 env k s w i y) (λ vs k s. ideal_grows f vs k s) (λ vs k s w hv y. calls f vs k s w hv y))
      sim (OperateE op xs) ts t h env k s w i y =
          subst (Agrees (OperateE op xs) ts env k s w) h.0
          (after_all (operand_types op) (result_type op) (ideal_run_all xs env k s) (checked_run_all xs (AllProjected ts env) k w)
          (λ vs k s. operate P.format.limit P.types op vs k s) (λ vs k w. operate P.format.limit P.types op vs k w)
          (sim_all xs ts (operand_types op) h.2 env k s w i y) (λ vs k s. grows_operate P op vs k s) (λ vs k s w hv y. both_operate op vs k s w hv y))

      -- operands
      sim_all : (xs : Expressions) (ts us : List Ty) → HaveTypes P ts xs us → (env : Values) (k : ℕ) (s : List Opened) (w : Taking)
          → AreHeld P Deep ts env → Synced s w → BothAll us (ideal_run_all xs env k s) (checked_run_all xs (AllProjected ts env) k w)
      sim_all NoE ts [] h env k s w i y = agree_gives hash P form Deep began (AreHeld P Deep []) (projections hash P []) NoV NoV k s w tt refl y
      sim_all NoE ts (u ∷ us) h env k s w i y = elim h [ ]
      sim_all (AndE x xs) ts [] h env k s w i y = elim h [ ]
      sim_all (AndE x xs) ts (u ∷ us) h env k s w i y =
          agree_then hash P form Deep began (IsHeld P Deep u) (projection hash P u) (AreHeld P Deep (u ∷ us)) (projections hash P (u ∷ us)) (ideal_run x env k s)
          (checked_run x (AllProjected ts env) k w)
          (λ v k s. then_run (ideal_run_all xs env k s) (λ vs k s. Gives (AndV v vs) k s)) (λ v k w. then_run (checked_run_all xs (AllProjected ts env) k w) (λ vs k w. Gives (AndV v vs) k w))
          (sim x ts u h.0 env k s w i y)
          (λ v k s. grows_then s _ _ (grows_all P ideal_call ideal_grows xs env k s) (λ vs k s. gives _ k s))
          (λ v k s w hv y. agree_then hash P form Deep began (AreHeld P Deep us) (projections hash P us) (AreHeld P Deep (u ∷ us)) (projections hash P (u ∷ us))
          (ideal_run_all xs env k s) (checked_run_all xs (AllProjected ts env) k w)
          (λ vs k s. Gives (AndV v vs) k s) (λ vs k w. Gives (AndV (Projected u v) vs) k w)
          (sim_all xs ts us h.1 env k s w i y) (λ vs k s. gives _ k s)
          (λ vs k s w hvs y. agree_gives hash P form Deep began (AreHeld P Deep (u ∷ us)) (projections hash P (u ∷ us)) (AndV v vs) (AndV (Projected u v) (AllProjected us vs)) k s w (hv, hvs) refl y))

      -- the arm of a tag, with the fields as locals behind the ones there
      sim_arm : (arms : Arms) (ts : List Ty) (cs : List (List Ty)) (t : Ty) → HaveArms P ts cs arms t → (tag : ℕ) (us : List Ty) → slice_get cs tag ≡ Some us
          → (env vs : Values) (k : ℕ) (s : List Opened) (w : Taking) → AreHeld P Deep ts env → AreHeld P Deep us vs → Synced s w
          → Both t (ideal_arm arms tag (join env vs) k s) (checked_arm arms tag (join (AllProjected ts env) (AllProjected us vs)) k w)
      sim_arm NoArm ts [] t h tag us e env vs k s w i j y = cc
      sim_arm NoArm ts (c ∷ cs) t h tag us e env vs k s w i j y = elim h [ ]
      sim_arm (AndArm body arms) ts [] t h tag us e env vs k s w i j y = elim h [ ]
      sim_arm (AndArm body arms) ts (c ∷ cs) t h zero us e env vs k s w i j y =
          let same : c ≡ us = cc in
          joined body ts us t env vs k s w i
          (sim body (ts ++ us) t (subst (λ c. HasType P (ts ++ c) body t) same h.0) (join env vs) k s w (held_join P Deep ts us env vs i j) y)
      sim_arm (AndArm body arms) ts (c ∷ cs) t h (suc tag) us e env vs k s w i j y = sim_arm arms ts cs t h.1 tag us e env vs k s w i j y
