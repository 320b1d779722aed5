-- Accepted code is never stuck.
use Rattle.std.proofs.Common.{◌≡◌, ℕ, zero, suc, Bool, true, false, List, [], ◌∷◌, ◌++◌, length, Some, unwrap_or, slice_get, refl, sym, ap, ap₂, ◌∙◌, subst, if◌then◌else◌, nat_lt}
use Rattle.core_terms.specs.Types.{Ty, UnitTy, BoolTy, IntTy, TextTy, PairTy, NamedTy, AuthTy, VecTy, fields_at, OnFields}
use Rattle.core_terms.specs.Formats.{depth_limit}
use Rattle.core_terms.specs.Values.{Value, IntV, TextV, PairV, ConV, ItemsV, Values, NoV, AndV, size, depth}
use Rattle.ideal_meaning.specs.Run.{Run, Gives, Ends, Mode, arith_of, limited, fill_of, get_of, put_of, with_fuel}
use Rattle.core_terms.specs.Instructions.{Instruction, PushUnit, PushBool, PushInt, PushText, Load, Bind, Unbind, Pair, Fst, Snd, Make, Switch, Branch, Jump, Call, Return, Auth, Unauth, ArithOp, CompareOp, TextCompareOp, Cat, Len, Not, VecFill, VecGet, VecPut}
use Rattle.core_terms.specs.Bodies.{Body, field_count, code_at}
use Rattle.ideal_meaning.specs.Execution.{Coded, Ran, Stuck, Held, held, tie, then_code, then_coded, where_some, Next, act, exec, call_code}
use Rattle.ideal_meaning.specs.CodeTypes.{IsOf, AreOf, Holds, IsMode, Goes, NeverStuck}
use Rattle.core_terms.specs.Accepted.{push_types, Fits, IsFine, IsAccepted}
use Rattle.core_terms.specs.CodeShapes.{Shape, shape}
use Rattle.ideal_meaning.proofs.CodeArrays.{at_items, holds_fill, holds_get, holds_put}
use Rattle.ideal_meaning.proofs.Parts.{holds_if, holds_arith, push_all, popped_all, last_dropped, at_bool, at_int, at_text, at_pair, at_con}

module _ (C W : Type 0) (B : Body) (mode : Mode C W) (A : Ty → Value → Bool) (laws : IsMode B.types A mode) where
  abbrev Of : Ty → Value → Type 0
  Of t v = IsOf B.types A t v

  -- values in hand of these types
  abbrev Have : List Ty → List Held → Type 0
  Have [] [] = Unit {0}
  Have (t ∷ ts) (x ∷ xs) = (x.ty ≡ t) × Of t x.value × Have ts xs
  Have ts xs = ⊥

  goes_then : {T : Type 0} (Q : T → Type 0) (R : Value → Type 0) (r : Run C W T) (f : T → ℕ → W → Coded C W) → Holds Q r → ((v : T) (k : ℕ) (w : W) → Q v → Goes R (f v k w)) → Goes R (then_code r f)
  goes_then Q R (Gives v k w) f h g = g v k w h
  goes_then Q R (Ends stop k w) f h g = tt

  goes_coded : (Q R : Value → Type 0) (c : Coded C W) (f : Value → ℕ → W → Coded C W) → Goes Q c → ((v : Value) (k : ℕ) (w : W) → Q v → Goes R (f v k w)) → Goes R (then_coded c f)
  goes_coded Q R (Ran r) f h g = goes_then Q R r f h g
  goes_coded Q R Stuck f h g = elim h [ ]

  limited_holds : (t u : Ty) (v : Value) (k : ℕ) (w : W) → Of u v → Holds (Of u) (limited {C = C} B.limit B.types t v k w)
  limited_holds t u v k w h = holds_if C W (Of u) (nat_lt B.limit (size B.types t v)) _ _ tt (holds_if C W (Of u) (nat_lt depth_limit (depth B.types t v)) _ _ tt h)

  at_one : (Q : List Held → Type 0) (t : Ty) (os : List Ty) (ops : List Held) → Have (t ∷ os) ops → ((x : Held) (rest : List Held) → x.ty ≡ t → Of t x.value → Have os rest → Q (x ∷ rest)) → Q ops
  at_one Q t os [] h f = elim h [ ]
  at_one Q t os (x ∷ rest) h f = f x rest h.0 h.1 h.2

  have_append : (ts us : List Ty) (xs ys : List Held) → Have ts xs → Have us ys → Have (ts ++ us) (xs ++ ys)
  have_append [] us [] ys h j = j
  have_append (t ∷ ts) us (x ∷ xs) ys h j = (h.0, h.1, have_append ts us xs ys h.2 j)
  have_append [] us (x ∷ xs) ys h j = elim h [ ]
  have_append (t ∷ ts) us [] ys h j = elim h [ ]

  have_tie : (ts : List Ty) (vs : Values) → AreOf B.types A ts vs → Have ts (tie ts vs)
  have_tie [] NoV h = tt
  have_tie (t ∷ ts) (AndV v vs) h = (refl, h.0, have_tie ts vs h.1)
  have_tie [] (AndV v vs) h = elim h [ ]
  have_tie (t ∷ ts) NoV h = elim h [ ]

  have_split : (Q : List Held → Type 0) (ts us : List Ty) (xs : List Held) → Have (ts ++ us) xs → ((ys zs : List Held) → Have ts ys → length zs ≡ length us → Q (ys ++ zs)) → Q xs
  have_split Q [] us xs h f = f [] xs tt (same_length us xs h)
    where
      same_length : (us : List Ty) (xs : List Held) → Have us xs → length xs ≡ length us
      same_length [] [] h = refl
      same_length (u ∷ us) (x ∷ xs) h = ap suc (same_length us xs h.2)
      same_length [] (x ∷ xs) h = elim h [ ]
      same_length (u ∷ us) [] h = elim h [ ]
  have_split Q (t ∷ ts) us [] h f = elim h [ ]
  have_split Q (t ∷ ts) us (x ∷ xs) h f = have_split (λ l. Q (x ∷ l)) ts us xs h.2 (λ ys zs a e. f (x ∷ ys) zs (h.0, h.1, a) e)

  have_local : (R : Value → Type 0) (ls : List Ty) (env : List Held) (i : ℕ) (t : Ty) (go : Held → Coded C W) → Have ls env → slice_get ls i ≡ Some t
      → ((x : Held) → x.ty ≡ t → Of t x.value → Goes R (go x)) → Goes R (where_some (slice_get env i) go)
  have_local R (u ∷ ls) (x ∷ env) zero t go h e f = let s : u ≡ t = cc in f x (h.0 ∙ s) (subst (λ t. Of t x.value) s h.1)
  have_local R (u ∷ ls) (x ∷ env) (suc i) t go h e f = have_local R ls env i t go h.2 e f
  have_local R [] [] i t go h e f = absurd (cc)
  have_local R [] (x ∷ env) i t go h e f = elim h [ ]
  have_local R (u ∷ ls) [] i t go h e f = elim h [ ]

  -- the operands that a list of types names are there
  have_pushed : (Q : List Held → Type 0) (ts under : List Ty) (ops : List Held) → Have (push_types ts under) ops
      → ((vs : Values) (rest : List Held) → AreOf B.types A ts vs → Have under rest → Q (push_all ts vs rest)) → Q ops
  have_pushed Q [] under ops h f = f NoV ops tt h
  have_pushed Q (t ∷ ts) under ops h f =
      have_pushed Q ts (t ∷ under) ops h (λ vs rest a r.
      at_one (λ rest. Q (push_all ts vs rest)) t under rest r (λ x rest p q o. subst (λ u. Q (push_all ts vs (held u x.value ∷ rest))) (sym p) (f (AndV x.value vs) rest (q, a) o)))

  at_none : (Q : List Held → Type 0) (ops : List Held) → Have [] ops → Q [] → Q ops
  at_none Q [] h f = f
  at_none Q (x ∷ ops) h f = elim h [ ]

  branches : (R : Value → Type 0) (b : Bool) (n : ℕ) (f : ℕ → Coded C W) → Goes R (f 0) → Goes R (f n) → Goes R (f (if b then 0 else n))
  branches R true n f h j = h
  branches R false n f h j = j

  module _ (z : Ty) (coded : ℕ → Values → ℕ → W → Coded C W) (calls : (f : ℕ) (args : Values) (k : ℕ) (w : W) → AreOf B.types A (code_at B f).parameters args
      → Goes (Of (code_at B f).result) (coded f args k w)) where
    acts : (i : Instruction) (ls os : List Ty) (to : ℕ → List Ty → List Ty → Type 0) → Fits B z i ls os to → (next : Next C W)
        → ((n : ℕ) (ls os : List Ty) → to n ls os → (env ops : List Held) → Have ls env → Have os ops → (k : ℕ) (w : W) → Goes (Of z) (next n env ops k w))
        → (env ops : List Held) → Have ls env → Have os ops → (k : ℕ) (w : W) → Goes (Of z) (act B mode coded i next env ops k w)
    acts PushUnit ls os to s next N env ops e o k w = N 0 ls (UnitTy ∷ os) s env _ e (refl, tt, o) k w
    acts (PushBool b) ls os to s next N env ops e o k w = N 0 ls (BoolTy ∷ os) s env _ e (refl, tt, o) k w
    acts (PushInt n) ls os to s next N env ops e o k w = N 0 ls (IntTy ∷ os) s.1 env _ e (refl, tt, o) k w
    acts (PushText b) ls os to s next N env ops e o k w = N 0 ls (TextTy ∷ os) s.2 env _ e (refl, tt, o) k w
    acts (Load i) ls os to s next N env ops e o k w = have_local (Of z) ls env i s.0 (λ x. next 0 env (x ∷ ops) k w) e s.1 (λ x p q. N 0 ls (s.0 ∷ os) s.2 env (x ∷ ops) e (p, q, o) k w)
    acts Bind ls (t ∷ os) to s next N env ops e o k w =
        at_one (λ ops. Goes (Of z) (act B mode coded Bind next env ops k w)) t os ops o
        (λ x rest p q o. N 0 (ls ++ t ∷ []) os s (env ++ x ∷ []) rest (have_append ls (t ∷ []) env (x ∷ []) e (p, q, tt)) o k w)
    acts (Unbind n) ls os to s next N env ops e o k w =
        have_split (λ env. Goes (Of z) (act B mode coded (Unbind n) next env ops k w)) s.0 s.1 env (subst (λ ls. Have ls env) s.2 e)
        (λ ys zs a l. subst (λ r. Goes (Of z) (where_some r (λ env. next 0 env ops k w))) (sym (last_dropped ys zs n (l ∙ s.3))) (N 0 s.0 os s.4 ys ops a o k w))
    acts Pair ls (b ∷ (a ∷ os)) to s next N env ops e o k w =
        at_one (λ ops. Goes (Of z) (act B mode coded Pair next env ops k w)) b (a ∷ os) ops o (λ y rest p q o.
        at_one (λ rest. Goes (Of z) (act B mode coded Pair next env (y ∷ rest) k w)) a os rest o (λ x rest m n o.
        goes_then (Of (PairTy a b)) (Of z) (limited B.limit B.types (PairTy x.ty y.ty) (PairV x.value y.value) k w) _
        (limited_holds (PairTy x.ty y.ty) (PairTy a b) (PairV x.value y.value) k w (n, q))
        (λ v k w h. N 0 ls (PairTy a b ∷ os) s env (held (PairTy x.ty y.ty) v ∷ rest) e (ap₂ PairTy m p, h, o) k w)))
    acts Fst ls (PairTy a b ∷ os) to s next N env ops e o k w =
        at_one (λ ops. Goes (Of z) (act B mode coded Fst next env ops k w)) (PairTy a b) os ops o (λ x rest p q o.
        subst (λ t. Goes (Of z) (act B mode coded Fst next env (held t x.value ∷ rest) k w)) (sym p)
        (at_pair B.types A (λ v. Goes (Of z) (act B mode coded Fst next env (held (PairTy a b) v ∷ rest) k w)) a b x.value q
        (λ u v m n. N 0 ls (a ∷ os) s env (held a u ∷ rest) e (refl, m, o) k w)))
    acts Snd ls (PairTy a b ∷ os) to s next N env ops e o k w =
        at_one (λ ops. Goes (Of z) (act B mode coded Snd next env ops k w)) (PairTy a b) os ops o (λ x rest p q o.
        subst (λ t. Goes (Of z) (act B mode coded Snd next env (held t x.value ∷ rest) k w)) (sym p)
        (at_pair B.types A (λ v. Goes (Of z) (act B mode coded Snd next env (held (PairTy a b) v ∷ rest) k w)) a b x.value q
        (λ u v m n. N 0 ls (b ∷ os) s env (held b v ∷ rest) e (refl, n, o) k w)))
    acts (Make number tag) ls os to s next N env ops e o k w =
        let ts = s.0 in
        let c : length ts ≡ field_count B.types number tag = sym (ap (λ o. length (unwrap_or o [])) s.2) in
        have_pushed (λ ops. Goes (Of z) (act B mode coded (Make number tag) next env ops k w)) ts s.1 ops (subst (λ os. Have os ops) s.3 o) (λ vs rest a r.
        subst (Goes (Of z)) (sym (popped_all B.types A ts vs a (field_count B.types number tag) rest
        (λ vs ops. then_code (limited B.limit B.types (NamedTy number) (ConV tag vs) k w) (λ v k w. next 0 env (held (NamedTy number) v ∷ ops) k w)) c))
        (goes_then (Of (NamedTy number)) (Of z) (limited B.limit B.types (NamedTy number) (ConV tag vs) k w) _
        (limited_holds (NamedTy number) (NamedTy number) (ConV tag vs) k w (subst (λ o. OnFields o (λ ts. AreOf B.types A ts vs)) (sym s.2) a))
        (λ v k w h. N 0 ls (NamedTy number ∷ s.1) s.4 env (held (NamedTy number) v ∷ rest) e (refl, h, r) k w)))
    acts (Switch number places) ls (NamedTy m ∷ os) to s next N env ops e o k w =
        at_one (λ ops. Goes (Of z) (act B mode coded (Switch number places) next env ops k w)) (NamedTy m) os ops o (λ x rest p q o.
        at_con B.types A (λ v. Goes (Of z) (act B mode coded (Switch number places) next env (held x.ty v ∷ rest) k w)) m x.value q (λ tag vs ts f' f a.
        let g : fields_at B.types number tag ≡ Some ts = ap (λ n. fields_at B.types n tag) (sym s.0) ∙ f' in
        let d = s.1 tag ts g in
        subst (λ r. Goes (Of z) (where_some r (λ n. next n (env ++ tie (unwrap_or (fields_at B.types number tag) []) vs) rest k w))) (sym d.1)
        (subst (λ r. Goes (Of z) (next d.0 (env ++ tie (unwrap_or r []) vs) rest k w)) (sym g)
        (N d.0 (ls ++ ts) os d.2 (env ++ tie ts vs) rest (have_append ls ts env (tie ts vs) e (have_tie ts vs a)) o k w))))
    acts (Branch n) ls (BoolTy ∷ os) to s next N env ops e o k w =
        at_one (λ ops. Goes (Of z) (act B mode coded (Branch n) next env ops k w)) BoolTy os ops o (λ x rest p q o.
        at_bool B.types A (λ v. Goes (Of z) (act B mode coded (Branch n) next env (held x.ty v ∷ rest) k w)) x.value q
        (λ m. branches (Of z) m n (λ n. next n env rest k w) (N 0 ls os s.0 env rest e o k w) (N n ls os s.1 env rest e o k w)))
    acts (Jump n) ls os to s next N env ops e o k w = N n ls os s env ops e o k w
    acts (Call f) ls os to s next N env ops e o k w =
        let g = code_at B f in
        have_pushed (λ ops. Goes (Of z) (act B mode coded (Call f) next env ops k w)) g.parameters s.0 ops (subst (λ os. Have os ops) s.1 o) (λ vs rest a r.
        subst (Goes (Of z)) (sym (popped_all B.types A g.parameters vs a (length g.parameters) rest (λ vs ops. then_coded (coded f vs k w) (λ v k w. next 0 env (held g.result v ∷ ops) k w)) refl))
        (goes_coded (Of g.result) (Of z) (coded f vs k w) _ (calls f vs k w a) (λ v k w h. N 0 ls (g.result ∷ s.0) s.2 env (held g.result v ∷ rest) e (refl, h, r) k w)))
    acts Return ls (t ∷ []) to s next N env ops e o k w =
        at_one (λ ops. Goes (Of z) (act B mode coded Return next env ops k w)) t [] ops o (λ x rest p q o.
        at_none (λ rest. Goes (Of z) (act B mode coded Return next env (x ∷ rest) k w)) rest o (subst (λ t. Of t x.value) s q))
    acts (Auth t) ls (u ∷ os) to s next N env ops e o k w =
        at_one (λ ops. Goes (Of z) (act B mode coded (Auth t) next env ops k w)) u os ops o (λ x rest p q o.
        N 0 ls (AuthTy t ∷ os) s.1 env (held (AuthTy t) (mode.auth t x.value) ∷ rest) e (refl, laws.auths t x.value (subst (λ u. Of u x.value) s.0 q), o) k w)
    acts (Unauth t) ls (AuthTy u ∷ os) to s next N env ops e o k w =
        at_one (λ ops. Goes (Of z) (act B mode coded (Unauth t) next env ops k w)) (AuthTy u) os ops o (λ x rest p q o.
        goes_then (Of t) (Of z) (with_fuel k (mode.unauth t x.value w)) _ (laws.opens t x.value k w (subst (λ u. A u x.value ≡ true) s.0 q))
        (λ v k w h. N 0 ls (t ∷ os) s.1 env (held t v ∷ rest) e (refl, h, o) k w))
    acts (ArithOp op) ls (IntTy ∷ (IntTy ∷ os)) to s next N env ops e o k w =
        at_one (λ ops. Goes (Of z) (act B mode coded (ArithOp op) next env ops k w)) IntTy (IntTy ∷ os) ops o (λ y rest p q o.
        at_one (λ rest. Goes (Of z) (act B mode coded (ArithOp op) next env (y ∷ rest) k w)) IntTy os rest o (λ x rest m n o.
        at_int B.types A (λ v. Goes (Of z) (act B mode coded (ArithOp op) next env (y ∷ (held x.ty v ∷ rest)) k w)) x.value n (λ m.
        at_int B.types A (λ v. Goes (Of z) (act B mode coded (ArithOp op) next env (held y.ty v ∷ (held x.ty (IntV m) ∷ rest)) k w)) y.value q (λ n.
        goes_then (Of IntTy) (Of z) (arith_of op m n k w) _ (holds_arith C W B.types A op m n k w) (λ v k w h. N 0 ls (IntTy ∷ os) s env (held IntTy v ∷ rest) e (refl, h, o) k w)))))
    acts (CompareOp op) ls (IntTy ∷ (IntTy ∷ os)) to s next N env ops e o k w =
        at_one (λ ops. Goes (Of z) (act B mode coded (CompareOp op) next env ops k w)) IntTy (IntTy ∷ os) ops o (λ y rest p q o.
        at_one (λ rest. Goes (Of z) (act B mode coded (CompareOp op) next env (y ∷ rest) k w)) IntTy os rest o (λ x rest m n o.
        at_int B.types A (λ v. Goes (Of z) (act B mode coded (CompareOp op) next env (y ∷ (held x.ty v ∷ rest)) k w)) x.value n (λ m.
        at_int B.types A (λ v. Goes (Of z) (act B mode coded (CompareOp op) next env (held y.ty v ∷ (held x.ty (IntV m) ∷ rest)) k w)) y.value q (λ n.
        N 0 ls (BoolTy ∷ os) s env _ e (refl, tt, o) k w))))
    acts (TextCompareOp op) ls (TextTy ∷ (TextTy ∷ os)) to s next N env ops e o k w =
        at_one (λ ops. Goes (Of z) (act B mode coded (TextCompareOp op) next env ops k w)) TextTy (TextTy ∷ os) ops o (λ y rest p q o.
        at_one (λ rest. Goes (Of z) (act B mode coded (TextCompareOp op) next env (y ∷ rest) k w)) TextTy os rest o (λ x rest m n o.
        at_text B.types A (λ v. Goes (Of z) (act B mode coded (TextCompareOp op) next env (y ∷ (held x.ty v ∷ rest)) k w)) x.value n (λ m.
        at_text B.types A (λ v. Goes (Of z) (act B mode coded (TextCompareOp op) next env (held y.ty v ∷ (held x.ty (TextV m) ∷ rest)) k w)) y.value q (λ n.
        N 0 ls (BoolTy ∷ os) s env _ e (refl, tt, o) k w))))
    acts Cat ls (TextTy ∷ (TextTy ∷ os)) to s next N env ops e o k w =
        at_one (λ ops. Goes (Of z) (act B mode coded Cat next env ops k w)) TextTy (TextTy ∷ os) ops o (λ y rest p q o.
        at_one (λ rest. Goes (Of z) (act B mode coded Cat next env (y ∷ rest) k w)) TextTy os rest o (λ x rest m n o.
        at_text B.types A (λ v. Goes (Of z) (act B mode coded Cat next env (y ∷ (held x.ty v ∷ rest)) k w)) x.value n (λ m.
        at_text B.types A (λ v. Goes (Of z) (act B mode coded Cat next env (held y.ty v ∷ (held x.ty (TextV m) ∷ rest)) k w)) y.value q (λ n.
        goes_then (Of TextTy) (Of z) (limited B.limit B.types TextTy (TextV (m ++ n)) k w) _ (limited_holds TextTy TextTy (TextV (m ++ n)) k w tt)
        (λ v k w h. N 0 ls (TextTy ∷ os) s env (held TextTy v ∷ rest) e (refl, h, o) k w)))))
    acts Len ls (TextTy ∷ os) to s next N env ops e o k w =
        at_one (λ ops. Goes (Of z) (act B mode coded Len next env ops k w)) TextTy os ops o (λ x rest p q o.
        at_text B.types A (λ v. Goes (Of z) (act B mode coded Len next env (held x.ty v ∷ rest) k w)) x.value q (λ m. N 0 ls (IntTy ∷ os) s env _ e (refl, tt, o) k w))
    acts Not ls (BoolTy ∷ os) to s next N env ops e o k w =
        at_one (λ ops. Goes (Of z) (act B mode coded Not next env ops k w)) BoolTy os ops o (λ x rest p q o.
        at_bool B.types A (λ v. Goes (Of z) (act B mode coded Not next env (held x.ty v ∷ rest) k w)) x.value q (λ m. N 0 ls (BoolTy ∷ os) s env _ e (refl, tt, o) k w))
    acts (VecFill n) ls (t ∷ os) to s next N env ops e o k w =
        at_one (λ ops. Goes (Of z) (act B mode coded (VecFill n) next env ops k w)) t os ops o (λ x rest p q o.
        subst (λ u. Goes (Of z) (act B mode coded (VecFill n) next env (held u x.value ∷ rest) k w)) (sym p)
        (goes_then (Of (VecTy n t)) (Of z) (fill_of B.limit B.types n t x.value k w) _ (holds_fill C W B.types A B.limit n t x.value k w q)
        (λ v k w h. N 0 ls (VecTy n t ∷ os) s.1 env (held (VecTy n t) v ∷ rest) e (refl, h, o) k w)))
    acts VecGet ls (IntTy ∷ (VecTy n t ∷ os)) to s next N env ops e o k w =
        at_one (λ ops. Goes (Of z) (act B mode coded VecGet next env ops k w)) IntTy (VecTy n t ∷ os) ops o (λ y rest p q o.
        at_one (λ rest. Goes (Of z) (act B mode coded VecGet next env (y ∷ rest) k w)) (VecTy n t) os rest o (λ x rest m r o.
        subst (λ u. Goes (Of z) (act B mode coded VecGet next env (y ∷ (held u x.value ∷ rest)) k w)) (sym m)
        (at_items B.types A (λ v. Goes (Of z) (act B mode coded VecGet next env (y ∷ (held (VecTy n t) v ∷ rest)) k w)) n t x.value r (λ es a.
        at_int B.types A (λ v. Goes (Of z) (act B mode coded VecGet next env (held y.ty v ∷ (held (VecTy n t) (ItemsV es) ∷ rest)) k w)) y.value q (λ c.
        goes_then (Of t) (Of z) (get_of n es c k w) _ (holds_get C W B.types A n t es c k w a)
        (λ v k w h. N 0 ls (t ∷ os) s env (held t v ∷ rest) e (refl, h, o) k w))))))
    acts VecPut ls (u ∷ (IntTy ∷ (VecTy n t ∷ os))) to s next N env ops e o k w =
        at_one (λ ops. Goes (Of z) (act B mode coded VecPut next env ops k w)) u (IntTy ∷ (VecTy n t ∷ os)) ops o (λ i rest p q o.
        at_one (λ rest. Goes (Of z) (act B mode coded VecPut next env (i ∷ rest) k w)) IntTy (VecTy n t ∷ os) rest o (λ y rest p' q' o.
        at_one (λ rest. Goes (Of z) (act B mode coded VecPut next env (i ∷ (y ∷ rest)) k w)) (VecTy n t) os rest o (λ x rest m r o.
        subst (λ u. Goes (Of z) (act B mode coded VecPut next env (i ∷ (y ∷ (held u x.value ∷ rest))) k w)) (sym m)
        (at_items B.types A (λ v. Goes (Of z) (act B mode coded VecPut next env (i ∷ (y ∷ (held (VecTy n t) v ∷ rest))) k w)) n t x.value r (λ es a.
        at_int B.types A (λ v. Goes (Of z) (act B mode coded VecPut next env (i ∷ (held y.ty v ∷ (held (VecTy n t) (ItemsV es) ∷ rest))) k w)) y.value q' (λ c.
        goes_then (Of (VecTy n t)) (Of z) (put_of B.limit B.types n t es c i.value k w) _ (holds_put C W B.types A B.limit n t es c i.value k w a (subst (λ u. Of u i.value) s.0 q))
        (λ v k w h. N 0 ls (VecTy n t ∷ os) s.1 env (held (VecTy n t) v ∷ rest) e (refl, h, o) k w)))))))
    acts i ls os to s next N env ops e o k w = elim s [ ]

    goes : (is : List Instruction) (shapes : List Shape) → IsFine B z is shapes → (skip : ℕ) (ls os : List Ty) → slice_get shapes skip ≡ Some (shape ls os)
        → (env ops : List Held) → Have ls env → Have os ops → (k : ℕ) (w : W) → Goes (Of z) (exec B mode coded is skip env ops k w)
    goes [] [] f skip ls os at env ops e o k w = absurd (cc)
    goes [] (s ∷ shapes) f skip ls os at env ops e o k w = elim f [ ]
    goes (i ∷ is) [] f skip ls os at env ops e o k w = elim f [ ]
    goes (i ∷ is) (s ∷ shapes) f zero ls os at env ops e o k w =
        let same : shape ls os ≡ s = cc in
        acts i s.locals s.operands (λ n ls os. slice_get shapes n ≡ Some (shape ls os)) f.0 (exec B mode coded is)
        (λ n ls os t env ops e o k w. goes is shapes f.1 n ls os t env ops e o k w)
        env ops (subst (λ s. Have s.locals env) same e) (subst (λ s. Have s.operands ops) same o) k w
    goes (i ∷ is) (s ∷ shapes) f (suc skip) ls os at env ops e o k w = goes is shapes f.1 skip ls os at env ops e o k w

  module _ (accepted : IsAccepted B) where
    pub never : (n f : ℕ) (args : Values) (k : ℕ) (w : W) → AreOf B.types A (code_at B f).parameters args → Goes (Of (code_at B f).result) (call_code B mode n f args k w)
    never zero f args k w a = tt
    never (suc n) f args zero w a = tt
    never (suc n) f args (suc k) w a =
        let g = code_at B f in
        let acc = accepted f in
        goes g.result (call_code B mode n) (never n) g.code acc.0 acc.1 0 g.parameters [] acc.2 (tie g.parameters args) [] (have_tie g.parameters args a) tt k w

pub never_stuck : (C W : Type 0) (mode : Mode C W) (A : Ty → Value → Bool) → NeverStuck mode A
never_stuck C W mode A B accepted laws f args k w a = never C W B mode A laws accepted k f args k w a
