-- The ideal and the checked run of code, side by side: by induction on the instructions left, where it holds of the calls in them.
use Rattle.std.proofs.Common.{◌≡◌, ◌⊎◌, inl, inr, ℕ, zero, suc, ◌+◌, ◌≤◌, ◌<◌, ◌^◌, Bool, true, false, not, List, [], ◌∷◌, ◌++◌, length, ℤ, pos, Some, unwrap_or, slice_get, refl, sym, ap, ◌∙◌, subst, arith, append_assoc, append-nil, if◌then◌else◌, lt-ltb}
use Rattle.std.proofs.lemmas.Str.{IsUtf8-append}
use Rattle.core_terms.specs.Types.{Ty, UnitTy, BoolTy, IntTy, TextTy, PairTy, NamedTy, AuthTy, VecTy, Table, fields_at, item_types}
use Rattle.core_terms.specs.Formats.{Hash, IsFormat}
use Rattle.core_terms.specs.Values.{Value, UnitV, BoolV, IntV, TextV, PairV, ConV, DigestV, ItemsV, Values, NoV, AndV, IsIdeal}
use Rattle.core_terms.specs.Spelling.{spelling}
use Rattle.core_terms.specs.Terms.{Program}
use Rattle.core_terms.specs.Projection.{digest_at, projection, projections}
use Rattle.ideal_meaning.specs.Run.{Run, Gives, Ends, IsOut, Rejects, with_fuel, local, join, arith_of, compare_of, text_compare_of, limited, fill_of, get_of, put_of, state_of}
use Rattle.ideal_meaning.specs.Ideal.{Opened, ideal_mode}
use Rattle.ideal_meaning.specs.PieceForms.{PieceForm}
use Rattle.ideal_meaning.specs.Checked.{Taking, Cause, checked_mode_as, take_as, digest_in}
use Rattle.ideal_meaning.specs.Agreement.{as_checked, OffersOtherAs, IsRefusedAs}
use Rattle.ideal_meaning.proofs.InHand.{IsHeld, AreHeld, at_con, held_unit, held_bool, held_int, held_text, held_auth, held_local, local_projection, held_join, join_projection, held_pair, held_first, held_second, held_con, held_parts, held_elements, at_items}
use Rattle.ideal_meaning.proofs.Relation.{InStep, Parted}
use Rattle.ideal_meaning.proofs.Opening.{IsFormOf, ReadsBackAs, opens}
use Rattle.ideal_meaning.proofs.Simulation.{Both, both_limited, both_arith, both_fill, both_get, both_put}
use Rattle.core_terms.specs.Instructions.{Instruction, PushUnit, PushBool, PushInt, PushText, Load, Bind, Unbind, Pair, Fst, Snd, Make, Switch, Branch, Jump, Call, Return, Auth, Unauth, ArithOp, CompareOp, TextCompareOp, Cat, Len, Not, VecFill, VecGet, VecPut}
use Rattle.core_terms.specs.Bodies.{Body, FunctionCode, code_at, field_count}
use Rattle.ideal_meaning.specs.Execution.{Coded, Ran, Stuck, then_code, then_coded, where_some, Held, held, tie, without_last, popped, Next, act, exec, call_code}
use Rattle.core_terms.specs.Accepted.{push_types, Fits, IsFine, IsAccepted}
use Rattle.core_terms.specs.CodeShapes.{Shape, shape}
use Rattle.ideal_meaning.proofs.Parts.{last_dropped}
use Rattle.ideal_meaning.proofs.OnlyAdds.{Adds, adds_exec, adds_call}
use Rattle.ideal_meaning.proofs.Tied.{push_values, local_tied, join_tied, length_tied, pushed_tied, popped_even, even_held, even_projected, pushed_projected, held_split, held_pushed}

-- the parts of an ideal value of a known type
module _ (types : Table) where
  at_bool : (Q : Value → Type 0) (v : Value) → IsIdeal types BoolTy v → ((b : Bool) → Q (BoolV b)) → Q v
  at_bool Q (BoolV b) h f = f b
  at_bool Q _ h f = elim h [ ]

  at_int : (Q : Value → Type 0) (v : Value) → IsIdeal types IntTy v → ((z : ℤ) → Q (IntV z)) → Q v
  at_int Q (IntV z) h f = f z
  at_int Q _ h f = elim h [ ]

  at_text : (Q : Value → Type 0) (v : Value) → IsIdeal types TextTy v → ((bytes : List ℕ) → Q (TextV bytes)) → Q v
  at_text Q (TextV bytes) h f = f bytes
  at_text Q _ h f = elim h [ ]

  at_pair : (Q : Value → Type 0) (a b : Ty) (v : Value) → IsIdeal types (PairTy a b) v → ((x y : Value) → Q (PairV x y)) → Q v
  at_pair Q a b (PairV x y) h f = f x y
  at_pair Q a b _ h f = elim h [ ]

-- Of runs that began with the verifier at `began`. In all that follows k is the fuel left, s what was opened so far, w the
-- verifier's state, y says that w fits s, and l and o that the locals and the operands are known as values in hand.
module _ (hash : Hash) (P : Program) (form : PieceForm) (is_form : IsFormOf hash P form) (is_format : IsFormat P.format) (Deep : Type 0) (began : Taking) (functions : List FunctionCode)
    (reads_back : (t : Ty) (v : Value) → IsIdeal P.types t v → ReadsBackAs hash P form t v) where
  abbrev B : Body
  B = record { limit = P.format.limit; types = P.types; functions = functions }

  abbrev Opens : Type 0
  Opens = List Opened

  abbrev Known : Ty → Value → Type 0
  Known t v = IsHeld P Deep t v

  abbrev AllKnown : List Ty → Values → Type 0
  AllKnown ts vs = AreHeld P Deep ts vs

  abbrev Projected : Ty → Value → Value
  Projected t v = projection hash P t v

  abbrev AllProjected : List Ty → Values → Values
  AllProjected ts vs = projections hash P ts vs

  -- values with their types, as the verifier has them in hand
  abbrev shown : Ty → Value → Held
  shown t v = held t (Projected t v)

  abbrev all_shown : List Ty → Values → List Held
  all_shown ts vs = tie ts (AllProjected ts vs)

  abbrev Synced : List Opened → Taking → Type 0
  Synced s w = InStep hash P form Deep began s w

  abbrev Same : Ty → Run ⊥ (List Opened) Value → Run Cause Taking Value → Type 0
  Same t r q = Both hash P form is_format Deep began t r q

  -- where neither is stuck, the runs agree at a value of type t
  abbrev pub Meets : Ty → Coded ⊥ (List Opened) → Coded Cause Taking → Type 0
  Meets t c d = (r : Run ⊥ (List Opened) Value) (q : Run Cause Taking Value) → c ≡ Ran r → d ≡ Ran q → Both hash P form is_format Deep began t r q

  meets : (t : Ty) (r : Run ⊥ (List Opened) Value) (q : Run Cause Taking Value) → Same t r q → Meets t (Ran r) (Ran q)
  meets t r q h r' q' e d =
      let a : r ≡ r' = cc in
      let b : q ≡ q' = cc in
      subst (λ r. Same t r q') a (subst (λ q. Same t r q) b h)

  -- runs that have parted stay so, whatever follows
  parted_later : (t z : Ty) (ideal : Run ⊥ (List Opened) Value) (checked : Run Cause Taking Value) (g : Value → ℕ → Taking → Coded Cause Taking)
      (r : Run ⊥ (List Opened) Value) (q : Run Cause Taking Value)
      → Parted hash P form Deep began ideal checked → (added : List Opened) → state_of r ≡ state_of ideal ++ added → then_code checked g ≡ Ran q → Same z r q
  parted_later t z ideal checked g r q p added grown d =
      inr (record {
        parts = record {
          before = p.parts.before;
          x = p.parts.x;
          after = p.parts.after ++ added;
          seen = grown ∙ ap (λ l. l ++ added) p.parts.seen ∙ append_assoc p.parts.before (p.parts.x ∷ p.parts.after) added;
          at = p.parts.at;
          honest = p.parts.honest;
          why = later p.parts.why;
        };
        fits = p.fits;
      })
    where
      ended : (stop : _) (k : ℕ) (w : Taking) → checked ≡ Ends stop k w → q ≡ Ends stop k w
      ended stop k w e = let f : Ran q ≡ Ran (Ends stop k w) = sym d ∙ ap (λ c. then_code c g) e in cc

      later : OffersOtherAs hash P form p.parts.x p.parts.at ⊎ IsRefusedAs hash P form p.parts.x p.parts.at checked
          → OffersOtherAs hash P form p.parts.x p.parts.at ⊎ IsRefusedAs hash P form p.parts.x p.parts.at q
      later (inl h) = inl h
      later (inr h) = inr (record { cause = h.cause; fuel = h.fuel; left = h.left; is = ended (Rejects h.cause) h.fuel h.left h.is; refused = h.refused; only = h.only })

  -- a value, and what goes on behind it
  after : (t z : Ty) (ideal : Run ⊥ (List Opened) Value) (checked : Run Cause Taking Value) (f : Value → ℕ → List Opened → Coded ⊥ (List Opened)) (g : Value → ℕ → Taking → Coded Cause Taking)
      → Same t ideal checked → ((v : Value) (k : ℕ) (s : List Opened) → Adds s (f v k s))
      → ((v : Value) (k : ℕ) (s : List Opened) (w : Taking) → Known t v → Synced s w → Meets z (f v k s) (g (Projected t v) k w))
      → Meets z (then_code ideal f) (then_code checked g)
  after t z (Gives v k s) checked f g (inl h) adds on =
      subst (λ c. Meets z (f v k s) (then_code c g)) (sym h.1.1) (on v k s h.1.0 h.0 h.1.2)
  after t z (Ends stop k s) checked f g (inl h) adds on =
      subst (λ c. Meets z (Ran (Ends stop k s)) (then_code c g)) (sym h.1) (meets z (Ends stop k s) (Ends (as_checked stop) k h.0) (inl (h.0, refl, h.2)))
  after t z (Gives v k s) checked f g (inr p) adds on = λ r q e d.
      let grown : Adds s (Ran r) = subst (Adds s) e (adds v k s) in
      parted_later t z (Gives v k s) checked g r q p grown.added grown.is d
  after t z (Ends stop k s) checked f g (inr p) adds on = λ r q e d.
      let same : r ≡ Ends stop k s = cc in
      parted_later t z (Ends stop k s) checked g r q p [] (ap state_of same ∙ sym (append-nil s)) d

  after_coded : (t z : Ty) (c : Coded ⊥ (List Opened)) (d : Coded Cause Taking) (f : Value → ℕ → List Opened → Coded ⊥ (List Opened)) (g : Value → ℕ → Taking → Coded Cause Taking)
      → Meets t c d → ((v : Value) (k : ℕ) (s : List Opened) → Adds s (f v k s))
      → ((v : Value) (k : ℕ) (s : List Opened) (w : Taking) → Known t v → Synced s w → Meets z (f v k s) (g (Projected t v) k w))
      → Meets z (then_coded c f) (then_coded d g)
  after_coded t z (Ran r) (Ran q) f g h adds on = after t z r q f g (h r q refl refl) adds on
  after_coded t z (Ran r) Stuck f g h adds on = λ r' q' e d. absurd (cc)
  after_coded t z Stuck d f g h adds on = λ r q e d'. absurd (cc)

  branches : (z : Ty) (b : Bool) (n : ℕ) (F : ℕ → Coded ⊥ (List Opened)) (G : ℕ → Coded Cause Taking) → Meets z (F 0) (G 0) → Meets z (F n) (G n)
      → Meets z (F (if b then 0 else n)) (G (if b then 0 else n))
  branches z true n F G h j = h
  branches z false n F G h j = j

  -- values are bound behind the locals
  more_locals : (z : Ty) (ls ts : List Ty) (vs ws : Values) (F : List Held → Coded ⊥ (List Opened)) (G : List Held → Coded Cause Taking) → AllKnown ls vs
      → Meets z (F (tie (ls ++ ts) (join vs ws))) (G (all_shown (ls ++ ts) (join vs ws)))
      → Meets z (F (tie ls vs ++ tie ts ws)) (G (all_shown ls vs ++ all_shown ts ws))
  more_locals z ls ts vs ws F G l h =
      let e = join_tied ls ts vs ws (even_held P Deep ls vs l) in
      let d = ap (tie (ls ++ ts)) (join_projection P Deep hash ls ts vs ws l) ∙ sym (join_tied ls ts (AllProjected ls vs) (AllProjected ts ws) (even_projected P Deep hash ls vs l)) in
      subst (λ env. Meets z (F env) (G (all_shown ls vs ++ all_shown ts ws))) (sym e)
      (subst (λ env. Meets z (F (tie (ls ++ ts) (join vs ws))) (G env)) d h)

  -- the last locals are dropped
  fewer_locals : (z : Ty) (ls kept dropped : List Ty) (n : ℕ) → ls ≡ kept ++ dropped → length dropped ≡ n → (F : List Held → Coded ⊥ (List Opened)) (G : List Held → Coded Cause Taking)
      → ((xs : Values) → AllKnown kept xs → Meets z (F (tie kept xs)) (G (all_shown kept xs)))
      → (vs : Values) → AllKnown ls vs → Meets z (where_some (without_last n (tie ls vs)) F) (where_some (without_last n (all_shown ls vs)) G)
  fewer_locals z ls kept dropped n e c F G h vs l =
      subst (λ ls. AllKnown ls vs → Meets z (where_some (without_last n (tie ls vs)) F) (where_some (without_last n (all_shown ls vs)) G)) (sym e)
      (λ l. held_split P Deep (λ vs. Meets z (where_some (without_last n (tie (kept ++ dropped) vs)) F)
      (where_some (without_last n (all_shown (kept ++ dropped) vs)) G)) kept dropped vs l both) l
    where
      both : (xs ys : Values) → AllKnown kept xs → AllKnown dropped ys
          → Meets z (where_some (without_last n (tie (kept ++ dropped) (join xs ys))) F) (where_some (without_last n (all_shown (kept ++ dropped) (join xs ys))) G)
      both xs ys a b =
          more_locals_back (λ env. where_some (without_last n env) F) (λ env. where_some (without_last n env) G)
          (subst (λ o. Meets z (where_some o F) (where_some (without_last n (all_shown kept xs ++ all_shown dropped ys)) G))
          (sym (last_dropped (tie kept xs) (tie dropped ys) n (length_tied dropped ys (even_held P Deep dropped ys b) ∙ c)))
          (subst (λ o. Meets z (F (tie kept xs)) (where_some o G))
          (sym (last_dropped (all_shown kept xs) (all_shown dropped ys) n
          (length_tied dropped (AllProjected dropped ys) (even_projected P Deep hash dropped ys b) ∙ c)))
          (h xs a)))
        where
          more_locals_back : (F : List Held → Coded ⊥ (List Opened)) (G : List Held → Coded Cause Taking)
              → Meets z (F (tie kept xs ++ tie dropped ys)) (G (all_shown kept xs ++ all_shown dropped ys))
              → Meets z (F (tie (kept ++ dropped) (join xs ys))) (G (all_shown (kept ++ dropped) (join xs ys)))
          more_locals_back F G h =
              let e = join_tied kept dropped xs ys (even_held P Deep kept xs a) in
              let d = ap (tie (kept ++ dropped)) (join_projection P Deep hash kept dropped xs ys a)
              ∙ sym (join_tied kept dropped (AllProjected kept xs) (AllProjected dropped ys) (even_projected P Deep hash kept xs a)) in
              subst (λ env. Meets z (F env) (G (all_shown (kept ++ dropped) (join xs ys)))) e
              (subst (λ env. Meets z (F (tie kept xs ++ tie dropped ys)) (G env)) (sym d) h)

  -- the topmost operands are popped
  pops : (z : Ty) (n : ℕ) (os ts under : List Ty) → os ≡ push_types ts under → length ts ≡ n → (F : Values → List Held → Coded ⊥ (List Opened)) (G : Values → List Held → Coded Cause Taking)
      → ((xs rest : Values) → AllKnown ts xs → AllKnown under rest → Meets z (F xs (tie under rest)) (G (AllProjected ts xs) (all_shown under rest)))
      → (us : Values) → AllKnown os us → Meets z (popped n (tie os us) NoV F) (popped n (all_shown os us) NoV G)
  pops z n os ts under e c F G h us o =
      subst (λ os. AllKnown os us → Meets z (popped n (tie os us) NoV F) (popped n (all_shown os us) NoV G)) (sym e)
      (λ o. held_pushed P Deep (λ us. Meets z (popped n (tie (push_types ts under) us) NoV F)
      (popped n (all_shown (push_types ts under) us) NoV G)) ts under us o both) o
    where
      both : (xs rest : Values) → AllKnown ts xs → AllKnown under rest
          → Meets z (popped n (tie (push_types ts under) (push_values xs rest)) NoV F) (popped n (all_shown (push_types ts under) (push_values xs rest)) NoV G)
      both xs rest a b =
          let even = even_held P Deep ts xs a in
          let even' = even_projected P Deep hash ts xs a in
          let left = ap (λ ops. popped n ops NoV F) (pushed_tied ts under xs rest even) ∙ popped_even ts xs even n (tie under rest) F c in
          let right = ap (λ us. popped n (tie (push_types ts under) us) NoV G) (pushed_projected P Deep hash ts under xs rest a)
          ∙ ap (λ ops. popped n ops NoV G) (pushed_tied ts under (AllProjected ts xs) (AllProjected under rest) even')
          ∙ popped_even ts (AllProjected ts xs) even' n (all_shown under rest) G c in
          subst (λ c. Meets z c (popped n (all_shown (push_types ts under) (push_values xs rest)) NoV G)) (sym left)
          (subst (λ d. Meets z (F xs (tie under rest)) d) (sym right) (h xs rest a b))

  -- a local is pushed
  loads : (z : Ty) (ls : List Ty) (i : ℕ) (t : Ty) → slice_get ls i ≡ Some t → (F : Held → Coded ⊥ (List Opened)) (G : Held → Coded Cause Taking) (vs : Values) → AllKnown ls vs
      → Meets z (F (held t (local vs i))) (G (shown t (local vs i))) → Meets z (where_some (slice_get (tie ls vs) i) F) (where_some (slice_get (all_shown ls vs) i) G)
  loads z ls i t e F G vs l h =
      let a = local_tied ls vs i t (even_held P Deep ls vs l) e in
      let b = local_tied ls (AllProjected ls vs) i t (even_projected P Deep hash ls vs l) e ∙ ap (λ v. Some (held t v)) (local_projection P Deep hash ls vs i t l e) in
      subst (λ o. Meets z (where_some o F) (where_some (slice_get (all_shown ls vs) i) G)) (sym a)
      (subst (λ o. Meets z (F (held t (local vs i))) (where_some o G)) (sym b) h)

  -- Instructions, where calls agree.
  module _ (z : Ty) (ideal_call : ℕ → Values → ℕ → List Opened → Coded ⊥ (List Opened)) (checked_call : ℕ → Values → ℕ → Taking → Coded Cause Taking)
      (adds : (f : ℕ) (vs : Values) (k : ℕ) (s : List Opened) → Adds s (ideal_call f vs k s))
      (calls : (f : ℕ) (vs : Values) (k : ℕ) (s : List Opened) (w : Taking) → AreHeld P Deep (code_at B f).parameters vs → InStep hash P form Deep began s w
      → Meets (code_at B f).result (ideal_call f vs k s) (checked_call f (projections hash P (code_at B f).parameters vs) k w)) where
    -- one instruction, in each run
    abbrev ideal_act : Instruction → Next ⊥ (List Opened) → List Held → List Held → ℕ → List Opened → Coded ⊥ (List Opened)
    ideal_act i next env ops k s = act B ideal_mode ideal_call i next env ops k s

    abbrev checked_act : Instruction → Next Cause Taking → List Held → List Held → ℕ → Taking → Coded Cause Taking
    checked_act i next env ops k w = act B (checked_mode_as hash P form) checked_call i next env ops k w

    -- what comes next agrees, wherever it may go on
    abbrev Goes : (ℕ → List Ty → List Ty → Type 0) → Next ⊥ (List Opened) → Next Cause Taking → Type 0
    Goes to next next' = (n : ℕ) (ls os : List Ty) → to n ls os → (vs us : Values) (k : ℕ) (s : List Opened) (w : Taking) → AllKnown ls vs → AllKnown os us → Synced s w
        → Meets z (next n (tie ls vs) (tie os us) k s) (next' n (all_shown ls vs) (all_shown os us) k w)

    acts : (i : Instruction) (ls os : List Ty) (to : ℕ → List Ty → List Ty → Type 0) → Fits B z i ls os to → (next : Next ⊥ (List Opened)) (next' : Next Cause Taking)
        → ((n : ℕ) (env ops : List Held) (k : ℕ) (s : List Opened) → Adds s (next n env ops k s)) → Goes to next next'
        → (vs us : Values) (k : ℕ) (s : List Opened) (w : Taking) → AllKnown ls vs → AllKnown os us → Synced s w
        → Meets z (ideal_act i next (tie ls vs) (tie os us) k s) (checked_act i next' (all_shown ls vs) (all_shown os us) k w)
    acts PushUnit ls os to fit next next' grow go vs us k s w l o y = go 0 ls (UnitTy ∷ os) fit vs (AndV UnitV us) k s w l (held_unit P is_format Deep, o) y
    acts (PushBool b) ls os to fit next next' grow go vs us k s w l o y = go 0 ls (BoolTy ∷ os) fit vs (AndV (BoolV b) us) k s w l (held_bool P is_format Deep b, o) y
    acts (PushInt n) ls os to fit next next' grow go vs us k s w l o y = go 0 ls (IntTy ∷ os) fit.1 vs (AndV (IntV n) us) k s w l (held_int P is_format Deep n fit.0, o) y
    acts (PushText bytes) ls os to fit next next' grow go vs us k s w l o y =
        let short : 4 + length bytes ≤ P.format.limit = omega (arith, fit.1, is_format.limit_holds) in
        go 0 ls (TextTy ∷ os) fit.2 vs (AndV (TextV bytes) us) k s w l (held_text P is_format Deep bytes fit.0 short, o) y
    acts (Load i) ls os to fit next next' grow go vs us k s w l o y =
        loads z ls i fit.0 fit.1 (λ x. next 0 (tie ls vs) (x ∷ tie os us) k s) (λ x. next' 0 (all_shown ls vs) (x ∷ all_shown os us) k w) vs l
        (go 0 ls (fit.0 ∷ os) fit.2 vs (AndV (local vs i) us) k s w l (held_local P Deep ls vs i fit.0 l fit.1, o) y)
    acts Bind ls (t ∷ os) to fit next next' grow go vs (AndV u us) k s w l o y =
        more_locals z ls (t ∷ []) vs (AndV u NoV) (λ env. next 0 env (tie os us) k s) (λ env. next' 0 env (all_shown os us) k w) l
        (go 0 (ls ++ t ∷ []) os fit (join vs (AndV u NoV)) us k s w (held_join P Deep ls (t ∷ []) vs (AndV u NoV) l (o.0, tt)) o.1 y)
    acts (Unbind n) ls os to fit next next' grow go vs us k s w l o y =
        fewer_locals z ls fit.0 fit.1 n fit.2 fit.3 (λ env. next 0 env (tie os us) k s) (λ env. next' 0 env (all_shown os us) k w)
        (λ xs a. go 0 fit.0 os fit.4 xs us k s w a o y) vs l
    acts Pair ls (b ∷ (a ∷ os)) to fit next next' grow go vs (AndV v (AndV u us)) k s w l o y =
        after (PairTy a b) z (limited P.format.limit P.types (PairTy a b) (PairV u v) k s) (limited P.format.limit P.types (PairTy a b) (PairV (Projected a u) (Projected b v)) k w)
        (λ x k s. next 0 (tie ls vs) (held (PairTy a b) x ∷ tie os us) k s) (λ x k w. next' 0 (all_shown ls vs) (held (PairTy a b) x ∷ all_shown os us) k w)
        (both_limited hash P form is_format Deep began (PairTy a b) (PairV u v) (PairV (Projected a u) (Projected b v)) k s w refl (λ p q. held_pair P Deep a b u v o.1.0 o.0 p q) y)
        (λ x k s. grow 0 _ _ k s) (λ x k s w h y. go 0 ls (PairTy a b ∷ os) fit vs (AndV x us) k s w l (h, o.1.1) y)
    acts Fst ls (PairTy a b ∷ os) to fit next next' grow go vs (AndV v us) k s w l o y =
        at_pair P.types (λ v. Known (PairTy a b) v → Meets z (ideal_act Fst next (tie ls vs) (held (PairTy a b) v ∷ tie os us) k s)
        (checked_act Fst next' (all_shown ls vs) (shown (PairTy a b) v ∷ all_shown os us) k w)) a b v o.0.ideal
        (λ x x' h. go 0 ls (a ∷ os) fit vs (AndV x us) k s w l (held_first P Deep a b (PairV x x') h, o.1) y) o.0
    acts Snd ls (PairTy a b ∷ os) to fit next next' grow go vs (AndV v us) k s w l o y =
        at_pair P.types (λ v. Known (PairTy a b) v → Meets z (ideal_act Snd next (tie ls vs) (held (PairTy a b) v ∷ tie os us) k s)
        (checked_act Snd next' (all_shown ls vs) (shown (PairTy a b) v ∷ all_shown os us) k w)) a b v o.0.ideal
        (λ x x' h. go 0 ls (b ∷ os) fit vs (AndV x' us) k s w l (held_second P Deep a b (PairV x x') h, o.1) y) o.0
    acts (Make number tag) ls os to fit next next' grow go vs us k s w l o y =
        let ts = fit.0 in
        pops z (field_count P.types number tag) os ts fit.1 fit.3 (sym (ap (λ o. length (unwrap_or o [])) fit.2))
        (λ xs ops. then_code (limited P.format.limit P.types (NamedTy number) (ConV tag xs) k s) (λ x k s. next 0 (tie ls vs) (held (NamedTy number) x ∷ ops) k s))
        (λ xs ops. then_code (limited P.format.limit P.types (NamedTy number) (ConV tag xs) k w) (λ x k w. next' 0 (all_shown ls vs) (held (NamedTy number) x ∷ ops) k w))
        (λ xs rest a r. after (NamedTy number) z (limited P.format.limit P.types (NamedTy number) (ConV tag xs) k s)
        (limited P.format.limit P.types (NamedTy number) (ConV tag (AllProjected ts xs)) k w)
        (λ x k s. next 0 (tie ls vs) (held (NamedTy number) x ∷ tie fit.1 rest) k s)
        (λ x k w. next' 0 (all_shown ls vs) (held (NamedTy number) x ∷ all_shown fit.1 rest) k w)
        (both_limited hash P form is_format Deep began (NamedTy number) (ConV tag xs) (ConV tag (AllProjected ts xs)) k s w (ap (λ o. ConV tag (AllProjected (unwrap_or o []) xs)) (sym fit.2))
        (λ p q. held_con P Deep number tag ts xs fit.2 a p q) y)
        (λ x k s. grow 0 _ _ k s) (λ x k s w h y. go 0 ls (NamedTy number ∷ fit.1) fit.4 vs (AndV x rest) k s w l (h, r) y)) us o
    acts (Switch number places) ls (NamedTy m ∷ os) to fit next next' grow go vs (AndV v us) k s w l o y =
        at_con P.types (λ v. Known (NamedTy m) v → Meets z (ideal_act (Switch number places) next (tie ls vs) (held (NamedTy m) v ∷ tie os us) k s)
        (checked_act (Switch number places) next' (all_shown ls vs) (shown (NamedTy m) v ∷ all_shown os us) k w)) m v o.0.ideal
        (λ tag xs ts f ideals h.
        let g : fields_at P.types number tag ≡ Some ts = ap (λ n. fields_at P.types n tag) (sym fit.0) ∙ f in
        let d = fit.1 tag ts g in
        let F = λ (n : ℕ) (env : List Held). next n env (tie os us) k s in
        let G = λ (n : ℕ) (env : List Held). next' n env (all_shown os us) k w in
        subst (λ p. Meets z (where_some p (λ n. F n (tie ls vs ++ tie (unwrap_or (fields_at P.types number tag) []) xs)))
        (where_some p (λ n. G n (all_shown ls vs ++ tie (unwrap_or (fields_at P.types number tag) []) (AllProjected (unwrap_or (fields_at P.types m tag) []) xs))))) (sym d.1)
        (subst (λ p. Meets z (F d.0 (tie ls vs ++ tie (unwrap_or p []) xs))
        (G d.0 (all_shown ls vs ++ tie (unwrap_or p []) (AllProjected (unwrap_or (fields_at P.types m tag) []) xs)))) (sym g)
        (subst (λ p. Meets z (F d.0 (tie ls vs ++ tie ts xs)) (G d.0 (all_shown ls vs ++ tie ts (AllProjected (unwrap_or p []) xs)))) (sym f)
        (more_locals z ls ts vs xs (F d.0) (G d.0) l
        (go d.0 (ls ++ ts) os d.2 (join vs xs) us k s w (held_join P Deep ls ts vs xs l (held_parts P Deep m tag ts xs f ideals h)) o.1 y))))) o.0
    acts (Branch n) ls (BoolTy ∷ os) to fit next next' grow go vs (AndV v us) k s w l o y =
        at_bool P.types (λ v. Meets z (ideal_act (Branch n) next (tie ls vs) (held BoolTy v ∷ tie os us) k s)
        (checked_act (Branch n) next' (all_shown ls vs) (shown BoolTy v ∷ all_shown os us) k w)) v o.0.ideal
        (λ b. branches z b n (λ n. next n (tie ls vs) (tie os us) k s) (λ n. next' n (all_shown ls vs) (all_shown os us) k w)
        (go 0 ls os fit.0 vs us k s w l o.1 y) (go n ls os fit.1 vs us k s w l o.1 y))
    acts (Jump n) ls os to fit next next' grow go vs us k s w l o y = go n ls os fit vs us k s w l o y
    acts (Call f) ls os to fit next next' grow go vs us k s w l o y =
        let g = code_at B f in
        pops z (length g.parameters) os g.parameters fit.0 fit.1 refl
        (λ xs ops. then_coded (ideal_call f xs k s) (λ x k s. next 0 (tie ls vs) (held g.result x ∷ ops) k s))
        (λ xs ops. then_coded (checked_call f xs k w) (λ x k w. next' 0 (all_shown ls vs) (held g.result x ∷ ops) k w))
        (λ xs rest a r. after_coded g.result z (ideal_call f xs k s) (checked_call f (AllProjected g.parameters xs) k w)
        (λ x k s. next 0 (tie ls vs) (held g.result x ∷ tie fit.0 rest) k s) (λ x k w. next' 0 (all_shown ls vs) (held g.result x ∷ all_shown fit.0 rest) k w)
        (calls f xs k s w a y) (λ x k s. grow 0 _ _ k s) (λ x k s w h y. go 0 ls (g.result ∷ fit.0) fit.2 vs (AndV x rest) k s w l (h, r) y)) us o
    acts Return ls (t ∷ []) to fit next next' grow go vs (AndV v NoV) k s w l o y =
        meets z (Gives v k s) (Gives (Projected t v) k w) (subst (λ u. Same u (Gives v k s) (Gives (Projected t v) k w)) fit (inl (o.0, (w, refl, y))))
    acts Return ls (t ∷ []) to fit next next' grow go vs (AndV v (AndV u us)) k s w l o y = elim o.1 [ ]
    acts (Auth t) ls (u ∷ os) to fit next next' grow go vs (AndV v us) k s w l o y =
        subst (λ u. Known u v → Meets z (next 0 (tie ls vs) (held (AuthTy t) v ∷ tie os us) k s)
        (next' 0 (all_shown ls vs) (held (AuthTy t) (DigestV (digest_at hash P t (spelling (Projected u v)))) ∷ all_shown os us) k w)) (sym fit.0)
        (λ h. go 0 ls (AuthTy t ∷ os) fit.1 vs (AndV v us) k s w l (held_auth P is_format Deep t v h, o.1) y) o.0
    acts (Unauth t) ls (AuthTy u ∷ os) to fit next next' grow go vs (AndV v us) k s w l o y =
        let F = λ (x : Value) (k : ℕ) (s : List Opened). next 0 (tie ls vs) (held t x ∷ tie os us) k s in
        let G = λ (x : Value) (k : ℕ) (w : Taking). next' 0 (all_shown ls vs) (held t x ∷ all_shown os us) k w in
        let seen : List Opened = s ++ record { ty = t; value = v } ∷ [] in
        subst (λ u. Known (AuthTy u) v → Meets z (then_code (Gives v k seen) F) (then_code (with_fuel k (take_as hash P form t (digest_in (Projected (AuthTy u) v)) w.place w.more w)) G)) (sym fit.0)
        (λ h. after t z (Gives v k seen) (with_fuel k (take_as hash P form t (digest_in (Projected (AuthTy t) v)) w.place w.more w)) F G
        (opens hash P form is_form reads_back Deep began t v h k s w y) (λ x k s. grow 0 _ _ k s) (λ x k s w h y. go 0 ls (t ∷ os) fit.1 vs (AndV x us) k s w l (h, o.1) y)) o.0
    acts (ArithOp op) ls (IntTy ∷ (IntTy ∷ os)) to fit next next' grow go vs (AndV v (AndV u us)) k s w l o y =
        at_int P.types (λ u. Known IntTy u → Meets z (ideal_act (ArithOp op) next (tie ls vs) (held IntTy v ∷ (held IntTy u ∷ tie os us)) k s)
        (checked_act (ArithOp op) next' (all_shown ls vs) (shown IntTy v ∷ (shown IntTy u ∷ all_shown os us)) k w)) u o.1.0.ideal
        (λ m h. at_int P.types (λ v. Meets z (ideal_act (ArithOp op) next (tie ls vs) (held IntTy v ∷ (held IntTy (IntV m) ∷ tie os us)) k s)
        (checked_act (ArithOp op) next' (all_shown ls vs) (shown IntTy v ∷ (held IntTy (IntV m) ∷ all_shown os us)) k w)) v o.0.ideal
        (λ n. after IntTy z (arith_of op m n k s) (arith_of op m n k w) (λ x k s. next 0 (tie ls vs) (held IntTy x ∷ tie os us) k s)
        (λ x k w. next' 0 (all_shown ls vs) (held IntTy x ∷ all_shown os us) k w)
        (both_arith hash P form is_format Deep began op m n k s w h.ideal y) (λ x k s. grow 0 _ _ k s) (λ x k s w h y. go 0 ls (IntTy ∷ os) fit vs (AndV x us) k s w l (h, o.1.1) y))) o.1.0
    acts (CompareOp op) ls (IntTy ∷ (IntTy ∷ os)) to fit next next' grow go vs (AndV v (AndV u us)) k s w l o y =
        at_int P.types (λ u. Meets z (ideal_act (CompareOp op) next (tie ls vs) (held IntTy v ∷ (held IntTy u ∷ tie os us)) k s)
        (checked_act (CompareOp op) next' (all_shown ls vs) (shown IntTy v ∷ (shown IntTy u ∷ all_shown os us)) k w)) u o.1.0.ideal
        (λ m. at_int P.types (λ v. Meets z (ideal_act (CompareOp op) next (tie ls vs) (held IntTy v ∷ (held IntTy (IntV m) ∷ tie os us)) k s)
        (checked_act (CompareOp op) next' (all_shown ls vs) (shown IntTy v ∷ (held IntTy (IntV m) ∷ all_shown os us)) k w)) v o.0.ideal
        (λ n. go 0 ls (BoolTy ∷ os) fit vs (AndV (BoolV (compare_of op m n)) us) k s w l (held_bool P is_format Deep (compare_of op m n), o.1.1) y))
    acts (TextCompareOp op) ls (TextTy ∷ (TextTy ∷ os)) to fit next next' grow go vs (AndV v (AndV u us)) k s w l o y =
        at_text P.types (λ u. Meets z (ideal_act (TextCompareOp op) next (tie ls vs) (held TextTy v ∷ (held TextTy u ∷ tie os us)) k s)
        (checked_act (TextCompareOp op) next' (all_shown ls vs) (shown TextTy v ∷ (shown TextTy u ∷ all_shown os us)) k w)) u o.1.0.ideal
        (λ m. at_text P.types (λ v. Meets z (ideal_act (TextCompareOp op) next (tie ls vs) (held TextTy v ∷ (held TextTy (TextV m) ∷ tie os us)) k s)
        (checked_act (TextCompareOp op) next' (all_shown ls vs) (shown TextTy v ∷ (held TextTy (TextV m) ∷ all_shown os us)) k w)) v o.0.ideal
        (λ n. go 0 ls (BoolTy ∷ os) fit vs (AndV (BoolV (text_compare_of op m n)) us) k s w l (held_bool P is_format Deep (text_compare_of op m n), o.1.1) y))
    acts Cat ls (TextTy ∷ (TextTy ∷ os)) to fit next next' grow go vs (AndV v (AndV u us)) k s w l o y =
        at_text P.types (λ u. Known TextTy u → Meets z (ideal_act Cat next (tie ls vs) (held TextTy v ∷ (held TextTy u ∷ tie os us)) k s)
        (checked_act Cat next' (all_shown ls vs) (shown TextTy v ∷ (shown TextTy u ∷ all_shown os us)) k w)) u o.1.0.ideal
        (λ m i. at_text P.types (λ v. Known TextTy v → Meets z (ideal_act Cat next (tie ls vs) (held TextTy v ∷ (held TextTy (TextV m) ∷ tie os us)) k s)
        (checked_act Cat next' (all_shown ls vs) (shown TextTy v ∷ (held TextTy (TextV m) ∷ all_shown os us)) k w)) v o.0.ideal
        (λ n j. after TextTy z (limited P.format.limit P.types TextTy (TextV (m ++ n)) k s) (limited P.format.limit P.types TextTy (TextV (m ++ n)) k w)
        (λ x k s. next 0 (tie ls vs) (held TextTy x ∷ tie os us) k s) (λ x k w. next' 0 (all_shown ls vs) (held TextTy x ∷ all_shown os us) k w)
        (both_limited hash P form is_format Deep began TextTy (TextV (m ++ n)) (TextV (m ++ n)) k s w refl (λ p q. held_text P is_format Deep (m ++ n) (IsUtf8-append m n i.ideal j.ideal) p) y)
        (λ x k s. grow 0 _ _ k s) (λ x k s w h y. go 0 ls (TextTy ∷ os) fit vs (AndV x us) k s w l (h, o.1.1) y)) o.0) o.1.0
    acts Len ls (TextTy ∷ os) to fit next next' grow go vs (AndV v us) k s w l o y =
        at_text P.types (λ v. Known TextTy v → Meets z (ideal_act Len next (tie ls vs) (held TextTy v ∷ tie os us) k s)
        (checked_act Len next' (all_shown ls vs) (shown TextTy v ∷ all_shown os us) k w)) v o.0.ideal
        (λ m h.
        let fits : 4 + length m ≤ P.format.limit = h.within.size_fits in
        let low : length m < 2 ^ 63 = omega (arith, fits, is_format.limit_fits) in
        go 0 ls (IntTy ∷ os) fit vs (AndV (IntV (pos (length m))) us) k s w l (held_int P is_format Deep (pos (length m)) (lt-ltb (length m) (2 ^ 63) low), o.1) y) o.0
    acts Not ls (BoolTy ∷ os) to fit next next' grow go vs (AndV v us) k s w l o y =
        at_bool P.types (λ v. Meets z (ideal_act Not next (tie ls vs) (held BoolTy v ∷ tie os us) k s)
        (checked_act Not next' (all_shown ls vs) (shown BoolTy v ∷ all_shown os us) k w)) v o.0.ideal
        (λ b. go 0 ls (BoolTy ∷ os) fit vs (AndV (BoolV (not b)) us) k s w l (held_bool P is_format Deep (not b), o.1) y)
    acts (VecFill n) ls (t ∷ os) to fit next next' grow go vs (AndV v us) k s w l o y =
        after (VecTy n t) z (fill_of P.format.limit P.types n t v k s) (fill_of P.format.limit P.types n t (Projected t v) k w)
        (λ x k s. next 0 (tie ls vs) (held (VecTy n t) x ∷ tie os us) k s) (λ x k w. next' 0 (all_shown ls vs) (held (VecTy n t) x ∷ all_shown os us) k w)
        (both_fill hash P form is_format Deep began n t v k s w o.0 y) (λ x k s. grow 0 _ _ k s) (λ x k s w h y. go 0 ls (VecTy n t ∷ os) fit.1 vs (AndV x us) k s w l (h, o.1) y)
    acts VecGet ls (IntTy ∷ (VecTy n t ∷ os)) to fit next next' grow go vs (AndV i (AndV u us)) k s w l o y =
        at_items P.types (λ u. Known (VecTy n t) u → Meets z (ideal_act VecGet next (tie ls vs) (held IntTy i ∷ (held (VecTy n t) u ∷ tie os us)) k s)
        (checked_act VecGet next' (all_shown ls vs) (shown IntTy i ∷ (shown (VecTy n t) u ∷ all_shown os us)) k w)) n t u o.1.0.ideal
        (λ es a h. at_int P.types (λ i. Meets z (ideal_act VecGet next (tie ls vs) (held IntTy i ∷ (held (VecTy n t) (ItemsV es) ∷ tie os us)) k s)
        (checked_act VecGet next' (all_shown ls vs) (shown IntTy i ∷ (held (VecTy n t) (ItemsV (AllProjected (item_types n t) es)) ∷ all_shown os us)) k w)) i o.0.ideal
        (λ c. after t z (get_of n es c k s) (get_of n (AllProjected (item_types n t) es) c k w)
        (λ x k s. next 0 (tie ls vs) (held t x ∷ tie os us) k s) (λ x k w. next' 0 (all_shown ls vs) (held t x ∷ all_shown os us) k w)
        (both_get hash P form is_format Deep began n t es c k s w (held_elements P Deep n t es a h) y) (λ x k s. grow 0 _ _ k s)
        (λ x k s w h y. go 0 ls (t ∷ os) fit vs (AndV x us) k s w l (h, o.1.1) y))) o.1.0
    acts VecPut ls (t' ∷ (IntTy ∷ (VecTy n t ∷ os))) to fit next next' grow go vs (AndV v (AndV i (AndV u us))) k s w l o y =
        subst (λ t'. Known t' v → Meets z (ideal_act VecPut next (tie ls vs) (held t' v ∷ (held IntTy i ∷ (held (VecTy n t) u ∷ tie os us))) k s)
        (checked_act VecPut next' (all_shown ls vs) (shown t' v ∷ (shown IntTy i ∷ (shown (VecTy n t) u ∷ all_shown os us))) k w)) (sym fit.0)
        (λ hv. at_items P.types (λ u. Known (VecTy n t) u → Meets z (ideal_act VecPut next (tie ls vs) (held t v ∷ (held IntTy i ∷ (held (VecTy n t) u ∷ tie os us))) k s)
        (checked_act VecPut next' (all_shown ls vs) (shown t v ∷ (shown IntTy i ∷ (shown (VecTy n t) u ∷ all_shown os us))) k w)) n t u o.1.1.0.ideal
        (λ es a h. at_int P.types (λ i. Meets z (ideal_act VecPut next (tie ls vs) (held t v ∷ (held IntTy i ∷ (held (VecTy n t) (ItemsV es) ∷ tie os us))) k s)
        (checked_act VecPut next' (all_shown ls vs) (shown t v ∷ (shown IntTy i ∷ (held (VecTy n t) (ItemsV (AllProjected (item_types n t) es)) ∷ all_shown os us))) k w)) i o.1.0.ideal
        (λ c. after (VecTy n t) z (put_of P.format.limit P.types n t es c v k s) (put_of P.format.limit P.types n t (AllProjected (item_types n t) es) c (Projected t v) k w)
        (λ x k s. next 0 (tie ls vs) (held (VecTy n t) x ∷ tie os us) k s) (λ x k w. next' 0 (all_shown ls vs) (held (VecTy n t) x ∷ all_shown os us) k w)
        (both_put hash P form is_format Deep began n t es c v k s w (held_elements P Deep n t es a h) hv y) (λ x k s. grow 0 _ _ k s)
        (λ x k s w h y. go 0 ls (VecTy n t ∷ os) fit.1 vs (AndV x us) k s w l (h, o.1.1.1) y))) o.1.1.0) o.0
    acts i ls (c ∷ (b ∷ (a ∷ os))) to fit next next' grow go vs (AndV v (AndV u NoV)) k s w l o y = elim o.1.1 [ ]
    acts i ls (b ∷ (a ∷ os)) to fit next next' grow go vs (AndV u NoV) k s w l o y = elim o.1 [ ]
    acts i ls (t ∷ os) to fit next next' grow go vs NoV k s w l o y = elim o [ ]
    acts i ls os to fit next next' grow go vs us k s w l o y = elim fit [ ]

    goes : (is : List Instruction) (shapes : List Shape) → IsFine B z is shapes → (skip : ℕ) (ls os : List Ty) → slice_get shapes skip ≡ Some (shape ls os)
        → (vs us : Values) (k : ℕ) (s : List Opened) (w : Taking) → AllKnown ls vs → AllKnown os us → Synced s w
        → Meets z (exec B ideal_mode ideal_call is skip (tie ls vs) (tie os us) k s)
        (exec B (checked_mode_as hash P form) checked_call is skip (all_shown ls vs) (all_shown os us) k w)
    goes [] [] f skip ls os at vs us k s w l o y = absurd (cc)
    goes [] (sh ∷ shapes) f skip ls os at vs us k s w l o y = elim f [ ]
    goes (i ∷ is) [] f skip ls os at vs us k s w l o y = elim f [ ]
    goes (i ∷ is) (sh ∷ shapes) f zero ls os at vs us k s w l o y =
        let same : sh ≡ shape ls os = cc in
        acts i ls os (λ n ls os. slice_get shapes n ≡ Some (shape ls os))
        (subst (λ (sh : Shape). Fits B z i sh.locals sh.operands (λ n ls os. slice_get shapes n ≡ Some (shape ls os))) same f.0)
        (exec B ideal_mode ideal_call is) (exec B (checked_mode_as hash P form) checked_call is) (adds_exec B ideal_call adds is)
        (λ n ls os t vs us k s w l o y. goes is shapes f.1 n ls os t vs us k s w l o y) vs us k s w l o y
    goes (i ∷ is) (sh ∷ shapes) f (suc skip) ls os at vs us k s w l o y = goes is shapes f.1 skip ls os at vs us k s w l o y

  -- calls of accepted code, with any bound on nesting, wherever the runs stand
  pub called : IsAccepted B → (n f : ℕ) (vs : Values) (k : ℕ) (s : List Opened) (w : Taking) → AreHeld P Deep (code_at B f).parameters vs → InStep hash P form Deep began s w
      → Meets (code_at B f).result (call_code B ideal_mode n f vs k s) (call_code B (checked_mode_as hash P form) n f (projections hash P (code_at B f).parameters vs) k w)
  called accepted zero f vs k s w h y = meets (code_at B f).result (Ends IsOut k s) (Ends IsOut k w) (inl (w, refl, y))
  called accepted (suc n) f vs zero s w h y = meets (code_at B f).result (Ends IsOut 0 s) (Ends IsOut 0 w) (inl (w, refl, y))
  called accepted (suc n) f vs (suc k) s w h y =
      let g = code_at B f in
      let fine = accepted f in
      goes g.result (call_code B ideal_mode n) (call_code B (checked_mode_as hash P form) n) (adds_call B n) (called accepted n)
      g.code fine.0 fine.1 0 g.parameters [] fine.2 vs NoV k s w h tt y
