-- Code without a fault of kinds is accepted: what is known at each instruction is a shape that fits.
use Rattle.std.proofs.Common.{◌≡◌, ◌≤◌, ◌<◌, ℕ, zero, suc, ◌-◌, Bool, true, false, List, [], ◌∷◌, ◌++◌, length, map, take, drop, nat_eq, nat_le, Option, Some, None, option_map, unwrap_or, slice_get, refl, sym, ap, ap₂, ◌∙◌, subst, arith, eqb-true, leb-true, ltb-true, IsUtf8, if◌then◌else◌}
use Rattle.std.specs.Option.{option_and_then, is_none}
use Rattle.std.specs.List.{list_all}
use Rattle.std.specs.Str.{is_utf8}
use Rattle.std.proofs.lemmas.Str.{IsUtf8-from_is_utf8}
use Rattle.core_terms.specs.Values.{int_fits}
use Rattle.std.proofs.lemmas.Option.{option_and_then_some}
use Rattle.std.proofs.lemmas.List.{take-append-drop, length-drop}
use Rattle.core_terms.specs.Types.{Ty, UnitTy, BoolTy, IntTy, TextTy, PairTy, NamedTy, AuthTy, VecTy, fields_at, is_length, same_type}
use Rattle.core_terms.proofs.SameTypes.{first_of, second_of, same_sound}
use Rattle.core_terms.specs.Instructions.{Instruction, PushUnit, PushBool, PushInt, PushText, Load, Bind, Unbind, Pair, Fst, Snd, Make, Switch, Branch, Jump, Call, Return, Auth, Unauth, ArithOp, CompareOp, TextCompareOp, Cat, Len, Not, VecFill, VecGet, VecPut}
use Rattle.core_terms.specs.Bodies.{FunctionCode, Body, code_at, no_function_code}
use Rattle.core_terms.specs.Accepted.{push_types, Fits, IsFine, IsAccepted}
use Rattle.core_terms.specs.CodeShapes.{Shape, shape}
use Rattle.core_terms.specs.Kinds.{is_there, is_there_in, kinds_test, same_types, same_shape, Way, way, next, next_if, without_one, without, behind_operands, ways_by_tag, ways, Known, Unreached, Reached, Clashing, met, reach, reach_all, behind, fault_or, first_fault, at_start, fault_in, function_fault, fault_at, kind_fault_from, kind_fault}

some_is : {A : Type 0} {a b : A} → Some a ≡ Some b → a ≡ b
some_is e = cc

none_some : {A : Type 0} {a : A} → None ≡ Some a → ⊥
none_some e = cc

some_none : {A : Type 0} {a : A} → Some a ≡ None → ⊥
some_none e = cc

pub mapped : {A B : Type 0} (Q : Type 0) (f : A → B) (o : Option A) (y : B) → option_map f o ≡ Some y → ((x : A) → o ≡ Some x → f x ≡ y → Q) → Q
mapped Q f (Some x) y e go = go x refl (some_is e)
mapped Q f None y e go = absurd (none_some e)

pub types_sound : (ts us : List Ty) → same_types ts us ≡ true → ts ≡ us
types_sound [] [] e = refl
types_sound (a ∷ ts) (b ∷ us) e = ap₂ (λ t ts. t ∷ ts) (same_sound a b (first_of _ _ e)) (types_sound ts us (second_of (same_type a b) _ e))
types_sound [] (b ∷ us) e = absurd (cc)
types_sound (a ∷ ts) [] e = absurd (cc)

pub shape_sound : (r s : Shape) → same_shape r s ≡ true → r ≡ s
shape_sound r s e = ap₂ shape (types_sound r.locals s.locals (first_of _ _ e)) (types_sound r.operands s.operands (second_of (same_types r.locals s.locals) _ e))

-- the top operands that a list of types names
one_popped : (t : Ty) (os under : List Ty) → without_one t os ≡ Some under → os ≡ t ∷ under
one_popped t [] under e = absurd (none_some e)
one_popped t (u ∷ os) under e = by (same_type t u) refl e
  where
    by : (b : Bool) → same_type t u ≡ b → (if b then Some os else None) ≡ Some under → u ∷ os ≡ t ∷ under
    by true h e = ap₂ (λ t ts. t ∷ ts) (sym (same_sound t u h)) (some_is e)
    by false h e = absurd (none_some e)

popped : (ts os under : List Ty) → without ts os ≡ Some under → os ≡ push_types ts under
popped [] os under e = some_is e
popped (t ∷ ts) os under e =
    option_and_then_some (without_one t) (without ts os) under e (λ mid a b. popped ts os mid a ∙ ap (push_types ts) (one_popped t mid under b))

-- what is known agrees with a shape, and with shapes one by one
abbrev IsAs : Known → Shape → Type 0
IsAs Unreached s = Unit {0}
IsAs (Reached r) s = r ≡ s
IsAs Clashing s = ⊥

abbrev AreAs : List Known → List Shape → Type 0
AreAs [] [] = Unit {0}
AreAs (k ∷ ks) (s ∷ shapes) = IsAs k s × AreAs ks shapes
AreAs ks shapes = ⊥

met_as : (k : Known) (s u : Shape) → IsAs (met k s) u → IsAs k u × (s ≡ u)
met_as Unreached s u h = (tt, h)
met_as (Reached r) s u h = by (same_shape r s) refl h
  where
    by : (b : Bool) → same_shape r s ≡ b → IsAs (if b then Reached r else Clashing) u → (r ≡ u) × (s ≡ u)
    by true e h = (h, sym (shape_sound r s e) ∙ h)
    by false e h = elim h [ ]
met_as Clashing s u h = elim h [ ]

abbrev Goes : List Shape → Way → Type 0
Goes shapes w = slice_get shapes w.passed ≡ Some w.at

abbrev AllGo : List Shape → List Way → Type 0
AllGo shapes [] = Unit {0}
AllGo shapes (w ∷ ws) = Goes shapes w × AllGo shapes ws

reached : (n : ℕ) (s : Shape) (ks after : List Known) (shapes : List Shape) → reach n s ks ≡ Some after → AreAs after shapes → AreAs ks shapes × (slice_get shapes n ≡ Some s)
reached n s [] after shapes e h = absurd (none_some e)
reached zero s (k ∷ ks) after [] e h = elim (subst (λ l. AreAs l []) (sym (some_is e)) h) [ ]
reached zero s (k ∷ ks) after (u ∷ shapes) e h =
    let h = subst (λ l. AreAs l (u ∷ shapes)) (sym (some_is e)) h in
    let m = met_as k s u h.0 in
    ((m.0, h.1), ap Some (sym m.1))
reached (suc n) s (k ∷ ks) after [] e h = mapped _ (λ ks. k ∷ ks) (reach n s ks) after e (λ later r f. elim (subst (λ l. AreAs l []) (sym f) h) [ ])
reached (suc n) s (k ∷ ks) after (u ∷ shapes) e h =
    mapped _ (λ ks. k ∷ ks) (reach n s ks) after e (λ later r f.
    let h = subst (λ l. AreAs l (u ∷ shapes)) (sym f) h in
    let g = reached n s ks later shapes r h.1 in
    ((h.0, g.0), g.1))

pub length_reach : (n : ℕ) (s : Shape) (ks after : List Known) → reach n s ks ≡ Some after → length after ≡ length ks
length_reach n s [] after e = absurd (none_some e)
length_reach zero s (k ∷ ks) after e = ap length (sym (some_is e))
length_reach (suc n) s (k ∷ ks) after e = mapped _ (λ ks. k ∷ ks) (reach n s ks) after e (λ later r f. ap length (sym f) ∙ ap suc (length_reach n s ks later r))

-- a step over the ways: the first was gone, and the others
pub on_ways : (Q : Type 0) (w : Way) (ws : List Way) (ks after : List Known) → reach_all (w ∷ ws) ks ≡ Some after
    → ((mid : List Known) → reach w.passed w.at ks ≡ Some mid → reach_all ws mid ≡ Some after → Q) → Q
on_ways Q w ws ks after e f = by (nat_le (length w.at.locals) 255) e
  where
    by : (b : Bool) → (if b then option_and_then (reach_all ws) (reach w.passed w.at ks) else None) ≡ Some after → Q
    by true e = option_and_then_some (reach_all ws) (reach w.passed w.at ks) after e f
    by false e = absurd (none_some e)

all_reached : (ws : List Way) (ks after : List Known) (shapes : List Shape) → reach_all ws ks ≡ Some after → AreAs after shapes → AreAs ks shapes × AllGo shapes ws
all_reached [] ks after shapes e h = (subst (λ l. AreAs l shapes) (sym (some_is e)) h, tt)
all_reached (w ∷ ws) ks after shapes e h =
    on_ways _ w ws ks after e (λ mid a b.
    let later = all_reached ws mid after shapes b h in
    let first = reached w.passed w.at ks mid shapes a later.0 in
    (first.0, (first.1, later.1)))

pub length_all : (ws : List Way) (ks after : List Known) → reach_all ws ks ≡ Some after → length after ≡ length ks
length_all [] ks after e = ap length (sym (some_is e))
length_all (w ∷ ws) ks after e = on_ways _ w ws ks after e (λ mid a b. length_all ws mid after b ∙ length_reach w.passed w.at ks mid a)

-- what is named is there, as the rules say it
abbrev IsThere : Body → Instruction → Type 0
IsThere B (PushInt z) = int_fits z ≡ true
IsThere B (PushText bytes) = IsUtf8 bytes × (length bytes ≤ 65532)
IsThere B (Call f) = f < length B.functions
IsThere B i = Unit {0}

abbrev AreThere : Body → List Instruction → Type 0
AreThere B [] = Unit {0}
AreThere B (i ∷ is) = IsThere B i × AreThere B is

abbrev AllThere : Body → List FunctionCode → Type 0
AllThere B [] = Unit {0}
AllThere B (g ∷ gs) = AreThere B g.code × AllThere B gs

one_there : (B : Body) (i : Instruction) → is_there B i ≡ true → IsThere B i
one_there B (PushInt z) e = e
one_there B (PushText bytes) e = (IsUtf8-from_is_utf8 bytes (first_of _ _ e), leb-true _ _ (second_of (is_utf8 bytes) _ e))
one_there B (Call f) e = ltb-true _ _ e
one_there B i e = tt

are_there : (B : Body) (is : List Instruction) → list_all (is_there B) is ≡ true → AreThere B is
are_there B [] e = tt
are_there B (i ∷ is) e = (one_there B i (first_of _ _ e), are_there B is (second_of (is_there B i) _ e))

all_there : (B : Body) (gs : List FunctionCode) → list_all (is_there_in B) gs ≡ true → AllThere B gs
all_there B [] e = tt
all_there B (g ∷ gs) e = (are_there B g.code (first_of _ _ e), all_there B gs (second_of (is_there_in B g) _ e))

module _ (B : Body) (z : Ty) (shapes : List Shape) where
  abbrev To : ℕ → List Ty → List Ty → Type 0
  To n ls os = slice_get shapes n ≡ Some (shape ls os)

  at_next : (ls os : List Ty) (ws : List Way) → next ls os ≡ Some ws → AllGo shapes ws → To 0 ls os
  at_next ls os ws e h = (subst (AllGo shapes) (sym (some_is e)) h).0

  at_next_if : (b : Bool) (ls os : List Ty) (ws : List Way) → next_if b ls os ≡ Some ws → AllGo shapes ws → (b ≡ true) × To 0 ls os
  at_next_if true ls os ws e h = (refl, at_next ls os ws e h)
  at_next_if false ls os ws e h = absurd (none_some e)

  by_tag : (ls os : List Ty) (cs : List (List Ty)) (places : List ℕ) (ws : List Way) → ways_by_tag ls os cs places ≡ Some ws → AllGo shapes ws
      → (tag : ℕ) (ts : List Ty) → slice_get cs tag ≡ Some ts → (n : ℕ) × (slice_get places tag ≡ Some n) × To n (ls ++ ts) os
  by_tag ls os [] [] ws e h tag ts f = absurd (none_some f)
  by_tag ls os (c ∷ cs) (n ∷ places) ws e h zero ts f =
      mapped _ (λ ws. way n (ls ++ c) os ∷ ws) (ways_by_tag ls os cs places) ws e (λ later r g.
      (n, refl, (subst (AllGo shapes) (sym g) h).0 ∙ ap (λ c. Some (shape (ls ++ c) os)) (some_is f)))
  by_tag ls os (c ∷ cs) (n ∷ places) ws e h (suc tag) ts f =
      mapped _ (λ ws. way n (ls ++ c) os ∷ ws) (ways_by_tag ls os cs places) ws e (λ later r g.
      by_tag ls os cs places later r (subst (AllGo shapes) (sym g) h).1 tag ts f)
  by_tag ls os [] (n ∷ places) ws e h tag ts f = absurd (none_some e)
  by_tag ls os (c ∷ cs) [] ws e h tag ts f = absurd (none_some e)

  pub in_table : (o : Option (List (List Ty))) (tag : ℕ) (ts : List Ty) → option_and_then (λ cs. slice_get cs tag) o ≡ Some ts → slice_get (unwrap_or o []) tag ≡ Some ts
  in_table (Some cs) tag ts h = h
  in_table None tag ts h = absurd (none_some h)

  -- an instruction that takes operands off, and puts one
  on_operands : (i : Instruction) (ts : List Ty) (t : Ty) (ls os : List Ty) (ws : List Way) → behind_operands ts t ls os ≡ Some ws → AllGo shapes ws
      → ((under : List Ty) → To 0 ls (t ∷ under) → Fits B z i ls (push_types ts under) To) → Fits B z i ls os To
  on_operands i ts t ls os ws e h fits =
      option_and_then_some _ (without ts os) ws e (λ under a b. subst (λ os. Fits B z i ls os To) (sym (popped ts os under a)) (fits under (at_next _ _ ws b h)))

  -- an instruction that has these ways on fits, where the shapes are those of the ways
  fits_by : (i : Instruction) (ls os : List Ty) (ws : List Way) → ways B z i ls os ≡ Some ws → IsThere B i → AllGo shapes ws → Fits B z i ls os To
  fits_by PushUnit ls os ws e s h = at_next _ _ ws e h
  fits_by (PushBool b) ls os ws e s h = at_next _ _ ws e h
  fits_by (PushInt n) ls os ws e s h = (s, at_next _ _ ws e h)
  fits_by (PushText bytes) ls os ws e s h = (s.0, s.1, at_next _ _ ws e h)
  fits_by (Load i) ls os ws e s h = option_and_then_some (λ t. next ls (t ∷ os)) (slice_get ls i) ws e (λ t a b. (t, a, at_next _ _ ws b h))
  fits_by Bind ls (t ∷ os) ws e s h = at_next _ _ ws e h
  fits_by (Unbind n) ls os ws e s h =
      let r = at_next_if (nat_le n (length ls)) _ _ ws e h in
      let low : n ≤ length ls = leb-true n (length ls) r.0 in
      (take (length ls - n) ls, drop (length ls - n) ls, sym (take-append-drop (length ls - n) ls), dropped ls n low, r.1)
    where
      dropped : (ls : List Ty) (n : ℕ) → n ≤ length ls → length (drop (length ls - n) ls) ≡ n
      dropped ls n low = omega (arith, length-drop (length ls - n) ls, low)
  fits_by Pair ls (b ∷ (a ∷ os)) ws e s h = at_next _ _ ws e h
  fits_by Fst ls (PairTy a b ∷ os) ws e s h = at_next _ _ ws e h
  fits_by Snd ls (PairTy a b ∷ os) ws e s h = at_next _ _ ws e h
  fits_by (Make number tag) ls os ws e s h =
      option_and_then_some _ (fields_at B.types number tag) ws e (λ ts a b.
      option_and_then_some _ (without ts os) ws b (λ under c d. (ts, under, a, popped ts os under c, at_next _ _ ws d h)))
  fits_by (Switch number places) ls (NamedTy m ∷ os) ws e s h = by (nat_eq m number) refl e
    where
      by : (b : Bool) → nat_eq m number ≡ b → (if b then ways_by_tag ls os (unwrap_or (slice_get B.types number) []) places else None) ≡ Some ws
          → Fits B z (Switch number places) ls (NamedTy m ∷ os) To
      by true r e = (eqb-true m number r, λ tag ts f. by_tag ls os (unwrap_or (slice_get B.types number) []) places ws e h tag ts (in_table (slice_get B.types number) tag ts f))
      by false r e = absurd (none_some e)
  fits_by (Branch n) ls (BoolTy ∷ os) ws e s h = let g = subst (AllGo shapes) (sym (some_is e)) h in (g.0, g.1.0)
  fits_by (Jump n) ls os ws e s h = (subst (AllGo shapes) (sym (some_is e)) h).0
  fits_by (Call f) ls os ws e s h =
      option_and_then_some _ (without (code_at B f).parameters os) ws e (λ under a b. (under, popped (code_at B f).parameters os under a, at_next _ _ ws b h, s))
  fits_by Return ls (t ∷ []) ws e s h = by (same_type t z) refl e
    where
      by : (b : Bool) → same_type t z ≡ b → (if b then Some [] else None) ≡ Some ws → t ≡ z
      by true r e = same_sound t z r
      by false r e = absurd (none_some e)
  fits_by (Auth t) ls os ws e s h = on_operands (Auth t) (t ∷ []) (AuthTy t) ls os ws e h (λ under f. (refl, f))
  fits_by (Unauth t) ls os ws e s h = on_operands (Unauth t) (AuthTy t ∷ []) t ls os ws e h (λ under f. (refl, f))
  fits_by (ArithOp op) ls os ws e s h = on_operands (ArithOp op) (IntTy ∷ (IntTy ∷ [])) IntTy ls os ws e h (λ under f. f)
  fits_by (CompareOp op) ls os ws e s h = on_operands (CompareOp op) (IntTy ∷ (IntTy ∷ [])) BoolTy ls os ws e h (λ under f. f)
  fits_by (TextCompareOp op) ls os ws e s h = on_operands (TextCompareOp op) (TextTy ∷ (TextTy ∷ [])) BoolTy ls os ws e h (λ under f. f)
  fits_by Cat ls os ws e s h = on_operands Cat (TextTy ∷ (TextTy ∷ [])) TextTy ls os ws e h (λ under f. f)
  fits_by Len ls os ws e s h = on_operands Len (TextTy ∷ []) IntTy ls os ws e h (λ under f. f)
  fits_by Not ls os ws e s h = on_operands Not (BoolTy ∷ []) BoolTy ls os ws e h (λ under f. f)
  fits_by (VecFill n) ls (t ∷ os) ws e s h = at_next_if (is_length n) _ _ ws e h
  fits_by VecGet ls (IntTy ∷ (VecTy n t ∷ os)) ws e s h = at_next _ _ ws e h
  fits_by VecPut ls (u ∷ (IntTy ∷ (VecTy n t ∷ os))) ws e s h = let r = at_next_if (same_type u t) _ _ ws e h in (same_sound u t r.0, r.1)
  fits_by _ ls os ws e s h = absurd (none_some e)

-- The instructions left, of each of which something is known: where none is at fault there are shapes for them, which are as known, and fine.
module _ (B : Body) (z : Ty) where
  pub sound : (is : List Instruction) (place : ℕ) (ks : List Known) → length ks ≡ length is → AreThere B is → first_fault B z is place ks ≡ None
      → (shapes : List Shape) × AreAs ks shapes × IsFine B z is shapes
  sound [] place [] l s e = ([], tt, tt)
  sound [] place (k ∷ ks) l s e = absurd (omega (arith, l))
  sound (i ∷ is) place [] l s e = absurd (omega (arith, l))
  sound (i ∷ is) place (k ∷ ks) l s e = by k (behind B z i k ks) refl e
      (λ after m e. sound is (suc place) after m s.1 e)
    where
      after_some : (r : Shape) (ws : List Way) (after : List Known) → ways B z i r.locals r.operands ≡ Some ws → reach_all ws ks ≡ Some after
          → (shapes : List Shape) × AreAs after shapes × IsFine B z is shapes
          → (shapes : List Shape) × AreAs (Reached r ∷ ks) shapes × IsFine B z (i ∷ is) shapes
      after_some r ws after w g t =
          let h = all_reached ws ks after t.0 g t.1 in
          (r ∷ t.0, (refl, h.0), (fits_by B z t.0 i r.locals r.operands ws w s.0 h.1, t.2))

      by : (k : Known) (o : Option (List Known)) → behind B z i k ks ≡ o → fault_or B z o place (first_fault B z is (suc place)) ≡ None
          → ((after : List Known) → length after ≡ length is → first_fault B z is (suc place) after ≡ None → (shapes : List Shape) × AreAs after shapes × IsFine B z is shapes)
          → (shapes : List Shape) × AreAs (k ∷ ks) shapes × IsFine B z (i ∷ is) shapes
      by k None b e go = absurd (some_none e)
      by Unreached (Some after) b e go = absurd (none_some b)
      by Clashing (Some after) b e go = absurd (none_some b)
      by (Reached r) (Some after) b e go =
          option_and_then_some (λ ws. reach_all ws ks) (ways B z i r.locals r.operands) after b (λ ws w g.
          after_some r ws after w g (go after (length_all ws ks after g ∙ omega (arith, l)) e))

module _ (B : Body) where
  -- a function without a fault
  abbrev Accepted : FunctionCode → Type 0
  Accepted g = (shapes : List Shape) × IsFine B g.result g.code shapes × (slice_get shapes 0 ≡ Some (shape g.parameters []))

  pub length_unreached : (is : List Instruction) → length (map (λ (i : Instruction). Unreached) is) ≡ length is
  length_unreached [] = refl
  length_unreached (i ∷ is) = ap suc (length_unreached is)

  one_sound : (g : FunctionCode) (code : List Instruction) → AreThere B code → fault_in B g code ≡ None
      → (shapes : List Shape) × IsFine B g.result code shapes × (slice_get shapes 0 ≡ Some (shape g.parameters []))
  one_sound g [] s e = absurd (some_none e)
  one_sound g (i ∷ is) s e =
      let r = sound B g.result (i ∷ is) 0 (at_start g is) (ap suc (length_unreached is)) s e in
      by r.0 r.1 r.2
    where
      by : (shapes : List Shape) → AreAs (at_start g is) shapes → IsFine B g.result (i ∷ is) shapes
          → (shapes : List Shape) × IsFine B g.result (i ∷ is) shapes × (slice_get shapes 0 ≡ Some (shape g.parameters []))
      by [] h f = elim h [ ]
      by (u ∷ shapes) h f = (u ∷ shapes, f, ap Some (sym h.0))

  each_sound : (f : ℕ) (gs : List FunctionCode) → AllThere B gs → kind_fault_from B f gs ≡ None → (i : ℕ) (g : FunctionCode) → slice_get gs i ≡ Some g → Accepted g
  each_sound f [] s e i g at = absurd (none_some at)
  each_sound f (h ∷ gs) s e i g at = by (function_fault B h) refl e i at (λ later i at. each_sound (suc f) gs s.1 later i g at)
    where
      by : (o : Option ℕ) → function_fault B h ≡ o → fault_at o f (kind_fault_from B (suc f) gs) ≡ None → (i : ℕ) → slice_get (h ∷ gs) i ≡ Some g
          → (kind_fault_from B (suc f) gs ≡ None → (i : ℕ) → slice_get gs i ≡ Some g → Accepted g) → Accepted g
      by (Some p) r e i at go = absurd (some_none e)
      by None r e zero at go = subst Accepted (some_is at) (one_sound h h.code s.0 r)
      by None r e (suc i) at go = go e i at

  none_there : Accepted no_function_code
  none_there = (shape [] [] ∷ (shape [] (UnitTy ∷ []) ∷ []), (refl, (refl, tt)), refl)

  -- Code of which no function is at fault is accepted.
  accepted : AllThere B B.functions → kind_fault B ≡ None → IsAccepted B
  accepted s e f = by (slice_get B.functions f) refl
    where
      by : (o : Option FunctionCode) → slice_get B.functions f ≡ o → Accepted (unwrap_or o no_function_code)
      by None h = none_there
      by (Some g) h = each_sound 0 B.functions s e f g h

  pub kinds_sound : kinds_test B ≡ true → IsAccepted B
  kinds_sound e = accepted (all_there B B.functions (first_of _ _ e)) (none_of (kind_fault B) (second_of (list_all (is_there_in B) B.functions) _ e))
    where
      none_of : {A : Type 0} (o : Option A) → is_none o ≡ true → o ≡ None
      none_of None e = refl
      none_of (Some a) e = absurd (cc)
