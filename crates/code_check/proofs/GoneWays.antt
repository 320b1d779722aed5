-- Ways that are gone one by one, and what is known then.
use Rattle.std.proofs.Common.{◌≡◌, ◌<◌, ◌≤◌, ℕ, zero, suc, Bool, true, false, ◌&&◌, Result, Ok, Err, IfOk, Vec, List, [], ◌∷◌, ◌++◌, length, map, reverse, set, Option, Some, None, option_map, slice_get, unwrap_or, nat_le, nat_eq, refl, sym, ap, ap₂, ◌∙◌, subst, le-leb, leb-true, eqb-true, eq-eqb, arith, if◌then◌else◌}
use Rattle.std.specs.List.{list_all}
use Rattle.std.specs.Option.{option_and_then}
use Rattle.std.specs.declared.alloc.AllocError.{AllocError}
use Rattle.std.proofs.lemmas.List.{reverse-append, length-reverse}
use Rattle.core_terms.specs.Types.{Ty, UnitTy, BoolTy, IntTy, TextTy, PairTy, NamedTy, AuthTy, VecTy}
use Rattle.core_terms.specs.CodeShapes.{Shape, shape}
use Rattle.core_terms.specs.Bodies.{Body}
use Rattle.core_terms.specs.InstructionViews.{instruction_of}
use Rattle.core_terms.specs.Instructions as meant
use Rattle.core_terms.specs.Kinds as kinds
use Rattle.core_terms.specs.Kinds.{Way, way, without_one, ways_by_tag, ways, reach, reach_all}
use Rattle.core_terms.specs.ProgramTrees.{are_below, types_at}
use Rattle.core_terms.specs.declared.instruction.Instruction.{Instruction}
use Rattle.core_terms.specs.declared.term.Constructor.{Constructor}
use Rattle.core_terms.specs.declared.instruction.Instruction.TheVariants as coded
use Rattle.core_terms.specs.declared.types.NamedId.{NamedId}
use Rattle.core_terms.specs.declared.types.TyId.{TyId}
use Rattle.std.specs.declared.alloc.Global.{Global}
use Rattle.code_check.specs.declared.known.Frame.{Frame}
use Rattle.code_check.specs.declared.known.Known.{Known}
use Rattle.code_check.specs.declared.known.Known.TheVariants.{Unreached, Reached, Clashing}
use Rattle.code_check.specs.TypeLists.{IsList, IsLeft, Grows}
use Rattle.code_check.specs.KnownTypes.{IsFrame, IsKnown, AreKnown, IsReached}
use Rattle.code_check.specs.CodeTypes.{is_listable}
use Rattle.code_check.specs.KindSteps.{IsNext, IsGone, LeadsTo, is_straight}
use Rattle.core_terms.proofs.SameTypes.{first_of, second_of}
use Rattle.code_check.proofs.ListsOfTypes.{below_more, list_stays, types_stay}
use Rattle.code_check.proofs.SteppedFrames.{frame, frame_stays}

pub known_stays : (old new : List Ty) (known : Known) (k : kinds.Known) → Grows old new → IsKnown old known k → IsKnown new known k
known_stays old new Unreached kinds.Unreached g h = tt
known_stays old new (Reached at) (kinds.Reached s) g h = frame_stays old new at s g h
known_stays old new Clashing kinds.Clashing g h = tt
known_stays old new Unreached (kinds.Reached s) g h = elim h [ ]
known_stays old new Unreached kinds.Clashing g h = elim h [ ]
known_stays old new (Reached at) kinds.Unreached g h = elim h [ ]
known_stays old new (Reached at) kinds.Clashing g h = elim h [ ]
known_stays old new Clashing kinds.Unreached g h = elim h [ ]
known_stays old new Clashing (kinds.Reached s) g h = elim h [ ]

pub all_stay : (old new : List Ty) (known : List Known) (ks : List kinds.Known) → Grows old new → AreKnown old known ks → AreKnown new known ks
all_stay old new [] [] g h = tt
all_stay old new (x ∷ known) (k ∷ ks) g h = (known_stays old new x k g h.0, all_stay old new known ks g h.1)
all_stay old new [] (k ∷ ks) g h = elim h [ ]
all_stay old new (x ∷ known) [] g h = elim h [ ]

-- one way, to an instruction that is there
cons_reached : (types : List Ty) (o : Option (List kinds.Known)) (known : List Known) (x : Known) (k : kinds.Known) → IsKnown types x k → IsReached types o known true
    → IsReached types (option_map (λ ks. k ∷ ks) o) (x ∷ known) true
cons_reached types None known x k h r = elim r [ ]
cons_reached types (Some ks) known x k h r = (h, r)

set_reached : (types : List Ty) (known : List Known) (ks : List kinds.Known) (n : ℕ) (s : Shape) (x new : Known) → AreKnown types known ks → slice_get known n ≡ Some x
    → ((k : kinds.Known) → IsKnown types x k → IsKnown types new (kinds.met k s)) → IsReached types (reach n s ks) (set known n new) true
set_reached types [] ks n s x new h e f = absurd (cc)
set_reached types (y ∷ known) [] n s x new h e f = elim h [ ]
set_reached types (y ∷ known) (k ∷ ks) zero s x new h e f =
    let same : y ≡ x = cc in
    (f k (subst (λ y. IsKnown types y k) same h.0), h.1)
set_reached types (y ∷ known) (k ∷ ks) (suc n) s x new h e f = cons_reached types (reach n s ks) (set known n new) y k h.0 (set_reached types known ks n s x new h.1 e f)

past_reached : (types : List Ty) (known : List Known) (ks : List kinds.Known) (n : ℕ) (s : Shape) → AreKnown types known ks → length known ≤ n → reach n s ks ≡ None
past_reached types [] [] n s h l = refl
past_reached types [] (k ∷ ks) n s h l = elim h [ ]
past_reached types (y ∷ known) [] n s h l = elim h [ ]
past_reached types (y ∷ known) (k ∷ ks) zero s h l = absurd (omega (arith, l))
past_reached types (y ∷ known) (k ∷ ks) (suc n) s h l = ap (option_map (λ ks. k ∷ ks)) (past_reached types known ks n s h.1 (omega (arith, l)))

pub reached : (types : List Ty) (known : List Known) (ks : List kinds.Known) (n : ℕ) (s : Shape) (x new : Known) → AreKnown types known ks → length (reverse s.locals) ≤ 255
    → slice_get known n ≡ Some x → ((k : kinds.Known) → IsKnown types x k → IsKnown types new (kinds.met k s))
    → IsReached types (reach_all (way n s.locals s.operands ∷ []) ks) (set known n new) true
reached types known ks n s x new h l e f = by (nat_le (length s.locals) 255) (le-leb _ _ (omega (arith, l, length-reverse s.locals))) (reach n s ks) (set_reached types known ks n s x new h e f)
  where
    by : (b : Bool) → b ≡ true → (o : Option (List kinds.Known)) → IsReached types o (set known n new) true
        → IsReached types (if b then option_and_then (λ ks. Some ks) o else None) (set known n new) true
    by true t None r = elim r [ ]
    by true t (Some ks) r = r
    by false t o r = absurd (cc)

pub too_many : (types : List Ty) (known after : List Known) (ks : List kinds.Known) (n : ℕ) (s : Shape) → 255 < length (reverse s.locals)
    → IsReached types (reach_all (way n s.locals s.operands ∷ []) ks) after false
too_many types known after ks n s l = by (nat_le (length s.locals) 255) refl
  where
    by : (b : Bool) → nat_le (length s.locals) 255 ≡ b → IsReached types (if b then option_and_then (λ ks. Some ks) (reach n s ks) else None) after false
    by true t = absurd (omega (arith, l, leb-true _ _ t, length-reverse s.locals))
    by false t = tt

pub past_end : (types : List Ty) (known after : List Known) (ks : List kinds.Known) (n : ℕ) (s : Shape) → AreKnown types known ks → length known ≤ n
    → IsReached types (reach_all (way n s.locals s.operands ∷ []) ks) after false
past_end types known after ks n s h l = by (nat_le (length s.locals) 255) (reach n s ks) (past_reached types known ks n s h l)
  where
    by : (b : Bool) (o : Option (List kinds.Known)) → o ≡ None → IsReached types (if b then option_and_then (λ ks. Some ks) o else None) after false
    by true None e = tt
    by true (Some x) e = absurd (cc)
    by false o e = tt

-- the first of several ways was gone, or could not be
on_first : (w : Way) (ws : List Way) (ks : List kinds.Known) → reach_all (w ∷ ws) ks ≡ option_and_then (reach_all ws) (reach_all (w ∷ []) ks)
on_first w ws ks = by (nat_le (length w.at.locals) 255) (reach w.passed w.at ks)
  where
    by : (b : Bool) (o : Option (List kinds.Known)) → (if b then option_and_then (reach_all ws) o else None) ≡ option_and_then (reach_all ws) (if b then option_and_then (λ ks. Some ks) o else None)
    by true None = refl
    by true (Some ks) = refl
    by false o = refl

pub gone_on : (types : List Ty) (known : List Known) (w : Way) (ws : List Way) (ks : List kinds.Known) → IsReached types (reach_all (w ∷ []) ks) known true
    → (now : List kinds.Known) × AreKnown types known now × (reach_all (w ∷ ws) ks ≡ reach_all ws now)
gone_on types known w ws ks r = by (reach_all (w ∷ []) ks) refl r
  where
    by : (o : Option (List kinds.Known)) → reach_all (w ∷ []) ks ≡ o → IsReached types o known true → (now : List kinds.Known) × AreKnown types known now × (reach_all (w ∷ ws) ks ≡ reach_all ws now)
    by None e r = elim r [ ]
    by (Some now) e r = (now, r, on_first w ws ks ∙ ap (option_and_then (reach_all ws)) e)

pub gone_not : (types : List Ty) (known after : List Known) (w : Way) (ws : List Way) (ks : List kinds.Known) → IsReached types (reach_all (w ∷ []) ks) known false
    → IsReached types (reach_all (w ∷ ws) ks) after false
gone_not types known after w ws ks r = by (reach_all (w ∷ []) ks) refl r
  where
    by : (o : Option (List kinds.Known)) → reach_all (w ∷ []) ks ≡ o → IsReached types o known false → IsReached types (reach_all (w ∷ ws) ks) after false
    by None e r = subst (λ o. IsReached types o after false) (sym (on_first w ws ks ∙ ap (option_and_then (reach_all ws)) e)) tt
    by (Some now) e r = elim r [ ]

-- what a call of `reach` says of one way
abbrev pub IsWent : List Ty → List Known → ℕ → Frame → List Known → Bool → Type 0
IsWent types behind n at after fine =
    (ks : List kinds.Known) (s : Shape) → AreKnown types behind ks → IsFrame types at s → IsReached types (reach_all (way n s.locals s.operands ∷ []) ks) after fine

module _ (B : Body) (z : Ty) where
  -- a branch, by the operands under the bool
  branch_ways : (n : ℕ) (ls os : List Ty)
      → ways B z (meant.Branch n) ls os ≡ option_map (λ under. way 0 ls under ∷ (way n ls under ∷ [])) (without_one BoolTy os)
  branch_ways n ls [] = refl
  branch_ways n ls (UnitTy ∷ os) = refl
  branch_ways n ls (BoolTy ∷ os) = refl
  branch_ways n ls (IntTy ∷ os) = refl
  branch_ways n ls (TextTy ∷ os) = refl
  branch_ways n ls (PairTy a b ∷ os) = refl
  branch_ways n ls (NamedTy m ∷ os) = refl
  branch_ways n ls (AuthTy t ∷ os) = refl
  branch_ways n ls (VecTy m t ∷ os) = refl

  -- a switch, by the operands under the value of the named type
  same_number : (m n : ℕ) → nat_eq m n ≡ nat_eq n m
  same_number m n = by (nat_eq m n) (nat_eq n m) refl refl
    where
      by : (a b : Bool) → nat_eq m n ≡ a → nat_eq n m ≡ b → a ≡ b
      by true true e f = refl
      by false false e f = refl
      by true false e f = let t : nat_eq n m ≡ true = eq-eqb n m (sym (eqb-true m n e)) in cc
      by false true e f = let t : nat_eq m n ≡ true = eq-eqb m n (sym (eqb-true n m f)) in cc

  switch_ways : (number : ℕ) (places : List ℕ) (ls os : List Ty)
      → ways B z (meant.Switch number places) ls os ≡ option_and_then (λ under. ways_by_tag ls under (unwrap_or (slice_get B.types number) []) places) (without_one (NamedTy number) os)
  switch_ways n places ls [] = refl
  switch_ways n places ls (UnitTy ∷ os) = refl
  switch_ways n places ls (BoolTy ∷ os) = refl
  switch_ways n places ls (IntTy ∷ os) = refl
  switch_ways n places ls (TextTy ∷ os) = refl
  switch_ways n places ls (PairTy a b ∷ os) = refl
  switch_ways n places ls (AuthTy t ∷ os) = refl
  switch_ways n places ls (VecTy m t ∷ os) = refl
  switch_ways n places ls (NamedTy m ∷ os) =
      ap (λ b. if b then ways_by_tag ls os (unwrap_or (slice_get B.types n) []) places else None) (same_number m n) ∙ by (nat_eq n m)
    where
      by : (b : Bool) → (if b then ways_by_tag ls os (unwrap_or (slice_get B.types n) []) places else None)
          ≡ option_and_then (λ under. ways_by_tag ls under (unwrap_or (slice_get B.types n) []) places) (if b then Some os else None)
      by true = refl
      by false = refl

  -- both ways were tried, the second where the first was gone
  pub branched : (old new : List Ty) (at : Frame) (left : TyId) (behind mid after : List Known) (n : ℕ) (fine : Bool) → Grows old new
      → ((os : List Ty) → IsList old at.operands os → IsLeft new (without_one BoolTy os) (Some left))
      → IsWent new behind 0 (frame at.locals left) mid true → IsWent new mid n (frame at.locals left) after fine
      → IsGone old at behind (λ s. ways B z (meant.Branch n) s.locals s.operands) new after fine
  branched old new at left behind mid after n fine g f one two ks s k h =
      subst (λ o. IsReached new (option_and_then (λ ws. reach_all ws ks) o) after fine) (sym (branch_ways n s.locals s.operands)) (by (without_one BoolTy s.operands) (f s.operands h.1))
    where
      by : (o : Option (List Ty)) → IsLeft new o (Some left)
          → IsReached new (option_and_then (λ ws. reach_all ws ks) (option_map (λ under. way 0 s.locals under ∷ (way n s.locals under ∷ [])) o)) after fine
      by None i = elim i [ ]
      by (Some under) i =
          let here : IsFrame new (frame at.locals left) (shape s.locals under) = (list_stays old new at.locals (reverse s.locals) g h.0, i) in
          let first = gone_on new mid (way 0 s.locals under) (way n s.locals under ∷ []) ks (one ks (shape s.locals under) (all_stay old new behind ks g k) here) in
          subst (λ o. IsReached new o after fine) (sym first.2) (two first.0 (shape s.locals under) first.1 here)

  pub not_both : (old new : List Ty) (at : Frame) (left : TyId) (behind mid after : List Known) (n : ℕ) → Grows old new
      → ((os : List Ty) → IsList old at.operands os → IsLeft new (without_one BoolTy os) (Some left)) → IsWent new behind 0 (frame at.locals left) mid false
      → IsGone old at behind (λ s. ways B z (meant.Branch n) s.locals s.operands) new after false
  not_both old new at left behind mid after n g f one ks s k h =
      subst (λ o. IsReached new (option_and_then (λ ws. reach_all ws ks) o) after false) (sym (branch_ways n s.locals s.operands)) (by (without_one BoolTy s.operands) (f s.operands h.1))
    where
      by : (o : Option (List Ty)) → IsLeft new o (Some left)
          → IsReached new (option_and_then (λ ws. reach_all ws ks) (option_map (λ under. way 0 s.locals under ∷ (way n s.locals under ∷ [])) o)) after false
      by None i = elim i [ ]
      by (Some under) i =
          gone_not new mid after (way 0 s.locals under) (way n s.locals under ∷ []) ks
          (one ks (shape s.locals under) (all_stay old new behind ks g k) (list_stays old new at.locals (reverse s.locals) g h.0, i))

  pub switched : (old mid new : List Ty) (at : Frame) (left : TyId) (behind after : List Known) (number : ℕ) (places : List ℕ) (cs : List (List Ty)) (fine : Bool) → Grows old mid
      → ((os : List Ty) → IsList old at.operands os → IsLeft mid (without_one (NamedTy number) os) (Some left)) → cs ≡ unwrap_or (slice_get B.types number) []
      → IsGone mid (frame at.locals left) behind (λ s. ways_by_tag s.locals s.operands cs places) new after fine
      → IsGone old at behind (λ s. ways B z (meant.Switch number places) s.locals s.operands) new after fine
  switched old mid new at left behind after number places cs fine g f e gone ks s k h =
      subst (λ o. IsReached new (option_and_then (λ ws. reach_all ws ks) o) after fine) (sym (switch_ways number places s.locals s.operands))
      (subst (λ cs. IsReached new (option_and_then (λ ws. reach_all ws ks) (option_and_then (λ under. ways_by_tag s.locals under cs places) (without_one (NamedTy number) s.operands))) after fine) e
      (by (without_one (NamedTy number) s.operands) (f s.operands h.1)))
    where
      by : (o : Option (List Ty)) → IsLeft mid o (Some left)
          → IsReached new (option_and_then (λ ws. reach_all ws ks) (option_and_then (λ under. ways_by_tag s.locals under cs places) o)) after fine
      by None i = elim i [ ]
      by (Some under) i = gone ks (shape s.locals under) (all_stay old mid behind ks g k) (list_stays old mid at.locals (reverse s.locals) g h.0, i)

-- a way to the next instruction alone, after a step
pub stepped : (old mid : List Ty) (at next : Frame) (behind after : List Known) (go : Shape → Option (List Way)) (fine : Bool) → Grows old mid → LeadsTo old at go mid (Some next)
    → IsWent mid behind 0 next after fine → IsGone old at behind go mid after fine
stepped old mid at next behind after go fine g leads went ks s k h = by (go s) (leads s h)
  where
    by : (o : Option (List Way)) → IsNext mid o (Some next) → IsReached mid (option_and_then (λ ws. reach_all ws ks) o) after fine
    by None i = elim i [ ]
    by (Some []) i = elim i [ ]
    by (Some (w ∷ [])) i =
        subst (λ n. IsReached mid (reach_all (way n w.at.locals w.at.operands ∷ []) ks) after fine) (sym i.0) (went ks w.at (all_stay old mid behind ks g k) i.1)
    by (Some (w ∷ (v ∷ ws))) i = elim i [ ]

-- the ways by tag, where there is a place for each constructor
module _ (types : List Ty) where
  abbrev pub arm_types : List Constructor → List (List Ty)
  arm_types constructors = map (λ (constructor : Constructor). types_at types constructor.fields.items) constructors

  abbrev pub arm_ways : List Ty → List Ty → List Constructor → List ℕ → List Way
  arm_ways ls os (c ∷ cs) (n ∷ places) = way n (ls ++ types_at types c.fields.items) os ∷ arm_ways ls os cs places
  arm_ways ls os cs places = []

  pub all_arms : (ls os : List Ty) (cs : List Constructor) (places : List ℕ) → length cs ≡ length places → ways_by_tag ls os (arm_types cs) places ≡ Some (arm_ways ls os cs places)
  all_arms ls os [] [] e = refl
  all_arms ls os (c ∷ cs) (n ∷ places) e = ap (option_map (λ ws. way n (ls ++ types_at types c.fields.items) os ∷ ws)) (all_arms ls os cs places (omega (arith, e)))
  all_arms ls os [] (n ∷ places) e = absurd (omega (arith, e))
  all_arms ls os (c ∷ cs) [] e = absurd (omega (arith, e))

  pub other_arms : (ls os : List Ty) (cs : List Constructor) (places : List ℕ) → (length cs ≡ length places → ⊥) → ways_by_tag ls os (arm_types cs) places ≡ None
  other_arms ls os [] [] e = absurd (e refl)
  other_arms ls os (c ∷ cs) (n ∷ places) e = ap (option_map (λ ws. way n (ls ++ types_at types c.fields.items) os ∷ ws)) (other_arms ls os cs places (λ f. e (ap suc f)))
  other_arms ls os [] (n ∷ places) e = refl
  other_arms ls os (c ∷ cs) [] e = refl

  -- one arm more, of which the fields are the next locals
  arm_frame : (old new : List Ty) (at : Frame) (locals : TyId) (c : Constructor) (s : Shape) → Grows types old → Grows old new → IsFrame types at s
      → are_below (length types) c.fields.items ≡ true → ((ts : List Ty) → IsList old at.locals ts → IsList new locals (reverse (types_at old c.fields.items) ++ ts))
      → IsFrame new (frame locals at.operands) (shape (s.locals ++ types_at types c.fields.items) s.operands)
  arm_frame old new at locals c s g g' h below f =
      let list = f (reverse s.locals) (list_stays types old at.locals (reverse s.locals) g h.0) in
      let same = ap (λ ts. reverse ts ++ reverse s.locals) (types_stay types old c.fields.items g below) ∙ sym (reverse-append s.locals (types_at types c.fields.items)) in
      (subst (IsList new locals) same list, list_stays old new at.operands s.operands g' (list_stays types old at.operands s.operands g h.1))

  pub arm_gone : (old new : List Ty) (at : Frame) (locals : TyId) (c : Constructor) (cs : List Constructor) (n : ℕ) (places : List ℕ) (behind after : List Known) (now : List kinds.Known) (s : Shape)
      → Grows types old → Grows old new → IsFrame types at s → are_below (length types) c.fields.items ≡ true
      → ((ts : List Ty) → IsList old at.locals ts → IsList new locals (reverse (types_at old c.fields.items) ++ ts)) → AreKnown old behind now
      → IsWent new behind n (frame locals at.operands) after true
      → (later : List kinds.Known) × AreKnown new after later
      × (reach_all (arm_ways s.locals s.operands (c ∷ cs) (n ∷ places)) now ≡ reach_all (arm_ways s.locals s.operands cs places) later)
  arm_gone old new at locals c cs n places behind after now s g g' h below f k went =
      gone_on new after (way n (s.locals ++ types_at types c.fields.items) s.operands) (arm_ways s.locals s.operands cs places) now
      (went now (shape (s.locals ++ types_at types c.fields.items) s.operands) (all_stay old new behind now g' k) (arm_frame old new at locals c s g g' h below f))

  pub arm_not : (old new : List Ty) (at : Frame) (locals : TyId) (c : Constructor) (cs : List Constructor) (n : ℕ) (places : List ℕ) (behind after : List Known) (now : List kinds.Known) (s : Shape)
      → Grows types old → Grows old new → IsFrame types at s → are_below (length types) c.fields.items ≡ true
      → ((ts : List Ty) → IsList old at.locals ts → IsList new locals (reverse (types_at old c.fields.items) ++ ts)) → AreKnown old behind now
      → IsWent new behind n (frame locals at.operands) after false
      → IsReached new (reach_all (arm_ways s.locals s.operands (c ∷ cs) (n ∷ places)) now) after false
  arm_not old new at locals c cs n places behind after now s g g' h below f k went =
      gone_not new after after (way n (s.locals ++ types_at types c.fields.items) s.operands) (arm_ways s.locals s.operands cs places) now
      (went now (shape (s.locals ++ types_at types c.fields.items) s.operands) (all_stay old new behind now g' k) (arm_frame old new at locals c s g g' h below f))

-- the fields of constructors in a table and in one that grew from it
pub arms_below : (n m : ℕ) (cs : List Constructor) → n ≤ m → list_all (λ (c : Constructor). are_below n c.fields.items) cs ≡ true
    → list_all (λ (c : Constructor). are_below m c.fields.items) cs ≡ true
arms_below n m [] l h = refl
arms_below n m (c ∷ cs) l h =
    ap₂ (λ a b. a && b) (below_more n m c.fields.items l (first_of _ _ h)) (arms_below n m cs l (second_of (are_below n c.fields.items) _ h))

pub arms_stay : (old new : List Ty) (cs : List Constructor) → Grows old new → list_all (λ (c : Constructor). are_below (length old) c.fields.items) cs ≡ true
    → arm_types new cs ≡ arm_types old cs
arms_stay old new [] g h = refl
arms_stay old new (c ∷ cs) g h =
    ap₂ (λ t ts. t ∷ ts) (types_stay old new c.fields.items g (first_of _ _ h)) (arms_stay old new cs g (second_of (are_below (length old) c.fields.items) _ h))

pub switched_ok : (B : Body) (z : Ty) (old mid new : List Ty) (at : Frame) (left : TyId) (behind after : List Known) (number : ℕ) (places : List ℕ) (cs : List (List Ty)) (r : Result Bool AllocError)
    → Grows old mid → ((os : List Ty) → IsList old at.operands os → IsLeft mid (without_one (NamedTy number) os) (Some left)) → cs ≡ unwrap_or (slice_get B.types number) []
    → IfOk r (λ fine. IsGone mid (frame at.locals left) behind (λ s. ways_by_tag s.locals s.operands cs places) new after fine)
    → IfOk r (λ fine. IsGone old at behind (λ s. ways B z (meant.Switch number places) s.locals s.operands) new after fine)
switched_ok B z old mid new at left behind after number places cs (Ok fine) g f e h = switched B z old mid new at left behind after number places cs fine g f e h
switched_ok B z old mid new at left behind after number places cs (Err x) g f e h = tt

-- of an instruction that is another one
pub gone_as : (B : Body) (z : Ty) (types old new : List Ty) (at : Frame) (behind after : List Known) (i j : Instruction) (r : Result Bool AllocError) → i ≡ j
    → IfOk r (λ fine. IsGone old at behind (λ s. ways B z (instruction_of types j) s.locals s.operands) new after fine)
    → IfOk r (λ fine. IsGone old at behind (λ s. ways B z (instruction_of types i) s.locals s.operands) new after fine)
gone_as B z types old new at behind after i j r e h =
    subst (λ i. IfOk r (λ fine. IsGone old at behind (λ s. ways B z (instruction_of types i) s.locals s.operands) new after fine)) (sym e) h

-- what leads to the next instruction alone
pub is_straight_else : (n : ℕ) (i : Instruction) → ((named : NamedId) (places : Vec ℕ Global) → i ≡ coded.Switch named places → ⊥) → ((n : ℕ) → i ≡ coded.Branch n → ⊥)
    → ((n : ℕ) → i ≡ coded.Jump n → ⊥) → (i ≡ coded.Return → ⊥) → is_listable n i ≡ true → is_straight i ≡ true
is_straight_else n (coded.Switch named places) s b j r h = absurd (s named places refl)
is_straight_else n (coded.Branch m) s b j r h = absurd (b m refl)
is_straight_else n (coded.Jump m) s b j r h = absurd (j m refl)
is_straight_else n coded.Return s b j r h = absurd (r refl)
is_straight_else n (coded.VecFill m) s b j r h = h
is_straight_else n coded.VecGet s b j r h = h
is_straight_else n coded.VecPut s b j r h = h
is_straight_else n i s b j r h = refl
