-- Where an instruction leads, by numbers of lists and by types.
use Rattle.std.proofs.Common.{◌≡◌, ◌↔◌, ◌<◌, ◌≤◌, ◌-◌, ℕ, Bool, true, false, List, [], ◌∷◌, ◌++◌, length, take, drop, reverse, get_or, Option, Some, None, option_map, slice_get, nat_le, IsTrue, IfOk, Result, Ok, Err, refl, sym, ap, ap₂, ◌∙◌, subst, leb-true, leb-false, arith, if◌then◌else◌}
use Rattle.std.specs.Option.{is_some, option_and_then}
use Rattle.std.specs.declared.alloc.AllocError.{AllocError}
use Rattle.std.proofs.lemmas.List.{reverse-append, length-reverse, get_or-reverse, take-append-drop, length-drop, drop_at}
use Rattle.std.proofs.lemmas.Option.{slice_get-get_or, slice_get_past, get_or_from_slice_get}
use Rattle.core_terms.specs.Types.{Ty, UnitTy, PairTy, same_type}
use Rattle.core_terms.specs.CodeShapes.{Shape, shape}
use Rattle.core_terms.specs.Bodies.{Body}
use Rattle.core_terms.specs.InstructionViews.{instruction_of}
use Rattle.core_terms.specs.Instructions as meant
use Rattle.core_terms.specs.Kinds.{next, ways, behind_operands, without, without_one}
use Rattle.core_terms.specs.ProgramTrees.{types_at}
use Rattle.core_terms.specs.TypeTables.{type_at}
use Rattle.core_terms.specs.declared.instruction.Instruction.{Instruction}
use Rattle.core_terms.specs.declared.types.TyId.{TyId}
use Rattle.core_terms.proofs.SameTypes.{same_sound}
use Rattle.core_terms.proofs.TypingComplete.{same_complete}
use Rattle.code_check.specs.declared.known.Frame.{Frame}
use Rattle.code_check.specs.declared.lists.Top.{Top}
use Rattle.code_check.specs.TypeLists.{IsList, IsTop, IsThere, IsLeft, Grows, first_off, taken_by}
use Rattle.code_check.specs.KnownTypes.{IsFrame}
use Rattle.code_check.specs.KindSteps.{IsNext, LeadsTo, is_return}
use Rattle.code_check.proofs.ListsOfTypes.{list_stays, first_off-le, first_off-gt}
use Rattle.code_check.proofs.TakenOperands.{without_is}

abbrev pub frame : TyId → TyId → Frame
frame ls os = record { locals = ls; operands = os }

pub frame_stays : (old new : List Ty) (at : Frame) (s : Shape) → Grows old new → IsFrame old at s → IsFrame new at s
frame_stays old new at s g h = (list_stays old new at.locals (reverse s.locals) g h.0, list_stays old new at.operands s.operands g h.1)

-- with one operand more
pub with_operand : (old new : List Ty) (ls os : List Ty) (locals under ty operands : TyId) (t : Ty) → Grows old new → IsList old locals (reverse ls) → IsList old under os
    → slice_get old ty.0 ≡ Some t → ((ts : List Ty) → IsList old under ts → IsList new operands (type_at old ty ∷ ts)) → IsFrame new (frame locals operands) (shape ls (t ∷ os))
with_operand old new ls os locals under ty operands t g l o e h =
    (list_stays old new locals (reverse ls) g l, subst (λ u. IsList new operands (u ∷ os)) (get_or_from_slice_get old ty.0 t UnitTy e) (h os o))

-- a local, of those that stand last first
pub at_reverse : (ts : List Ty) (n i : ℕ) → n ≡ length (reverse ts) → i < n → slice_get (reverse ts) (n - 1 - i) ≡ slice_get ts i
at_reverse ts n i e l =
    let long : length (reverse ts) ≡ length ts = length-reverse ts in
    let k : n - 1 - i < length ts = omega (arith, e, l, long) in
    let back : length ts - 1 - (n - 1 - i) ≡ i = omega (arith, e, l, long) in
    slice_get-get_or (reverse ts) (n - 1 - i) UnitTy (omega (arith, k, long))
    ∙ ap Some (get_or-reverse ts (n - 1 - i) UnitTy k ∙ ap (λ m. get_or ts m UnitTy) back)
    ∙ sym (slice_get-get_or ts i UnitTy (omega (arith, e, l, long)))

pub local_there : (types ts : List Ty) (n i : ℕ) (r : Option TyId) → n ≡ length (reverse ts) → i < n → IsThere types (slice_get (reverse ts) (n - 1 - i)) r
    → IsThere types (slice_get ts i) r
local_there types ts n i r e l h = subst (λ o. IsThere types o r) (at_reverse ts n i e l) h

pub no_local : (types ts : List Ty) (n i : ℕ) → n ≡ length (reverse ts) → n ≤ i → IsThere types (slice_get ts i) None
no_local types ts n i e l = subst (λ o. IsThere types o None) (sym (slice_get_past ts i (omega (arith, e, l, length-reverse ts)))) tt

module _ (B : Body) (z : Ty) where
  pub loaded_next : (old new : List Ty) (at : Frame) (i : ℕ) (ty operands : TyId) (s : Shape) → Grows old new → IsFrame old at s → IsThere old (slice_get s.locals i) (Some ty)
      → ((ts : List Ty) → IsList old at.operands ts → IsList new operands (type_at old ty ∷ ts))
      → IsNext new (ways B z (meant.Load i) s.locals s.operands) (Some (frame at.locals operands))
  loaded_next old new at i ty operands s g h there f = by (slice_get s.locals i) there
    where
      by : (o : Option Ty) → IsThere old o (Some ty) → IsNext new (option_and_then (λ t. next s.locals (t ∷ s.operands)) o) (Some (frame at.locals operands))
      by None there = elim there [ ]
      by (Some t) there = (refl, with_operand old new s.locals s.operands at.locals at.operands ty operands t g h.0 h.1 there f)

  pub bound_next : (old new : List Ty) (at : Frame) (top : Top) (locals : TyId) (s : Shape) → Grows old new → IsFrame old at s → IsTop old s.operands (Some top)
      → ((ts : List Ty) → IsList old at.locals ts → IsList new locals (type_at old top.first ∷ ts))
      → IsNext new (ways B z meant.Bind s.locals s.operands) (Some (frame locals top.others))
  bound_next old new at top locals s g h t f = by s.operands t
    where
      by : (os : List Ty) → IsTop old os (Some top) → IsNext new (ways B z meant.Bind s.locals os) (Some (frame locals top.others))
      by [] t = elim t [ ]
      by (u ∷ os) t =
          let list : IsList new locals (u ∷ reverse s.locals) =
          subst (λ u. IsList new locals (u ∷ reverse s.locals)) (get_or_from_slice_get old top.first.0 u UnitTy t.0) (f (reverse s.locals) h.0) in
          (refl, (subst (IsList new locals) (sym (reverse-append s.locals (u ∷ []))) list, list_stays old new top.others os g t.1))

  drop-reverse : (ls : List Ty) (n : ℕ) → n ≤ length ls → drop n (reverse ls) ≡ reverse (take (length ls - n) ls)
  drop-reverse ls n l =
      let k = length ls - n in
      let whole : reverse ls ≡ reverse (drop (length ls - n) ls) ++ reverse (take (length ls - n) ls) =
      ap reverse (sym (take-append-drop (length ls - n) ls)) ∙ reverse-append (take (length ls - n) ls) (drop (length ls - n) ls) in
      let long : length (reverse (drop (length ls - n) ls)) ≡ n = omega (arith, length-reverse (drop (length ls - n) ls), length-drop (length ls - n) ls, l) in
      ap (drop n) whole ∙ drop_at (reverse (drop (length ls - n) ls)) (reverse (take (length ls - n) ls)) n long

  pub unbound_next : (types : List Ty) (at : Frame) (n : ℕ) (r : Option TyId) → ((ts : List Ty) → IsList types at.locals ts → IsLeft types (first_off n ts) r)
      → (s : Shape) → IsFrame types at s → IsNext types (ways B z (meant.Unbind n) s.locals s.operands) (option_map (λ (l : TyId). frame l at.operands) r)
  unbound_next types at n r f s h = by (nat_le n (length s.locals)) refl r (f (reverse s.locals) h.0)
    where
      long : length (reverse s.locals) ≡ length s.locals
      long = length-reverse s.locals

      kept : (r : Option TyId) → IsLeft types (Some (reverse (take (length s.locals - n) s.locals))) r
          → IsNext types (next (take (length s.locals - n) s.locals) s.operands) (option_map (λ (l : TyId). frame l at.operands) r)
      kept None left = elim left [ ]
      kept (Some l) left = (refl, (left, h.1))

      none : (r : Option TyId) → IsLeft types None r → IsNext types None (option_map (λ (l : TyId). frame l at.operands) r)
      none None left = tt
      none (Some l) left = elim left [ ]

      by : (b : Bool) → nat_le n (length s.locals) ≡ b → (r : Option TyId) → IsLeft types (first_off n (reverse s.locals)) r
          → IsNext types (if b then next (take (length s.locals - n) s.locals) s.operands else None) (option_map (λ (l : TyId). frame l at.operands) r)
      by true e r left =
          let low : n ≤ length s.locals = leb-true n (length s.locals) e in
          let off = first_off-le n (reverse s.locals) (omega (arith, low, long)) ∙ ap Some (drop-reverse s.locals n low) in
          kept r (subst (λ o. IsLeft types o r) off left)
      by false e r left =
          let high : length s.locals < n = leb-false n (length s.locals) e in
          none r (subst (λ o. IsLeft types o r) (first_off-gt n (reverse s.locals) (omega (arith, high, long))) left)

  pub paired_next : (old mid new : List Ty) (at : Frame) (second first : Top) (pair operands : TyId) (s : Shape) → Grows old mid → Grows mid new → IsFrame old at s
      → IsTop old s.operands (Some second) → ((ts : List Ty) → IsList old second.others ts → IsTop old ts (Some first))
      → slice_get mid pair.0 ≡ Some (PairTy (type_at old first.first) (type_at old second.first))
      → ((ts : List Ty) → IsList mid first.others ts → IsList new operands (type_at mid pair ∷ ts))
      → IsNext new (ways B z meant.Pair s.locals s.operands) (Some (frame at.locals operands))
  paired_next old mid new at second first pair operands s g g' h t f p w = by s.operands t
    where
      both : (os : List Ty) (b : Ty) → slice_get old second.first.0 ≡ Some b → IsTop old os (Some first)
          → IsNext new (ways B z meant.Pair s.locals (b ∷ os)) (Some (frame at.locals operands))
      both [] b e u = elim u [ ]
      both (a ∷ os) b e u =
          let is : slice_get mid pair.0 ≡ Some (PairTy a b) =
          p ∙ ap₂ (λ a b. Some (PairTy a b)) (get_or_from_slice_get old first.first.0 a UnitTy u.0) (get_or_from_slice_get old second.first.0 b UnitTy e) in (
            refl,
            with_operand mid new s.locals os at.locals first.others pair operands (PairTy a b) g' (list_stays old mid at.locals (reverse s.locals) g h.0)
                (list_stays old mid first.others os g u.1) is w,
          )

      by : (os : List Ty) → IsTop old os (Some second) → IsNext new (ways B z meant.Pair s.locals os) (Some (frame at.locals operands))
      by [] t = elim t [ ]
      by (b ∷ os) t = both os b t.0 (f os t.1)

-- the one operand of a return
same_bool : (r : Bool) (t z : Ty) → (IsTrue r ↔ (t ≡ z)) → r ≡ same_type t z
same_bool r t z same = by r (same_type t z) refl same
  where
    by : (r b : Bool) → same_type t z ≡ b → (IsTrue r ↔ (t ≡ z)) → r ≡ b
    by true b e same = sym (same_complete t z (same.0 refl)) ∙ e
    by false false e same = refl
    by false true e same = same.1 (same_sound t z e)

pub returned : (types : List Ty) (z : Ty) (os : List Ty) (top : Top) (o : Option Top) (r : Bool) → IsTop types os (Some top)
    → ((us : List Ty) → IsList types top.others us → IsTop types us o) → is_some o ≡ false → (IsTrue r ↔ (type_at types top.first ≡ z)) → r ≡ is_return z os
returned types z [] top o r h f n same = elim h [ ]
returned types z (t ∷ []) top o r h f n same = same_bool r t z (subst (λ t. IsTrue r ↔ (t ≡ z)) (get_or_from_slice_get types top.first.0 t UnitTy h.0) same)
returned types z (t ∷ (u ∷ us)) top None r h f n same = elim (f (u ∷ us) h.1) [ ]
returned types z (t ∷ (u ∷ us)) top (Some x) r h f n same = absurd (cc)

-- operands of given types go, and one comes
pub without_left : (old mid : List Ty) (takes os : List Ty) (list operands : TyId) (r : Option TyId) → Grows old mid → IsList old operands os → IsList mid list (reverse takes)
    → ((ts os : List Ty) → IsList mid list ts → IsList mid operands os → IsLeft mid (taken_by ts os) r) → IsLeft mid (without takes os) r
without_left old mid takes os list operands r g h l f =
    subst (λ o. IsLeft mid o r) (sym (without_is takes os)) (f (reverse takes) os l (list_stays old mid operands os g h))

pub taken_next : (old mid new : List Ty) (at : Frame) (o : Option (List Ty)) (gives left operands : TyId) (t : Ty) (s : Shape) → Grows old mid → Grows mid new → IsFrame old at s
    → IsLeft mid o (Some left) → slice_get mid gives.0 ≡ Some t → ((ts : List Ty) → IsList mid left ts → IsList new operands (type_at mid gives ∷ ts))
    → IsNext new (option_and_then (λ under. next s.locals (t ∷ under)) o) (Some (frame at.locals operands))
taken_next old mid new at None gives left operands t s g g' h i e w = elim i [ ]
taken_next old mid new at (Some under) gives left operands t s g g' h i e w =
    (refl, with_operand mid new s.locals under at.locals left gives operands t g' (list_stays old mid at.locals (reverse s.locals) g h.0) i e w)

pub not_taken : (types : List Ty) (o : Option (List Ty)) (t : Ty) (s : Shape) → IsLeft types o None → IsNext types (option_and_then (λ under. next s.locals (t ∷ under)) o) None
not_taken types None t s i = tt
not_taken types (Some under) t s i = elim i [ ]

-- the same from a table before, by types that are equal
pub taken_later : (old mid new : List Ty) (at : Frame) (r : Result (Option Frame) AllocError) (ts us : List Ty) (t u : Ty) → Grows old mid → ts ≡ us → t ≡ u
    → IfOk r (LeadsTo mid at (λ s. behind_operands ts t s.locals s.operands) new) → IfOk r (LeadsTo old at (λ s. behind_operands us u s.locals s.operands) new)
taken_later old mid new at (Ok r) ts us t u g e e' h =
    λ s w. subst (λ o. IsNext new o r) (ap₂ (λ ts t. behind_operands ts t s.locals s.operands) e e') (h s (frame_stays old mid at s g w))
taken_later old mid new at (Err x) ts us t u g e e' h = tt

pub made_later : (old mid new : List Ty) (at : Frame) (r : Result (Option Frame) AllocError) (o : Option (List Ty)) (ts us : List Ty) (t u : Ty) → Grows old mid → Some us ≡ o → ts ≡ us → t ≡ u
    → IfOk r (LeadsTo mid at (λ s. behind_operands ts t s.locals s.operands) new)
    → IfOk r (LeadsTo old at (λ s. option_and_then (λ ts. behind_operands ts u s.locals s.operands) o) new)
made_later old mid new at r o ts us t u g f e e' h =
    subst (λ o. IfOk r (LeadsTo old at (λ s. option_and_then (λ ts. behind_operands ts u s.locals s.operands) o) new)) f (taken_later old mid new at r ts us t u g e e' h)

-- one operand alone goes
pub one_without : (old mid new : List Ty) (id : TyId) (t : Ty) (operands : TyId) (r : Result (Option TyId) AllocError) → Grows old mid → slice_get mid id.0 ≡ Some t
    → IfOk r (λ left. (os : List Ty) → IsList mid operands os → IsLeft new (without (types_at mid (id ∷ [])) os) left)
    → IfOk r (λ left. (os : List Ty) → IsList old operands os → IsLeft new (without_one t os) left)
one_without old mid new id t operands (Err x) g e h = tt
one_without old mid new id t operands (Ok left) g e h = λ os l.
    subst (λ t. IsLeft new (without_one t os) left) (get_or_from_slice_get mid id.0 t UnitTy e) (h os (list_stays old mid operands os g l))

-- of an instruction that is another one
pub arm_next : (B : Body) (z : Ty) (types old new : List Ty) (at : Frame) (i j : Instruction) (r : Result (Option Frame) AllocError) → i ≡ j
    → IfOk r (LeadsTo old at (λ s. ways B z (instruction_of types j) s.locals s.operands) new) → IfOk r (LeadsTo old at (λ s. ways B z (instruction_of types i) s.locals s.operands) new)
arm_next B z types old new at i j r e h = subst (λ i. IfOk r (LeadsTo old at (λ s. ways B z (instruction_of types i) s.locals s.operands) new)) (sym e) h
