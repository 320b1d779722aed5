-- One more way that leads to an instruction, by numbers of lists and by types.
use Rattle.std.proofs.Common.{◌≡◌, ℕ, nat_eq, eqb-true, eq-eqb, Bool, true, false, ◌&&◌, List, [], ◌∷◌, refl, sym, ap, ap₂, ◌∙◌, subst, if◌then◌else◌, reverse}
use Rattle.std.proofs.lemmas.List.{reverse-reverse}
use Rattle.std.proofs.lemmas.Option.{same_Some, slice_get_within, get_or_from_slice_get}
use Rattle.core_terms.specs.Types.{Ty, UnitTy}
use Rattle.core_terms.specs.TypeTables.{HasOneNumber}
use Rattle.core_terms.proofs.SameTypes.{first_of, second_of}
use Rattle.core_terms.proofs.TypingComplete.{same_self}
use Rattle.core_terms.specs.declared.types.TyId.{TyId}
use Rattle.core_terms.specs.CodeShapes.{Shape, shape}
use Rattle.core_terms.specs.Kinds as kinds
use Rattle.core_terms.specs.Kinds.{same_types, same_shape}
use Rattle.core_terms.proofs.KindsSound.{shape_sound}
use Rattle.code_check.specs.declared.known.Frame.{Frame}
use Rattle.code_check.specs.declared.known.Known.TheVariants.{Reached, Clashing}
use Rattle.code_check.specs.TypeLists.{list_of, IsList}
use Rattle.code_check.specs.KnownTypes.{IsFrame, IsKnown}
use Rattle.code_check.proofs.ListsOfTypes.{one_list}

types_self : (ts : List Ty) → same_types ts ts ≡ true
types_self [] = refl
types_self (t ∷ ts) = ap₂ (λ a b. a && b) (same_self t) (types_self ts)

shape_self : (s : Shape) → same_shape s s ≡ true
shape_self s = ap₂ (λ a b. a && b) (types_self s.locals) (types_self s.operands)

-- a number stands for one list, and a list has one number
one_meant : (types : List Ty) (id : TyId) (ts us : List Ty) → IsList types id ts → IsList types id us → ts ≡ us
one_meant types id ts us h w = one_list ts us (same_Some (list_of ts) (list_of us) (sym h ∙ w))

one_id : (types : List Ty) (a b : TyId) (ts : List Ty) → HasOneNumber types → IsList types a ts → IsList types b ts → a ≡ b
one_id types a b ts one h w =
    let same : a.0 ≡ b.0 = one a.0 b.0 (slice_get_within types a.0 (list_of ts) h) (slice_get_within types b.0 (list_of ts) w)
    (get_or_from_slice_get types a.0 (list_of ts) UnitTy h ∙ sym (get_or_from_slice_get types b.0 (list_of ts) UnitTy w)) in
    ap (λ (n : ℕ). let id : TyId = record { 0 = n } in id) same

turned : (ts us : List Ty) → reverse ts ≡ reverse us → ts ≡ us
turned ts us e = sym (reverse-reverse ts) ∙ ap reverse e ∙ reverse-reverse us

-- so does a frame, and a shape
one_shape : (types : List Ty) (at : Frame) (r s : Shape) → IsFrame types at r → IsFrame types at s → r ≡ s
one_shape types at r s h w =
    ap₂ shape (turned r.locals s.locals (one_meant types at.locals (reverse r.locals) (reverse s.locals) h.0 w.0)) (one_meant types at.operands r.operands s.operands h.1 w.1)

one_frame : (types : List Ty) (a b : Frame) (s : Shape) → HasOneNumber types → IsFrame types a s → IsFrame types b s → a ≡ b
one_frame types a b s one h w =
    let locals : a.locals ≡ b.locals = one_id types a.locals b.locals (reverse s.locals) one h.0 w.0 in
    let operands : a.operands ≡ b.operands = one_id types a.operands b.operands s.operands one h.1 w.1 in
    ap₂ (λ (l o : TyId). let at : Frame = record { locals = l; operands = o } in at) locals operands

pub stays : (types : List Ty) (other at : Frame) → other ≡ at → (k : kinds.Known) (s : Shape) → IsKnown types (Reached other) k → IsFrame types at s → IsKnown types (Reached other) (kinds.met k s)
stays types other at e kinds.Unreached s h w = elim h [ ]
stays types other at e kinds.Clashing s h w = elim h [ ]
stays types other at e (kinds.Reached r) s h w =
    let one = one_shape types other r s h (subst (λ at. IsFrame types at s) (sym e) w) in
    let same : same_shape r s ≡ true = subst (λ s. same_shape r s ≡ true) one (shape_self r) in
    subst (λ c. IsKnown types (Reached other) (if c then kinds.Reached r else kinds.Clashing)) (sym same) h

pub clashes : (types : List Ty) (other at : Frame) → HasOneNumber types → (other ≡ at → ⊥) → (k : kinds.Known) (s : Shape) → IsKnown types (Reached other) k → IsFrame types at s
    → IsKnown types Clashing (kinds.met k s)
clashes types other at one apart kinds.Unreached s h w = elim h [ ]
clashes types other at one apart kinds.Clashing s h w = elim h [ ]
clashes types other at one apart (kinds.Reached r) s h w = step (same_shape r s) refl
  where
    step : (c : Bool) → same_shape r s ≡ c → IsKnown types Clashing (if c then kinds.Reached r else kinds.Clashing)
    step false e = tt
    step true e = absurd (apart (one_frame types other at s one (subst (IsFrame types other) (shape_sound r s e) h) w))

-- what the test of two frames says
pub same_frame : (a b : Frame) → nat_eq a.locals.0 b.locals.0 && nat_eq a.operands.0 b.operands.0 ≡ true → a ≡ b
same_frame a b e =
    let locals : a.locals.0 ≡ b.locals.0 = eqb-true a.locals.0 b.locals.0 (first_of _ _ e) in
    let operands : a.operands.0 ≡ b.operands.0 = eqb-true a.operands.0 b.operands.0 (second_of (nat_eq a.locals.0 b.locals.0) _ e) in
    ap₂ (λ (l o : ℕ). let at : Frame = record { locals = record { 0 = l }; operands = record { 0 = o } } in at) locals operands

pub other_frame : (a b : Frame) → nat_eq a.locals.0 b.locals.0 && nat_eq a.operands.0 b.operands.0 ≡ false → a ≡ b → ⊥
other_frame a b f e =
    let same : nat_eq a.locals.0 b.locals.0 && nat_eq a.operands.0 b.operands.0 ≡ true =
    subst (λ b. nat_eq a.locals.0 b.locals.0 && nat_eq a.operands.0 b.operands.0 ≡ true) e (ap₂ (λ p q. p && q) (eq-eqb a.locals.0 a.locals.0 refl) (eq-eqb a.operands.0 a.operands.0 refl)) in
    cc
