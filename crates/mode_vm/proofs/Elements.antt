-- The elements of an array among nodes: as many times one, one of them, and one replaced; and the place of an element at an int.
use Rattle.std.proofs.Common.{◌≡◌, ℕ, zero, suc, ◌<◌, ◌&&◌, Bool, true, false, List, [], ◌∷◌, length, replicate, slice_get, slice_set, slice_index_or, Some, None, IfOk, Result, Ok, Err, nat_lt, ℤ, pos, negsuc, refl, sym, ap, ap₂, ◌∙◌, subst, arith, lt-ltb, le-ltb}
use Rattle.std.specs.List.{list_all}
use Rattle.core_terms.specs.Types.{Ty, VecTy, Table, is_length, item_types}
use Rattle.core_terms.specs.Values.{Value, IntV, ItemsV, Values, NoV, AndV}
use Rattle.core_terms.specs.declared.outcome.Trap.{Trap}
use Rattle.ideal_meaning.specs.Run.{Run, Gives, Ends, Traps, Index, at_index, fill_of, get_of, int_in, items_in, limited, local, put_of, repeated, replaced}
use Rattle.value_store.specs.CodeNodes.{numbers_of}
use Rattle.value_store.specs.Markings.{Marking}
use Rattle.value_store.specs.Nodes.{Node}
use Rattle.value_store.specs.Standing.{Kind, StandsFor, AllStandFor}
use Rattle.value_store.specs.declared.node.Ref.{Ref}
use Rattle.value_store.proofs.StandingNodes.{there_stands}
use Rattle.mode_vm.specs.Calculations.{Makes}
use Rattle.mode_vm.specs.Operands.{IsHeld}
use Rattle.mode_vm.specs.declared.operand.Operand.{Operand}
use Rattle.mode_vm.specs.declared.operand.Operand.TheVariants.{At}
use Rattle.mode_vm.specs.Meanings.{CauseOf, StateOf}
use Rattle.mode_vm.specs.Places.{IsPlace}

some_same : (a b : ℕ) → Some a ≡ Some b → a ≡ b
some_same a b e = cc

module _ (kind : Kind) (types : Table) (nodes : List Node) (t : Ty) where
  pub stand_filled : (n r : ℕ) (v : Value) → StandsFor kind types nodes r t v → AllStandFor kind types nodes (replicate n r) (item_types n t) (repeated n v)
  stand_filled zero r v h = tt
  stand_filled (suc n) r v h = (h, stand_filled n r v h)

  pub stand_at : (n i : ℕ) (rs : List ℕ) (vs : Values) (r : ℕ) → i < n → AllStandFor kind types nodes rs (item_types n t) vs → slice_get rs i ≡ Some r
      → StandsFor kind types nodes r t (local vs i)
  stand_at zero i rs vs r l h e = absurd (omega (arith, l))
  stand_at (suc n) zero (s ∷ rs) (AndV v vs) r l h e = subst (λ s. StandsFor kind types nodes s t v) (some_same s r e) h.0
  stand_at (suc n) (suc i) (s ∷ rs) (AndV v vs) r l h e = stand_at n i rs vs r (omega (arith, l)) h.1 e
  stand_at (suc n) i [] vs r l h e = elim h [ ]
  stand_at (suc n) i (s ∷ rs) NoV r l h e = elim h [ ]

  pub stand_replaced : (n i : ℕ) (rs : List ℕ) (vs : Values) (s : ℕ) (u : Value) → AllStandFor kind types nodes rs (item_types n t) vs → StandsFor kind types nodes s t u
      → AllStandFor kind types nodes (slice_set rs i s) (item_types n t) (replaced vs i u)
  stand_replaced zero i [] NoV s u h j = tt
  stand_replaced zero i [] (AndV v vs) s u h j = elim h [ ]
  stand_replaced zero i (r ∷ rs) vs s u h j = elim h [ ]
  stand_replaced (suc n) zero (r ∷ rs) (AndV v vs) s u h j = (j, h.1)
  stand_replaced (suc n) (suc i) (r ∷ rs) (AndV v vs) s u h j = (h.0, stand_replaced n i rs vs s u h.1 j)
  stand_replaced (suc n) i [] vs s u h j = elim h [ ]
  stand_replaced (suc n) i (r ∷ rs) NoV s u h j = elim h [ ]

  pub stand_count : (n : ℕ) (rs : List Ref) (vs : Values) → AllStandFor kind types nodes (numbers_of rs) (item_types n t) vs → length rs ≡ n
  stand_count zero [] NoV h = refl
  stand_count (suc n) (r ∷ rs) (AndV v vs) h = ap suc (stand_count n rs vs h.1)
  stand_count zero [] (AndV v vs) h = elim h [ ]
  stand_count zero (r ∷ rs) vs h = elim h [ ]
  stand_count (suc n) [] vs h = elim h [ ]
  stand_count (suc n) (r ∷ rs) NoV h = elim h [ ]

-- the numbers of nodes that were made
numbers_filled : (n : ℕ) (r : Ref) → numbers_of (replicate n r) ≡ replicate n r.0
numbers_filled zero r = refl
numbers_filled (suc n) r = ap (λ rs. r.0 ∷ rs) (numbers_filled n r)

length_filled : (n : ℕ) (r : Ref) → length (replicate n r) ≡ n
length_filled zero r = refl
length_filled (suc n) r = ap suc (length_filled n r)

numbers_set : (rs : List Ref) (i : ℕ) (s : Ref) → numbers_of (slice_set rs i s) ≡ slice_set (numbers_of rs) i s.0
numbers_set [] i s = refl
numbers_set (r ∷ rs) zero s = refl
numbers_set (r ∷ rs) (suc i) s = ap (λ rs. r.0 ∷ rs) (numbers_set rs i s)

length_set : (rs : List Ref) (i : ℕ) (s : Ref) → length (slice_set rs i s) ≡ length rs
length_set [] i s = refl
length_set (r ∷ rs) zero s = refl
length_set (r ∷ rs) (suc i) s = ap suc (length_set rs i s)

number_at : (rs : List Ref) (i : ℕ) (d : Ref) → i < length rs → slice_get (numbers_of rs) i ≡ Some (slice_index_or rs i d).0
number_at [] i d h = absurd (omega (arith, h))
number_at (r ∷ rs) zero d h = refl
number_at (r ∷ rs) (suc i) d h = number_at rs i d (omega (arith, h))

-- they are there
filled_below : (n r m : ℕ) → r < m → list_all (λ r. nat_lt r m) (replicate n r) ≡ true
filled_below zero r m l = refl
filled_below (suc n) r m l = rw (lt-ltb r m l) (filled_below n r m l)

set_below : (rs : List ℕ) (i r m : ℕ) → r < m → list_all (λ r. nat_lt r m) rs ≡ true → list_all (λ r. nat_lt r m) (slice_set rs i r) ≡ true
set_below [] i r m l h = refl
set_below (s ∷ rs) zero r m l h = rw (lt-ltb r m l) (second (nat_lt s m) (list_all (λ r. nat_lt r m) rs) h)
  where
    second : (a b : Bool) → a && b ≡ true → b ≡ true
    second true b h = h
    second false b h = absurd (cc)
set_below (s ∷ rs) (suc i) r m l h = both (nat_lt s m) (list_all (λ r. nat_lt r m) rs) (list_all (λ r. nat_lt r m) (slice_set rs i r)) h (set_below rs i r m l)
  where
    both : (a b c : Bool) → a && b ≡ true → (b ≡ true → c ≡ true) → a && c ≡ true
    both true b c h f = f h
    both false b c h f = absurd (cc)

pub filled_there : (n m : ℕ) (r : Ref) (items : List Ref) → items ≡ replicate n r → r.0 < m → list_all (λ r. nat_lt r m) (numbers_of items) ≡ true
filled_there n m r items is l = subst (λ rs. list_all (λ r. nat_lt r m) rs ≡ true) (sym (ap numbers_of is ∙ numbers_filled n r)) (filled_below n r.0 m l)

module _ {C W : Type 0} (n : ℕ) (f : ℕ → ℕ → W → Run C W Value) (k : ℕ) (w : W) where
  at_place : (z : ℤ) (i : ℕ) → IsPlace z n (Some i) → at_index n z f k w ≡ f i k w
  at_place z i h = ap (λ z. at_index n z f k w) h.0 ∙ rw (lt-ltb i n h.1) refl

  at_none : (z : ℤ) → IsPlace z n None → at_index n z f k w ≡ Ends (Traps Index) k w
  at_none (pos i) h = rw (le-ltb i n (h i refl)) refl
  at_none (negsuc i) h = refl

module _ (kind : Kind) (types : Table) (old : List Node) where
  -- the elements of an array are these nodes
  abbrev pub AreItems : ℕ → Ty → Value → List Ref → Type 0
  AreItems n t u items = (vs : Values) × (u ≡ ItemsV vs) × AllStandFor kind types old (numbers_of items) (item_types n t) vs

  -- an array that is replaced in is as long as it was
  pub replaced_count : (n : ℕ) (t : Ty) (u : Value) (items changed : List Ref) (place : ℕ) (r : Ref) → changed ≡ slice_set items place r → AreItems n t u items → is_length n ≡ true
      → is_length (length changed) ≡ true
  replaced_count n t u items changed place r is are long =
      subst (λ (n : ℕ). is_length n ≡ true) (sym (ap length is ∙ length_set items place r ∙ stand_count kind types old t n items are.0 are.2)) long

  pub array_length : (n : ℕ) (t : Ty) (u : Value) (o : Operand) → IsHeld kind types old o (VecTy n t) u → is_length n ≡ true
  array_length n t (ItemsV vs) (At r) h = h.2
  array_length n t u (At r) h = elim h [ ]
  array_length n t u o h = elim h [ ]

  pub all_there : (rs : List ℕ) (ts : List Ty) (vs : Values) → AllStandFor kind types old rs ts vs → list_all (λ r. nat_lt r (length old)) rs ≡ true
  all_there [] ts vs h = refl
  all_there (r ∷ rs) (t ∷ ts) (AndV v vs) h = rw (lt-ltb r (length old) (there_stands kind types old t v r h.0)) (all_there rs ts vs h.1)
  all_there (r ∷ rs) [] vs h = elim h [ ]
  all_there (r ∷ rs) (t ∷ ts) NoV h = elim h [ ]

module _ (limit : ℕ) (m : Marking) (kind : Kind) (types : Table) (old : List Node) where
  -- what an array of nodes that stand for values gives
  abbrev MakesArray : {E : Type 0} → List Node → List Ref → Result (Result Operand Trap) E → Type 0
  MakesArray new items result = (t : Ty) (vs : Values) → AllStandFor kind types old (numbers_of items) (item_types (length items) t) vs
      → IfOk result (Makes m kind types new (VecTy (length items) t) (λ k w. limited limit types (VecTy (length items) t) (ItemsV vs) k w))

  pub filled_makes : {E : Type 0} (new : List Node) (result : Result (Result Operand Trap) E) (items : List Ref) (n : ℕ) (r : Ref) → items ≡ replicate n r → MakesArray new items result
      → (t : Ty) (v : Value) → StandsFor kind types old r.0 t v → IfOk result (Makes m kind types new (VecTy n t) (λ k w. fill_of limit types n t v k w))
  filled_makes new result items n r is makes t v stands =
      let len : length items ≡ n = ap length is ∙ length_filled n r in
      subst (λ (k : ℕ). IfOk result (Makes m kind types new (VecTy k t) (λ j w. limited limit types (VecTy k t) (ItemsV (repeated n v)) j w))) len
      (makes t (repeated n v) (subst (λ (k : ℕ). AllStandFor kind types old (numbers_of items) (item_types k t) (repeated n v)) (sym len)
      (subst (λ (rs : List ℕ). AllStandFor kind types old rs (item_types n t) (repeated n v)) (sym (ap numbers_of is ∙ numbers_filled n r)) (stand_filled kind types old t n r.0 v stands))))

  pub element_made : (n : ℕ) (t : Ty) (u v : Value) (items : List Ref) (place : ℕ) (z : ℤ) (d : Ref) → AreItems kind types old n t u items → v ≡ IntV z → IsPlace z (length items) (Some place)
      → Makes m kind types old t (λ k w. get_of n (items_in u) (int_in v) k w) (Ok (At (slice_index_or items place d)))
  element_made n t u v items place z d is e found =
      let len = stand_count kind types old t n items is.0 is.2 in
      let there : IsPlace z n (Some place) = subst (λ (n : ℕ). IsPlace z n (Some place)) len found in (
        local is.0 place,
        stand_at kind types old t n place (numbers_of items) is.0 (slice_index_or items place d).0 there.1 is.2 (number_at items place d found.1),
        λ k w. ap₂ (λ u v. get_of n (items_in u) (int_in v) k w) is.1 e ∙ at_place n (λ i k w. Gives (local is.0 i) k w) k w z place there,
      )

  pub element_none : (n : ℕ) (t : Ty) (u v : Value) (items : List Ref) (z : ℤ) → AreItems kind types old n t u items → v ≡ IntV z → IsPlace z (length items) None
      → {C W : Type 0} (k : ℕ) (w : W) → get_of {C = C} n (items_in u) (int_in v) k w ≡ Ends (Traps Index) k w
  element_none n t u v items z is e none k w =
      let len = stand_count kind types old t n items is.0 is.2 in
      ap₂ (λ u v. get_of n (items_in u) (int_in v) k w) is.1 e ∙ at_none n (λ i k w. Gives (local is.0 i) k w) k w z (subst (λ (n : ℕ). IsPlace z n None) len none)

  pub replaced_none : (n : ℕ) (t : Ty) (u v e : Value) (items : List Ref) (z : ℤ) → AreItems kind types old n t u items → v ≡ IntV z → IsPlace z (length items) None
      → {C W : Type 0} (k : ℕ) (w : W) → put_of {C = C} limit types n t (items_in u) (int_in v) e k w ≡ Ends (Traps Index) k w
  replaced_none n t u v e items z is at none k w =
      let len = stand_count kind types old t n items is.0 is.2 in
      ap₂ (λ u v. put_of limit types n t (items_in u) (int_in v) e k w) is.1 at
      ∙ at_none n (λ i k w. limited limit types (VecTy n t) (ItemsV (replaced is.0 i e)) k w) k w z (subst (λ (n : ℕ). IsPlace z n None) len none)

  pub replaced_makes : {E : Type 0} (new : List Node) (result : Result (Result Operand Trap) E) (items changed : List Ref) (n : ℕ) (t : Ty) (u v e : Value) (place : ℕ) (z : ℤ) (r : Ref)
      → changed ≡ slice_set items place r → MakesArray new changed result → AreItems kind types old n t u items → v ≡ IntV z → IsPlace z (length items) (Some place) → StandsFor kind types old r.0 t e
      → IfOk result (Makes m kind types new (VecTy n t) (λ k w. put_of limit types n t (items_in u) (int_in v) e k w))
  replaced_makes new result items changed n t u v e place z r is makes are at found stands =
      let count = stand_count kind types old t n items are.0 are.2 in
      let len : length changed ≡ n = ap length is ∙ length_set items place r ∙ count in
      let there : IsPlace z n (Some place) = subst (λ (n : ℕ). IsPlace z n (Some place)) count found in
      let stand : AllStandFor kind types old (numbers_of changed) (item_types n t) (replaced are.0 place e) =
      subst (λ (rs : List ℕ). AllStandFor kind types old rs (item_types n t) (replaced are.0 place e)) (sym (ap numbers_of is ∙ numbers_set items place r))
      (stand_replaced kind types old t n place (numbers_of items) are.0 r.0 e are.2 stands) in
      same_run result (λ k w. limited limit types (VecTy n t) (ItemsV (replaced are.0 place e)) k w) (λ k w. put_of limit types n t (items_in u) (int_in v) e k w)
      (λ k w. ap₂ (λ u v. put_of limit types n t (items_in u) (int_in v) e k w) are.1 at
      ∙ at_place n (λ i k w. limited limit types (VecTy n t) (ItemsV (replaced are.0 i e)) k w) k w z place there)
      (subst (λ (k : ℕ). IfOk result (Makes m kind types new (VecTy k t) (λ j w. limited limit types (VecTy k t) (ItemsV (replaced are.0 place e)) j w))) len
      (makes t (replaced are.0 place e) (subst (λ (k : ℕ). AllStandFor kind types old (numbers_of changed) (item_types k t) (replaced are.0 place e)) (sym len) stand)))
    where
      same_made : (f g : ℕ → StateOf m → Run (CauseOf m) (StateOf m) Value) → ((k : ℕ) (w : StateOf m) → g k w ≡ f k w) → (made : Result Operand Trap) → Makes m kind types new (VecTy n t) f made → Makes m kind types new (VecTy n t) g made
      same_made f g same (Ok r) h = (h.0, h.1, λ k w. same k w ∙ h.2 k w)
      same_made f g same (Err trap) h = λ k w. same k w ∙ h k w

      same_run : {E : Type 0} (result : Result (Result Operand Trap) E) (f g : ℕ → StateOf m → Run (CauseOf m) (StateOf m) Value) → ((k : ℕ) (w : StateOf m) → g k w ≡ f k w) → IfOk result (Makes m kind types new (VecTy n t) f)
          → IfOk result (Makes m kind types new (VecTy n t) g)
      same_run (Ok made) f g same h = same_made f g same made h
      same_run (Err e) f g same h = h

-- and its nodes are there
pub replaced_there : (items changed : List Ref) (place m : ℕ) (r : Ref) → changed ≡ slice_set items place r → list_all (λ r. nat_lt r m) (numbers_of items) ≡ true → r.0 < m
    → list_all (λ r. nat_lt r m) (numbers_of changed) ≡ true
replaced_there items changed place m r is h l =
    subst (λ (rs : List ℕ). list_all (λ r. nat_lt r m) rs ≡ true) (sym (ap numbers_of is ∙ numbers_set items place r)) (set_below (numbers_of items) place r.0 m l h)
