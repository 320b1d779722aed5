-- Operations on arrays, over code: what they give has its type, and their instructions do what they do.
use Rattle.std.proofs.Common.{◌≡◌, ◌<◌, ℕ, zero, suc, Bool, true, false, ℤ, pos, negsuc, nat_lt, refl, ltb-true, if◌then◌else◌}
use Rattle.core_terms.specs.Types.{Ty, VecTy, Table, item_types}
use Rattle.core_terms.specs.Values.{Value, ItemsV, Values, NoV, AndV}
use Rattle.core_terms.specs.Terms.{Operation, VecFill, VecGet, VecPut, operand_types, result_type}
use Rattle.ideal_meaning.specs.Run.{Run, Ends, Traps, Index, at_index, fill_of, get_of, put_of, operate, int_in, items_in, repeated, replaced}
use Rattle.ideal_meaning.proofs.InHand.{item_type_at}
use Rattle.ideal_meaning.specs.CodeTypes.{IsOf, AreOf, Holds}
use Rattle.ideal_meaning.proofs.Parts.{holds_limited, of_local}

module _ (types : Table) (A : Ty → Value → Bool) where
  pub at_items : (Q : Value → Type 0) (n : ℕ) (t : Ty) (v : Value) → IsOf types A (VecTy n t) v → ((vs : Values) → AreOf types A (item_types n t) vs → Q (ItemsV vs)) → Q v
  at_items Q n t (ItemsV vs) h f = f vs h
  at_items Q n t _ h f = elim h [ ]

  of_repeated : (n : ℕ) (t : Ty) (v : Value) → IsOf types A t v → AreOf types A (item_types n t) (repeated n v)
  of_repeated zero t v h = tt
  of_repeated (suc n) t v h = (h, of_repeated n t v h)

  of_replaced : (n i : ℕ) (t : Ty) (vs : Values) (u : Value) → AreOf types A (item_types n t) vs → IsOf types A t u → AreOf types A (item_types n t) (replaced vs i u)
  of_replaced zero i t NoV u h j = tt
  of_replaced zero i t (AndV v vs) u h j = elim h [ ]
  of_replaced (suc n) i t NoV u h j = elim h [ ]
  of_replaced (suc n) zero t (AndV v vs) u h j = (j, h.1)
  of_replaced (suc n) (suc i) t (AndV v vs) u h j = (h.0, of_replaced n i t vs u h.1 j)

module _ (C W : Type 0) (types : Table) (A : Ty → Value → Bool) where
  holds_index : (Q : Value → Type 0) (n : ℕ) (z : ℤ) (f : ℕ → ℕ → W → Run C W Value) (k : ℕ) (w : W) → ((i : ℕ) → i < n → Holds Q (f i k w)) → Holds Q (at_index n z f k w)
  holds_index Q n (pos i) f k w h = by (nat_lt i n) refl
    where
      by : (b : Bool) → nat_lt i n ≡ b → Holds Q (if b then f i k w else Ends (Traps Index) k w)
      by true e = h i (ltb-true i n e)
      by false e = tt
  holds_index Q n (negsuc i) f k w h = tt

  pub holds_fill : (limit n : ℕ) (t : Ty) (v : Value) (k : ℕ) (w : W) → IsOf types A t v → Holds (IsOf types A (VecTy n t)) (fill_of {C = C} limit types n t v k w)
  holds_fill limit n t v k w h = holds_limited C W limit types (IsOf types A (VecTy n t)) (VecTy n t) (ItemsV (repeated n v)) k w (of_repeated types A n t v h)

  pub holds_get : (n : ℕ) (t : Ty) (vs : Values) (z : ℤ) (k : ℕ) (w : W) → AreOf types A (item_types n t) vs → Holds (IsOf types A t) (get_of {C = C} n vs z k w)
  holds_get n t vs z k w h = holds_index (IsOf types A t) n z _ k w (λ i l. of_local types A (item_types n t) vs i t h (item_type_at n i t l))

  pub holds_put : (limit n : ℕ) (t : Ty) (vs : Values) (z : ℤ) (v : Value) (k : ℕ) (w : W) → AreOf types A (item_types n t) vs → IsOf types A t v
      → Holds (IsOf types A (VecTy n t)) (put_of {C = C} limit types n t vs z v k w)
  holds_put limit n t vs z v k w h j =
      holds_index (IsOf types A (VecTy n t)) n z _ k w
      (λ i l. holds_limited C W limit types (IsOf types A (VecTy n t)) (VecTy n t) (ItemsV (replaced vs i v)) k w (of_replaced types A n i t vs v h j))

  pub holds_operate : (limit : ℕ) (op : Operation) (us : Values) (k : ℕ) (w : W) → AreOf types A (operand_types op) us
      → Holds (IsOf types A (result_type op)) (operate {C = C} limit types op us k w)
  holds_operate limit (VecFill n t) (AndV v NoV) k w h = holds_fill limit n t v k w h.0
  holds_operate limit (VecGet n t) (AndV u (AndV z NoV)) k w h =
      at_items types A (λ u. Holds (IsOf types A t) (get_of {C = C} n (items_in u) (int_in z) k w)) n t u h.0 (λ vs j. holds_get n t vs (int_in z) k w j)
  holds_operate limit (VecPut n t) (AndV u (AndV z (AndV v NoV))) k w h =
      at_items types A (λ u. Holds (IsOf types A (VecTy n t)) (put_of {C = C} limit types n t (items_in u) (int_in z) v k w)) n t u h.0
      (λ vs j. holds_put limit n t vs (int_in z) v k w j h.1.1.0)
  holds_operate limit (VecFill n t) NoV k w h = elim h [ ]
  holds_operate limit (VecFill n t) (AndV v (AndV u vs)) k w h = elim h.1 [ ]
  holds_operate limit (VecGet n t) NoV k w h = elim h [ ]
  holds_operate limit (VecGet n t) (AndV u NoV) k w h = elim h.1 [ ]
  holds_operate limit (VecGet n t) (AndV u (AndV z (AndV v vs))) k w h = elim h.1.1 [ ]
  holds_operate limit (VecPut n t) NoV k w h = elim h [ ]
  holds_operate limit (VecPut n t) (AndV u NoV) k w h = elim h.1 [ ]
  holds_operate limit (VecPut n t) (AndV u (AndV z NoV)) k w h = elim h.1.1 [ ]
  holds_operate limit (VecPut n t) (AndV u (AndV z (AndV v (AndV r vs)))) k w h = elim h.1.1.1 [ ]
