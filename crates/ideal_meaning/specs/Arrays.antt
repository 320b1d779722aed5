-- What the operations on arrays give, in the words of lists. Each stands on the first locals here, as in `Operations`.
use Rattle.std.specs.Prelude.{◌≡◌, ◌≢◌, ℕ, ◌≤◌, List, [], ◌∷◌, length, replicate, slice_get, Some, ℤ, pos}
use Rattle.core_terms.specs.Types.{Ty, VecTy}
use Rattle.core_terms.specs.Values.{Value, IntV, ItemsV, Values, NoV, AndV}
use Rattle.core_terms.specs.Terms.{Expression, LocalE, OperateE, VecFill, VecGet, VecPut, NoE, AndE, Program}
use Rattle.ideal_meaning.specs.Run.{Traps, Index, Gives, Ends}
use Rattle.ideal_meaning.specs.Ideal.{Opened}
use Rattle.ideal_meaning.specs.Table.{eval, made}

-- the values as a list
abbrev pub listed : Values → List Value
listed NoV = []
listed (AndV v vs) = v ∷ listed vs

-- ws is vs with u at i
pub record IsWithAt (i : ℕ) (u : Value) (vs ws : List Value) : Type 0 where
  pub count : length ws ≡ length vs
  pub there : slice_get ws i ≡ Some u
  pub others : (j : ℕ) → j ≢ i → slice_get ws j ≡ slice_get vs j

-- no number below m is the int
abbrev pub IsOutside : ℤ → ℕ → Type 0
IsOutside z m = (i : ℕ) → z ≡ pos i → m ≤ i

abbrev pub get : Ty → Values → Expression
get t vs = OperateE (VecGet (length (listed vs)) t) (AndE (LocalE 0) (AndE (LocalE 1) NoE))

abbrev pub put : Ty → Values → Expression
put t vs = OperateE (VecPut (length (listed vs)) t) (AndE (LocalE 0) (AndE (LocalE 1) (AndE (LocalE 2) NoE)))

module _ (P : Program) (n : ℕ) where
  pub record ArrayRules : Type 0 where
    -- an array of m times the value, within the limits
    pub filled : (m : ℕ) (t : Ty) (v : Value) (k : ℕ) (s : List Opened) → (ws : Values) × (listed ws ≡ replicate m v)
        × (eval P n (OperateE (VecFill m t) (AndE (LocalE 0) NoE)) (AndV v NoV) k s ≡ made P (VecTy m t) (ItemsV ws) k s)
    -- the element with the number, from 0; each other int traps
    pub element : (t : Ty) (vs : Values) (i : ℕ) (v : Value) (k : ℕ) (s : List Opened) → slice_get (listed vs) i ≡ Some v
        → eval P n (get t vs) (AndV (ItemsV vs) (AndV (IntV (pos i)) NoV)) k s ≡ Gives v k s
    pub no_element : (t : Ty) (vs : Values) (z : ℤ) (k : ℕ) (s : List Opened) → IsOutside z (length (listed vs))
        → eval P n (get t vs) (AndV (ItemsV vs) (AndV (IntV z) NoV)) k s ≡ Ends (Traps Index) k s
    -- the array with another element there, within the limits; each other int traps, whatever the limits
    pub replaced_there : (t : Ty) (vs : Values) (i : ℕ) (v u : Value) (k : ℕ) (s : List Opened) → slice_get (listed vs) i ≡ Some v
        → (ws : Values) × IsWithAt i u (listed vs) (listed ws)
        × (eval P n (put t vs) (AndV (ItemsV vs) (AndV (IntV (pos i)) (AndV u NoV))) k s ≡ made P (VecTy (length (listed vs)) t) (ItemsV ws) k s)
    pub not_replaced : (t : Ty) (vs : Values) (z : ℤ) (u : Value) (k : ℕ) (s : List Opened) → IsOutside z (length (listed vs))
        → eval P n (put t vs) (AndV (ItemsV vs) (AndV (IntV z) (AndV u NoV))) k s ≡ Ends (Traps Index) k s

-- in every program
abbrev pub ArrayTable : Type 0
ArrayTable = (P : Program) (n : ℕ) → ArrayRules P n
