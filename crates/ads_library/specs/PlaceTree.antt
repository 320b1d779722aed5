-- The tree of places that `merkle` keeps. Each plain function does on trees what the program's function does on their values.
use Rattle.std.specs.Prelude.{◌≡◌, ℕ, zero, suc, ◌+◌, ◌*◌, ◌-◌, ◌/◌, ◌^◌, ◌<◌, ◌≤◌, min, nat_lt, List, [], ◌∷◌, ◌++◌, length, replicate, codes}
use Rattle.std.specs.Prelude.{ℤ, pos, negsuc, Option, Some, None, slice_get, slice_set, if◌then◌else◌}
use Rattle.core_terms.specs.Values.{Value, UnitV, IntV, PairV, ConV, NoV, AndV}
use Rattle.core_terms.specs.Roles.{role_named}
use Rattle.ideal_meaning.specs.Headline.{call_values}
use Rattle.ideal_meaning.specs.Library.{merkle}
use Rattle.ads_library.specs.Calls.{Computes}
use Rattle.ads_library.specs.Entries.{Entry, entry}
use Rattle.ads_library.specs.Maps.{answer, argument_of, IsAfter}

pub data PlaceTree : Type 0 where
  Tip : (value : ℤ) → PlaceTree
  Fork : (left right : PlaceTree) → PlaceTree

-- the value of the language that a tree is, and with the number of its places the state
abbrev pub place_value : PlaceTree → Value
place_value (Tip v) = ConV 0 (AndV (IntV v) NoV)
place_value (Fork l r) = ConV 1 (AndV (place_value l) (AndV (place_value r) NoV))

abbrev pub counted_value : ℕ → PlaceTree → Value
counted_value n t = PairV (IntV (pos n)) (place_value t)

-- what stands at the places, from left to right
abbrev pub elements : PlaceTree → List ℤ
elements (Tip v) = v ∷ []
elements (Fork l r) = elements l ++ elements r

-- all paths are of length c
abbrev pub IsFull : ℕ → PlaceTree → Type 0
IsFull zero (Tip v) = Unit {0}
IsFull (suc c) (Fork l r) = IsFull c l × IsFull c r
IsFull c t = ⊥

-- the tree of 2^c places with one value at each
abbrev pub filled : ℕ → ℤ → PlaceTree
filled zero v = Tip v
filled (suc c) v = Fork (filled c v) (filled c v)

-- the value at place i of n, and the tree with another one there: the left half has the first n / 2 places
abbrev pub value_at : PlaceTree → ℕ → ℕ → ℤ
value_at (Tip v) n i = v
value_at (Fork l r) n i = if nat_lt i (n / 2) then value_at l (n / 2) i else value_at r (n / 2) (i - n / 2)

abbrev pub changed : PlaceTree → ℕ → ℕ → ℤ → PlaceTree
changed (Tip w) n i v = Tip v
changed (Fork l r) n i v = if nat_lt i (n / 2) then Fork (changed l (n / 2) i v) r else Fork l (changed r (n / 2) (i - n / 2) v)

-- an exponent is brought into 0 to 30
abbrev pub exponent : ℤ → ℕ
exponent (pos d) = min d 30
exponent (negsuc d) = 0

-- the roles of `merkle` by the numbers of their functions
abbrev pub make_role : ℕ
make_role = 4

abbrev pub get_role : ℕ
get_role = 5

abbrev pub put_role : ℕ
put_role = 6

-- the argument of `make`: an exponent, and the value that each place has at first
abbrev pub make_argument : (d v : ℤ) → Value
make_argument d v = PairV (IntV d) (IntV v)

-- Each role computes what the plain function gives on its tree of 2^c places: `make` with 2c + 3 calls, the others with c + 2.
pub record MerkleRoles : Type 0 where
  pub make : (d v : ℤ)
      → Computes merkle make_role (AndV (make_argument d v) NoV) (counted_value (2 ^ exponent d) (filled (exponent d) v)) (2 * exponent d + 3)
  pub get : (c : ℕ) (t : PlaceTree) → IsFull c t → c ≤ 30 → (i : ℕ) → i < 2 ^ c
      → Computes merkle get_role (call_values (counted_value (2 ^ c) t) (IntV (pos i))) (answer (Some (value_at t (2 ^ c) i))) (c + 2)
  pub put : (c : ℕ) (t : PlaceTree) → IsFull c t → c ≤ 30 → (i : ℕ) (v : ℤ) → i < 2 ^ c
      → Computes merkle put_role (call_values (counted_value (2 ^ c) t) (argument_of (entry (pos i) v)))
      (PairV (counted_value (2 ^ c) (changed t (2 ^ c) i v)) UnitV) (c + 2)

-- The plain functions are those of a list of 2^c elements.
pub record MerkleIsList : Type 0 where
  pub filled : (c : ℕ) (v : ℤ) → elements (filled c v) ≡ replicate (2 ^ c) v
  pub size : (c : ℕ) (t : PlaceTree) → IsFull c t → length (elements t) ≡ 2 ^ c
  pub value : (c : ℕ) (t : PlaceTree) → IsFull c t → (i : ℕ) → i < 2 ^ c → slice_get (elements t) i ≡ Some (value_at t (2 ^ c) i)
  pub change : (c : ℕ) (t : PlaceTree) → IsFull c t → (i : ℕ) (v : ℤ) → i < 2 ^ c
      → elements (changed t (2 ^ c) i v) ≡ slice_set (elements t) i v

-- the element at a place; none outside
abbrev pub element : List ℤ → ℤ → Option ℤ
element xs (pos i) = slice_get xs i
element xs (negsuc i) = None

-- the list with another element at a place; the same outside
abbrev pub with_element : List ℤ → ℤ → ℤ → List ℤ
with_element xs (pos i) value = slice_set xs i value
with_element xs (negsuc i) value = xs

-- the list after `make` on (d, v) and these puts, of which the newest stands first
abbrev pub list_after : (d v : ℤ) → (puts : List Entry) → List ℤ
list_after d v [] = replicate (2 ^ exponent d) v
list_after d v (newest ∷ earlier) = with_element (list_after d v earlier) newest.key newest.value

-- a state of `merkle` after `make` on (d, v) and these puts
abbrev pub IsMadeAfter : (d v : ℤ) → (puts : List Entry) (state : Value) → Type 0
IsMadeAfter d v puts state = IsAfter merkle make_role put_role (make_argument d v) puts state

-- `merkle` keeps a list of 2^c elements, c being the exponent that `make` is given, brought into 0 to 30. No call traps. Enough fuel is
-- 2c + 3 for `make`, and c + 2 for `get` and `put`.
pub record MerkleKeepsList : Type 0 where
  pub make_is_named : role_named merkle (codes "make") ≡ Some make_role
  pub get_is_named : role_named merkle (codes "get") ≡ Some get_role
  pub put_is_named : role_named merkle (codes "put") ≡ Some put_role
  -- `make` gives a state
  pub make : (d v : ℤ) → (state : Value) × Computes merkle make_role (AndV (make_argument d v) NoV) state (2 * exponent d + 3)
  -- there is a state after `make` and any puts
  pub reached : (d v : ℤ) (puts : List Entry) → (state : Value) × IsMadeAfter d v puts state
  -- on each such state `get` answers with the element at the place, and that it is missing outside
  pub get : (d v : ℤ) (puts : List Entry) (state : Value) → IsMadeAfter d v puts state → (i : ℤ)
      → Computes merkle get_role (call_values state (IntV i)) (answer (element (list_after d v puts) i)) (exponent d + 2)
  -- and `put` gives the next state, which outside is the one that it was given
  pub put : (d v : ℤ) (puts : List Entry) (state : Value) → IsMadeAfter d v puts state → (e : Entry)
      → (next : Value) × (element (list_after d v puts) e.key ≡ None → next ≡ state)
      × Computes merkle put_role (call_values state (argument_of e)) (PairV next UnitV) (exponent d + 2)
  -- each state is a full tree of the list, with the number of its places
  pub states : (d v : ℤ) (puts : List Entry) (state : Value) → IsMadeAfter d v puts state
      → (t : PlaceTree) × (state ≡ counted_value (2 ^ exponent d) t) × IsFull (exponent d) t × (elements t ≡ list_after d v puts)
