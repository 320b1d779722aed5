-- The lanes that `skiplist` keeps. Each plain function does on lanes what the program's function of its name does on their values; `find`
-- is for `look`, and `part_before` and `part_behind` are the two lanes that `split` gives.
use Rattle.std.specs.Prelude.{◌≡◌, ◌≢◌, ◌<◌, ◌≤◌, ◌+◌, ◌-◌, ◌*◌, ◌/◌, ◌%◌, ◌^◌, max, nat_eq, nat_le, ℕ, zero, suc, List, [], ◌∷◌, ◌++◌, filter, length}
use Rattle.std.specs.Prelude.{ℤ, pos, negsuc, ◌*ℤ◌, ◌+ℤ◌, int_lt, Option, Some, None, is_some, if◌then◌else◌}
use Rattle.std.specs.Ordering.{int_eq}
use Rattle.core_terms.specs.Values.{Value, UnitV, IntV, PairV, ConV, NoV, AndV}
use Rattle.ideal_meaning.specs.Headline.{call_values}
use Rattle.ads_library.specs.Calls.{Computes}
use Rattle.ads_library.specs.Entries.{Entry, entry, IsInt, AllHaveInts, lookup, Ascending}
use Rattle.ads_library.specs.Maps.{argument_of, IsAfter, IsMapOf, answer, AnyNumber, KeepsMap}
use Rattle.ads_library.specs.SkipListProgram.{skiplist}

-- A part of the list at one level. Step has a key with its value, what is below before this key, and the rest of the lane; Last has
-- what is below at the end. Below is a lane one level lower, of the keys between two neighbours. Level 0 is the Floor.
pub data Lane : Type 0 where
  Floor : Lane
  Last : (below : Lane) → Lane
  Step : (below : Lane) (key value : ℤ) (rest : Lane) → Lane

-- a lane without keys at a level
abbrev pub bare : ℕ → Lane
bare zero = Floor
bare (suc j) = Last (bare j)

abbrev pub find : Lane → ℤ → Option ℤ
find Floor k = None
find (Last d) k = find d k
find (Step d a v r) k = if int_eq k a then Some v else (if int_lt k a then find d k else find r k)

-- a key modulo 65,536, in 0 to 65,535; `negsuc n` is -(n + 1)
abbrev pub low : ℤ → ℕ
low (pos n) = n % 65536
low (negsuc n) = 65535 - n % 65536

-- how often 2 divides r, so many times at most
abbrev pub halvings : ℕ → ℕ → ℕ
halvings zero r = 0
halvings (suc most) r = if nat_eq (r % 2) 0 then suc (halvings most (r / 2)) else 0

-- The level of a key: 1, and 1 more for each time that 2 divides it modulo 65,536, and 17 where this is 0.
abbrev pub level : ℤ → ℕ
level k = suc (halvings 16 (low k))

-- the keys of a lane before k, and those behind it, as lanes of the same level
abbrev pub part_before : Lane → ℤ → Lane
part_before Floor k = Floor
part_before (Last d) k = Last (part_before d k)
part_before (Step d a w r) k = if int_lt k a then Last (part_before d k) else Step d a w (part_before r k)

abbrev pub part_behind : Lane → ℤ → Lane
part_behind Floor k = Floor
part_behind (Last d) k = Last (part_behind d k)
part_behind (Step d a w r) k = if int_lt k a then Step (part_behind d k) a w r else part_behind r k

-- puts a key into the lane of its level
abbrev pub place : Lane → (k v : ℤ) → Lane
place Floor k v = Floor
place (Last d) k v = Step (part_before d k) k v (Last (part_behind d k))
place (Step d a w r) k v =
    if int_eq k a then Step d a v r
    else (if int_lt k a then Step (part_before d k) k v (Step (part_behind d k) a w r) else Step d a w (place r k v))

-- the same from a lane that is n levels higher
abbrev pub ins : Lane → ℕ → (k v : ℤ) → Lane
ins Floor zero k v = place Floor k v
ins Floor (suc n) k v = Floor
ins (Last d) zero k v = place (Last d) k v
ins (Last d) (suc n) k v = Last (ins d n k v)
ins (Step d a w r) zero k v = place (Step d a w r) k v
ins (Step d a w r) (suc n) k v = if int_lt k a then Step (ins d n k v) a w r else Step d a w (ins r (suc n) k v)

abbrev pub insert : Lane → (k v : ℤ) → Lane
insert t k v = ins t (17 - level k) k v

-- all keys with their values, from left to right
abbrev pub entries : Lane → List Entry
entries Floor = []
entries (Last d) = entries d
entries (Step d a v r) = entries d ++ entry a v ∷ entries r

-- the list n levels further down: at the lane's own level its steps alone
abbrev pub list_below : ℕ → Lane → List Entry
list_below n Floor = []
list_below zero (Last d) = []
list_below zero (Step d a v r) = entry a v ∷ list_below zero r
list_below (suc n) (Last d) = list_below n d
list_below (suc n) (Step d a v r) = list_below n d ++ entry a v ∷ list_below (suc n) r

-- the list at level j of a lane of level 17
abbrev pub list_at : ℕ → Lane → List Entry
list_at j t = list_below (17 - j) t

-- a lane of level n: its own keys have this level, and what is below them are lanes one level lower, down to the Floor at level 0
abbrev pub Levelled : Lane → ℕ → Type 0
Levelled Floor n = n ≡ 0
Levelled (Last d) zero = ⊥
Levelled (Last d) (suc n) = Levelled d n
Levelled (Step d a v r) zero = ⊥
Levelled (Step d a v r) (suc n) = (level a ≡ suc n) × Levelled d n × Levelled r (suc n)

-- the entries whose key has level n or more
abbrev pub from_level : ℕ → List Entry → List Entry
from_level n es = filter (λ e. nat_le n (level e.key)) es

-- A skip list: keys are in order, each in a lane of its level, and the whole is a lane of level 17.
pub record IsSkipList (t : Lane) : Type 0 where
  pub ascending : Ascending (entries t)
  pub levels : Levelled t 17

-- the longest way of a walk through a lane, down and along
abbrev pub reach : Lane → ℕ
reach Floor = 0
reach (Last d) = suc (reach d)
reach (Step d a v r) = suc (max (reach d) (reach r))

-- The level of a key, said by division: `low k` is k modulo 65,536. Where this isn't 0, it is an odd number times 2 to the power of the
-- level less 1; where it is, the level is 17.
pub record IsLevel (k : ℤ) : Type 0 where
  pub remainder : (q : ℤ) × (k ≡ pos 65536 *ℤ q +ℤ pos (low k))
  pub below : low k < 65536
  pub of_zero : low k ≡ 0 → level k ≡ 17
  pub of_others : low k ≢ 0 → (odd : ℕ) × (low k ≡ 2 ^ (level k - 1) * odd) × (odd % 2 ≡ 1)

-- The plain functions are those of a map on such lanes: what was inserted is found, other keys are found as before, only a new key adds an
-- entry, and a key is found exactly where it has an entry. At each of the levels 1 to 17 stands the list of the keys of this level or more,
-- ascending.
pub record SkipListIsMap : Type 0 where
  pub level_is : (k : ℤ) → IsLevel k
  pub empty : IsSkipList (bare 17) × (entries (bare 17) ≡ [])
  pub kept : (t : Lane) (key value : ℤ) → IsSkipList t → IsSkipList (insert t key value)
  pub nothing : (key : ℤ) → find (bare 17) key ≡ None
  pub found : (t : Lane) (key value other : ℤ) → IsSkipList t
      → find (insert t key value) other ≡ (if int_eq other key then Some value else find t other)
  pub counted : (t : Lane) (key value : ℤ) → IsSkipList t
      → length (entries (insert t key value)) ≡ (if is_some (find t key) then length (entries t) else suc (length (entries t)))
  pub listed : (t : Lane) (key : ℤ) → IsSkipList t → find t key ≡ lookup (entries t) key
  pub levels : (t : Lane) → IsSkipList t → (j : ℕ) → 1 ≤ j → j ≤ 17
      → (list_at j t ≡ from_level j (entries t)) × Ascending (list_at j t)
  pub reach_bound : (t : Lane) → IsSkipList t → reach t ≤ 17 + length (entries t)

-- the value of the language that a lane is
abbrev pub lane_value : Lane → Value
lane_value Floor = ConV 0 NoV
lane_value (Last d) = ConV 1 (AndV (lane_value d) NoV)
lane_value (Step d a v r) = ConV 2 (AndV (lane_value d) (AndV (IntV a) (AndV (IntV v) (AndV (lane_value r) NoV))))

-- the roles of `skiplist` by the numbers of their functions
abbrev pub empty_role : ℕ
empty_role = 12

abbrev pub get_role : ℕ
get_role = 13

abbrev pub put_role : ℕ
put_role = 14

-- Each role computes what the plain function gives on its lane: a get with fuel for two calls more than a walk is long, a put with fuel
-- for twice as much and 21 calls.
pub record SkipListRoles : Type 0 where
  pub empty : Computes skiplist empty_role (AndV UnitV NoV) (lane_value (bare 17)) 19
  pub get : (t : Lane) (key : ℤ) → Computes skiplist get_role (call_values (lane_value t) (IntV key)) (answer (find t key)) (reach t + 2)
  pub put : (t : Lane) (e : Entry) → IsInt e.key
      → Computes skiplist put_role (call_values (lane_value t) (argument_of e)) (PairV (lane_value (insert t e.key e.value)) UnitV) (2 * reach t + 21)

-- So after `empty` and any puts a get finds the value that was put last for its key; with n distinct keys fuel 100 (n + 20) is enough, and
-- 100 for `empty`. Each state is a skip list of the map.
pub record SkipListKeepsMap : Type 0 where
  pub map : KeepsMap skiplist empty_role get_role put_role 100 (λ n. 100 * (n + 20)) AnyNumber
  pub states : (puts : List Entry) (state : Value) → AllHaveInts puts → IsAfter skiplist empty_role put_role UnitV puts state
      → (t : Lane) × (state ≡ lane_value t) × IsSkipList t × IsMapOf puts (entries t)
