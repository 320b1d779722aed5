-- The search tree that `bst` keeps. Each plain function does on trees what the program's function does on their values.
use Rattle.std.specs.Prelude.{◌≡◌, ℕ, suc, ◌+◌, max, ◌≤◌, List, [], ◌∷◌, ◌++◌, length, ℤ, Option, Some, None, if◌then◌else◌, int_lt}
use Rattle.std.specs.Option.{is_some}
use Rattle.std.specs.Ordering.{int_eq}
use Rattle.core_terms.specs.Values.{Value, UnitV, IntV, PairV, ConV, NoV, AndV}
use Rattle.ideal_meaning.specs.Headline.{call_values}
use Rattle.ideal_meaning.specs.Library.{bst}
use Rattle.ads_library.specs.Calls.{Computes}
use Rattle.ads_library.specs.Entries.{Entry, entry, AllHaveInts, lookup, Ascending}
use Rattle.ads_library.specs.Maps.{answer, argument_of, IsAfter, IsMapOf, AnyNumber, KeepsMap}

pub data Tree : Type 0 where
  Leaf : Tree
  Node : (key value : ℤ) (left right : Tree) → Tree

-- the value of the language that a tree is
abbrev pub tree_value : Tree → Value
tree_value Leaf = ConV 0 NoV
tree_value (Node a v l r) = ConV 1 (AndV (IntV a) (AndV (IntV v) (AndV (tree_value l) (AndV (tree_value r) NoV))))

-- smaller keys are to the left
abbrev pub find : Tree → ℤ → Option ℤ
find Leaf key = None
find (Node a v l r) key = if int_eq key a then Some v else (if int_lt key a then find l key else find r key)

abbrev pub insert : Tree → (key value : ℤ) → Tree
insert Leaf key value = Node key value Leaf Leaf
insert (Node a v l r) key value =
    if int_eq key a then Node a value l r
    else (if int_lt key a then Node a v (insert l key value) r else Node a v l (insert r key value))

-- the keys with their values, from left to right
abbrev pub entries : Tree → List Entry
entries Leaf = []
entries (Node a v l r) = entries l ++ entry a v ∷ entries r

-- the number of nodes on the longest path from the root to a Leaf
abbrev pub height : Tree → ℕ
height Leaf = 0
height (Node a v l r) = suc (max (height l) (height r))

-- the roles of `bst` by the numbers of their functions
abbrev pub empty_role : ℕ
empty_role = 2

abbrev pub get_role : ℕ
get_role = 3

abbrev pub put_role : ℕ
put_role = 4

-- Each role computes what the plain function gives on its tree, with fuel for two calls more than the tree is high.
pub record BstRoles : Type 0 where
  pub empty : Computes bst empty_role (AndV UnitV NoV) (tree_value Leaf) 1
  pub get : (t : Tree) (key : ℤ) → Computes bst get_role (call_values (tree_value t) (IntV key)) (answer (find t key)) (height t + 2)
  pub put : (t : Tree) (e : Entry)
      → Computes bst put_role (call_values (tree_value t) (argument_of e)) (PairV (tree_value (insert t e.key e.value)) UnitV) (height t + 2)

-- The plain functions are those of a map, on every tree: what was inserted is found, other keys are found as before, and only a new key
-- adds an entry. Keys stay in order, and where they are a key is found exactly where it has an entry.
pub record BstIsMap : Type 0 where
  pub nothing : (key : ℤ) → find Leaf key ≡ None
  pub found : (t : Tree) (key value other : ℤ)
      → find (insert t key value) other ≡ (if int_eq other key then Some value else find t other)
  pub counted : (t : Tree) (key value : ℤ)
      → length (entries (insert t key value)) ≡ (if is_some (find t key) then length (entries t) else suc (length (entries t)))
  pub kept : (t : Tree) (key value : ℤ) → Ascending (entries t) → Ascending (entries (insert t key value))
  pub listed : (t : Tree) (key : ℤ) → Ascending (entries t) → find t key ≡ lookup (entries t) key
  pub not_higher : (t : Tree) → height t ≤ length (entries t)

-- So after `empty` and any puts a get finds the value that was put last for its key; with n distinct keys fuel n + 2 is enough. Each state
-- is a search tree of the map.
pub record BstKeepsMap : Type 0 where
  pub map : KeepsMap bst empty_role get_role put_role 1 (λ n. n + 2) AnyNumber
  pub states : (puts : List Entry) (state : Value) → AllHaveInts puts → IsAfter bst empty_role put_role UnitV puts state
      → (t : Tree) × (state ≡ tree_value t) × Ascending (entries t) × IsMapOf puts (entries t)
