-- The trees that `redblack` keeps. Each plain function does on trees what the program's function of its name does on their values; `find`
-- is for `look`.
use Rattle.std.specs.Prelude.{◌≡◌, ℕ, zero, suc, max, ◌≤◌, ◌<◌, ◌^◌, ◌+◌, ◌*◌, Bool, true, false, List, [], ◌∷◌, ◌++◌, length}
use Rattle.std.specs.Prelude.{ℤ, int_lt, Option, Some, None, is_some, if◌then◌else◌}
use Rattle.std.specs.Ordering.{int_eq}
use Rattle.core_terms.specs.Values.{Value, UnitV, IntV, PairV, ConV, NoV, AndV}
use Rattle.ideal_meaning.specs.Headline.{call_values}
use Rattle.ads_library.specs.Calls.{Computes}
use Rattle.ads_library.specs.Entries.{Entry, entry, AllHaveInts, lookup, Ascending}
use Rattle.ads_library.specs.Maps.{argument_of, IsAfter, IsMapOf, answer, KeepsMap}
use Rattle.ads_library.specs.RedBlackProgram.{redblack}

pub data Tree : Type 0 where
  Leaf : Tree
  Red Black : (key value : ℤ) (left right : Tree) → Tree

-- A subtree that was put into: it has no Red on top; it is a Red of this key, value and subtrees; or it is two Reds, one under the
-- other, with two keys, their values and three subtrees in order.
pub data Grown : Type 0 where
  Settled : (t : Tree) → Grown
  Rising : (key value : ℤ) (left right : Tree) → Grown
  Clash : (key value later_key later_value : ℤ) (left middle right : Tree) → Grown

abbrev pub find : Tree → ℤ → Option ℤ
find Leaf k = None
find (Red a v l r) k = if int_eq k a then Some v else (if int_lt k a then find l k else find r k)
find (Black a v l r) k = if int_eq k a then Some v else (if int_lt k a then find l k else find r k)

-- a Red with what grew on its left, and on its right
abbrev pub red_left : Grown → (a w : ℤ) → Tree → Grown
red_left (Settled l) a w r = Rising a w l r
red_left (Rising b x p q) a w r = Clash b x a w p q r
red_left (Clash b x c y p q s) a w r = Clash c y a w (Red b x p q) s r

abbrev pub red_right : Tree → (a w : ℤ) → Grown → Grown
red_right l a w (Settled r) = Rising a w l r
red_right l a w (Rising b x p q) = Clash a w b x l p q
red_right l a w (Clash b x c y p q s) = Clash a w b x l p (Red c y q s)

-- a Black with what grew on its left, and on its right: two Reds below it become a Red over two Blacks
abbrev pub black_left : Grown → (a w : ℤ) → Tree → Grown
black_left (Settled l) a w r = Settled (Black a w l r)
black_left (Rising b x p q) a w r = Settled (Black a w (Red b x p q) r)
black_left (Clash b x c y p q s) a w r = Rising c y (Black b x p q) (Black a w s r)

abbrev pub black_right : Tree → (a w : ℤ) → Grown → Grown
black_right l a w (Settled r) = Settled (Black a w l r)
black_right l a w (Rising b x p q) = Settled (Black a w l (Red b x p q))
black_right l a w (Clash b x c y p q s) = Rising b x (Black a w l p) (Black c y q s)

abbrev pub ins : Tree → (k v : ℤ) → Grown
ins Leaf k v = Rising k v Leaf Leaf
ins (Red a w l r) k v =
    if int_eq k a then Rising a v l r else (if int_lt k a then red_left (ins l k v) a w r else red_right l a w (ins r k v))
ins (Black a w l r) k v =
    if int_eq k a then Settled (Black a v l r)
    else (if int_lt k a then black_left (ins l k v) a w r else black_right l a w (ins r k v))

-- the whole tree that grew: its root is a Black
abbrev pub root : Grown → Tree
root (Settled t) = t
root (Rising a w l r) = Black a w l r
root (Clash b x c y p q s) = Black c y (Red b x p q) s

abbrev pub insert : Tree → (k v : ℤ) → Tree
insert t k v = root (ins t k v)

-- the keys with their values, from left to right
abbrev pub entries : Tree → List Entry
entries Leaf = []
entries (Red a v l r) = entries l ++ entry a v ∷ entries r
entries (Black a v l r) = entries l ++ entry a v ∷ entries r

-- the number of nodes on the longest path from the root to a Leaf
abbrev pub height : Tree → ℕ
height Leaf = 0
height (Red a v l r) = suc (max (height l) (height r))
height (Black a v l r) = suc (max (height l) (height r))

abbrev pub is_red : Tree → Bool
is_red (Red a v l r) = true
is_red t = false

-- no Red has a Red child
abbrev pub NoRedUnderRed : Tree → Type 0
NoRedUnderRed Leaf = Unit {0}
NoRedUnderRed (Red a v l r) = (is_red l ≡ false) × (is_red r ≡ false) × NoRedUnderRed l × NoRedUnderRed r
NoRedUnderRed (Black a v l r) = NoRedUnderRed l × NoRedUnderRed r

-- every path from the root to a Leaf has n Blacks
abbrev pub HasBlacks : Tree → ℕ → Type 0
HasBlacks Leaf n = n ≡ 0
HasBlacks (Red a v l r) n = HasBlacks l n × HasBlacks r n
HasBlacks (Black a v l r) zero = ⊥
HasBlacks (Black a v l r) (suc n) = HasBlacks l n × HasBlacks r n

-- A red-black tree: keys are in order, no Red has a Red child, the root is no Red, and every path from the root to a Leaf has the same
-- number of Blacks.
pub record IsRedBlack (t : Tree) : Type 0 where
  pub ascending : Ascending (entries t)
  pub no_red_under_red : NoRedUnderRed t
  pub black_root : is_red t ≡ false
  pub blacks : ℕ
  pub balanced : HasBlacks t blacks

-- The plain functions are those of a map on such trees: what was inserted is found, other keys are found as before, only a new key adds
-- an entry, and a key is found exactly where it has an entry. The height is at most twice the logarithm to base 2 of one more than the
-- number of entries.
pub record RedBlackIsMap : Type 0 where
  pub empty : IsRedBlack Leaf
  pub kept : (t : Tree) (key value : ℤ) → IsRedBlack t → IsRedBlack (insert t key value)
  pub nothing : (key : ℤ) → find Leaf key ≡ None
  pub found : (t : Tree) (key value other : ℤ) → IsRedBlack t
      → find (insert t key value) other ≡ (if int_eq other key then Some value else find t other)
  pub counted : (t : Tree) (key value : ℤ) → IsRedBlack t
      → length (entries (insert t key value)) ≡ (if is_some (find t key) then length (entries t) else suc (length (entries t)))
  pub listed : (t : Tree) (key : ℤ) → IsRedBlack t → find t key ≡ lookup (entries t) key
  pub height_bound : (t : Tree) → IsRedBlack t → (b : ℕ) × (height t ≤ 2 * b) × (2 ^ b ≤ length (entries t) + 1)

-- the value of the language that a tree is
abbrev pub tree_value : Tree → Value
tree_value Leaf = ConV 0 NoV
tree_value (Red a v l r) = ConV 1 (AndV (IntV a) (AndV (IntV v) (AndV (tree_value l) (AndV (tree_value r) NoV))))
tree_value (Black a v l r) = ConV 2 (AndV (IntV a) (AndV (IntV v) (AndV (tree_value l) (AndV (tree_value r) NoV))))

-- the roles of `redblack` by the numbers of their functions
abbrev pub empty_role : ℕ
empty_role = 7

abbrev pub get_role : ℕ
get_role = 8

abbrev pub put_role : ℕ
put_role = 9

-- Each role computes what the plain function gives on its tree: a get with fuel for two calls more than the tree is high, a put with fuel
-- for twice the height and three calls.
pub record RedBlackRoles : Type 0 where
  pub empty : Computes redblack empty_role (AndV UnitV NoV) (tree_value Leaf) 1
  pub get : (t : Tree) (key : ℤ) → Computes redblack get_role (call_values (tree_value t) (IntV key)) (answer (find t key)) (height t + 2)
  pub put : (t : Tree) (e : Entry)
      → Computes redblack put_role (call_values (tree_value t) (argument_of e)) (PairV (tree_value (insert t e.key e.value)) UnitV) (2 * height t + 3)

-- So after `empty` and any puts a get finds the value that was put last for its key; with fewer than 2^30 distinct keys fuel 1,000 is
-- enough, and 100 for `empty`. Each state is a red-black tree of the map.
pub record RedBlackKeepsMap : Type 0 where
  pub map : KeepsMap redblack empty_role get_role put_role 100 (λ n. 1000) (λ n. n < 2 ^ 30)
  pub states : (puts : List Entry) (state : Value) → AllHaveInts puts → IsAfter redblack empty_role put_role UnitV puts state
      → (t : Tree) × (state ≡ tree_value t) × IsRedBlack t × IsMapOf puts (entries t)
