-- `bst` keeps a map: its roles give what the plain functions on trees give, and these are those of a map.
use Rattle.std.proofs.Common.{◌≡◌, ℕ, suc, ◌+◌, ◌≤◌, List, [], ◌∷◌, ◌++◌, length, ℤ, Some, is_some, int_lt, int_eq, if◌then◌else◌, refl, ap, sym, ◌∙◌, subst, arith}
use Rattle.std.proofs.lemmas.Bool.Decides.{Decides-int_eq}
use Rattle.core_terms.specs.Values.{UnitV, IntV, PairV, NoV, AndV}
use Rattle.ideal_meaning.specs.Run.{call}
use Rattle.ideal_meaning.specs.Ideal.{Opened, ideal_mode, ideal}
use Rattle.ideal_meaning.specs.Headline.{call_values}
use Rattle.ideal_meaning.specs.Library.{bst, tree}
use Rattle.ads_library.specs.Entries.{Entry, entry, lookup, Ascending}
use Rattle.ads_library.specs.Maps.{answer, argument_of, IsMapOf, AnyNumber}
use Rattle.ads_library.specs.SearchTree.{Tree, Leaf, Node, tree_value, find, insert, entries, height, empty_role, get_role, put_role, BstRoles, BstIsMap, BstKeepsMap}
use Rattle.ads_library.proofs.Stepping.{Leaves, by_test, gives, enter}
use Rattle.ads_library.proofs.Settled.{computes}
use Rattle.ads_library.proofs.EntryLists.{with_entry, length_joined, Side, here, before, behind, side, Ascending-left, Ascending-right, Ascending-put, put_left, put_here, put_right, value_left, value_here, value_right}
use Rattle.ads_library.proofs.Maps.{map_law}

-- `look` finds
look_finds : (t : Tree) (key : ℤ) (m n k : ℕ) (s : List Opened) → suc (height t) + m ≤ k → suc (height t) ≤ n
    → Leaves (answer (find t key)) m (call bst ideal_mode n 0 (AndV (tree_value t) (AndV (IntV key) NoV)) k s)
look_finds Leaf key m n k s h j = enter bst 0 _ _ 0 m n k s h j (λ n k h j. (refl, omega (arith, h)))
look_finds (Node a v l r) key m n k s h j = enter bst 0 _ _ (height (Node a v l r)) m n k s h j (λ n k h j.
    by_test (int_eq key a)
    (λ e. rw e (refl, omega (arith, h)))
    (λ e. rw e (by_test (int_lt key a)
    (λ f. rw f (look_finds l key m n k _ (omega (arith, h)) (omega (arith, j))))
    (λ f. rw f (look_finds r key m n k _ (omega (arith, h)) (omega (arith, j)))))))

-- `ins` inserts
ins_inserts : (t : Tree) (key value : ℤ) (m n k : ℕ) (s : List Opened) → suc (height t) + m ≤ k → suc (height t) ≤ n
    → Leaves (tree_value (insert t key value)) m (call bst ideal_mode n 1 (AndV (tree_value t) (AndV (IntV key) (AndV (IntV value) NoV))) k s)
ins_inserts Leaf key value m n k s h j = enter bst 1 _ _ 0 m n k s h j (λ n k h j. (refl, omega (arith, h)))
ins_inserts (Node a v l r) key value m n k s h j = enter bst 1 _ _ (height (Node a v l r)) m n k s h j (λ n k h j.
    let z = s ++ record { ty = tree; value = tree_value (Node a v l r) } ∷ [] in
    by_test (int_eq key a)
    (λ e. rw e (refl, omega (arith, h)))
    (λ e. rw e (by_test (int_lt key a)
    (λ f. let (i, y, g, b) = gives _ _ _ (ins_inserts l key value m n k z (omega (arith, h)) (omega (arith, j))) in rw (f, g) (refl, b))
    (λ f. let (i, y, g, b) = gives _ _ _ (ins_inserts r key value m n k z (omega (arith, h)) (omega (arith, j))) in rw (f, g) (refl, b)))))

-- the roles, with two calls more than the tree is high
get_finds : (t : Tree) (key : ℤ) → Leaves (answer (find t key)) 0 (ideal bst get_role (call_values (tree_value t) (IntV key)) (height t + 2))
get_finds t key =
    enter bst get_role _ _ (suc (height t)) 0 (height t + 2) (height t + 2) [] (omega arith) (omega arith)
    (λ n k h j. look_finds t key 0 n k _ (omega (arith, h)) (omega (arith, j)))

put_inserts : (t : Tree) (e : Entry) → Leaves (PairV (tree_value (insert t e.key e.value)) UnitV) 0
    (ideal bst put_role (call_values (tree_value t) (argument_of e)) (height t + 2))
put_inserts t e =
    enter bst put_role _ _ (suc (height t)) 0 (height t + 2) (height t + 2) [] (omega arith) (omega arith) (λ n k h j.
    let (i, y, g, b) = gives _ _ _ (ins_inserts t e.key e.value 0 n k [] (omega (arith, h)) (omega (arith, j))) in rw g (refl, b))

empty_is_leaf : Leaves (tree_value Leaf) 0 (ideal bst empty_role (AndV UnitV NoV) 1)
empty_is_leaf = (refl, omega arith)

pub bst_roles : BstRoles
bst_roles = record {
  empty = computes bst empty_role (AndV UnitV NoV) (tree_value Leaf) 0 1 empty_is_leaf;
  get = λ t key. computes bst get_role _ _ 0 (height t + 2) (get_finds t key);
  put = λ t e. computes bst put_role _ _ 0 (height t + 2) (put_inserts t e);
}

-- what was inserted is found, and other keys are found as before
found : (t : Tree) (key value other : ℤ) → find (insert t key value) other ≡ (if int_eq other key then Some value else find t other)
found Leaf key value other = by_test (int_eq other key) (λ g. rw g) (λ g. rw g (by_test (int_lt other key) (λ f. rw f) (λ f. rw f)))
found (Node a v l r) key value other =
    by_test (int_eq key a)
    (λ e.
    let same : int_eq other a ≡ int_eq other key = ap (int_eq other) (sym ((Decides-int_eq key a).0 e)) in
    rw (e, same) (by_test (int_eq other key) (λ g. rw g) (λ g. rw g)))
    (λ e. by_test (int_lt key a)
    (λ f. rw (e, f) (by_test (int_eq other key)
    (λ g.
    let is : other ≡ key = (Decides-int_eq other key).0 g in
    rw (ap (λ (z : ℤ). int_eq z a) is ∙ e, ap (λ (z : ℤ). int_lt z a) is ∙ f, found l key value other, g))
    (λ g. rw (found l key value other, g))))
    (λ f. rw (e, f) (by_test (int_eq other key)
    (λ g.
    let is : other ≡ key = (Decides-int_eq other key).0 g in
    rw (ap (λ (z : ℤ). int_eq z a) is ∙ e, ap (λ (z : ℤ). int_lt z a) is ∙ f, found r key value other, g))
    (λ g. rw (found r key value other, g)))))

-- only a new key adds an entry
counted : (t : Tree) (key value : ℤ)
    → length (entries (insert t key value)) ≡ (if is_some (find t key) then length (entries t) else suc (length (entries t)))
counted Leaf key value = refl
counted (Node a v l r) key value =
    by_test (int_eq key a)
    (λ e. rw (e, length_joined (entries l) (entry a value) (entries r)) (sym (length_joined (entries l) (entry a v) (entries r))))
    (λ e. by_test (int_lt key a)
    (λ f. rw (
      e,
      f,
      length_joined (entries (insert l key value)) (entry a v) (entries r),
      length_joined (entries l) (entry a v) (entries r),
      counted l key value,
    )
    (by_test (is_some (find l key)) (λ g. rw g) (λ g. rw g (omega arith))))
    (λ f. rw (
      e,
      f,
      length_joined (entries l) (entry a v) (entries (insert r key value)),
      length_joined (entries l) (entry a v) (entries r),
      counted r key value,
    )
    (by_test (is_some (find r key)) (λ g. rw g) (λ g. rw g (omega arith)))))

-- a put is one in the list of entries
insert_entries : (t : Tree) (k v : ℤ) → Ascending (entries t) → entries (insert t k v) ≡ with_entry k v (entries t)
insert_entries Leaf k v h = refl
insert_entries (Node a w l r) k v h =
    by (side k a) (insert_entries l k v (Ascending-left (entries l) (entry a w ∷ entries r) h))
    (insert_entries r k v (Ascending-right (entries l) (entry a w ∷ entries r) h).1)
  where
    by : Side k a → entries (insert l k v) ≡ with_entry k v (entries l) → entries (insert r k v) ≡ with_entry k v (entries r)
        → entries (insert (Node a w l r) k v) ≡ with_entry k v (entries l ++ entry a w ∷ entries r)
    by (here s q) left right =
        rw q (ap (λ z. entries l ++ entry z v ∷ entries r) (sym s) ∙ sym (put_here k v (entries l) (entry a w) (entries r) h s))
    by (before g q f) left right =
        rw (q, f) (ap (λ es. es ++ entry a w ∷ entries r) left ∙ sym (put_left k v (entries l) (entry a w) (entries r) g))
    by (behind g q f) left right =
        rw (q, f) (ap (λ es. entries l ++ entry a w ∷ es) right ∙ sym (put_right k v (entries l) (entry a w) (entries r) h g))

kept : (t : Tree) (key value : ℤ) → Ascending (entries t) → Ascending (entries (insert t key value))
kept t key value h = subst Ascending (sym (insert_entries t key value h)) (Ascending-put key value (entries t) h)

-- a lookup is one in the list of entries
find_entries : (t : Tree) (k : ℤ) → Ascending (entries t) → find t k ≡ lookup (entries t) k
find_entries Leaf k h = refl
find_entries (Node a v l r) k h =
    by (side k a) (find_entries l k (Ascending-left (entries l) (entry a v ∷ entries r) h))
    (find_entries r k (Ascending-right (entries l) (entry a v ∷ entries r) h).1)
  where
    by : Side k a → find l k ≡ lookup (entries l) k → find r k ≡ lookup (entries r) k
        → find (Node a v l r) k ≡ lookup (entries l ++ entry a v ∷ entries r) k
    by (here s q) left right = rw q (sym (value_here k (entries l) (entry a v) (entries r) h s))
    by (before g q f) left right = rw (q, f) (left ∙ sym (value_left k (entries l) (entry a v) (entries r) h g))
    by (behind g q f) left right = rw (q, f) (right ∙ sym (value_right k (entries l) (entry a v) (entries r) h g))

not_higher : (t : Tree) → height t ≤ length (entries t)
not_higher Leaf = omega arith
not_higher (Node a v l r) = rw (length_joined (entries l) (entry a v) (entries r)) (omega (arith, not_higher l, not_higher r))

pub bst_is_map : BstIsMap
bst_is_map =
    record { nothing = λ key. refl; found = found; counted = counted; kept = kept; listed = find_entries; not_higher = not_higher }

-- what is known of a tree with n keys
record Keeps (t : Tree) (n : ℕ) : Type 0 where
  ascending : Ascending (entries t)
  count : length (entries t) ≡ n

adds : (t : Tree) (n : ℕ) → Keeps t n → (e : Entry) → Keeps (insert t e.key e.value) (if is_some (find t e.key) then n else suc n)
adds t n h e = record {
  ascending = kept t e.key e.value h.ascending;
  count = counted t e.key e.value ∙ ap (λ (c : ℕ). if is_some (find t e.key) then c else suc c) h.count;
}

-- with n keys a tree is at most n high
pub bst_keeps_map : BstKeepsMap
bst_keeps_map =
    let law = map_law bst empty_role get_role put_role 1 (λ n. n + 2) AnyNumber refl refl refl
    Tree tree_value Leaf (λ t e. insert t e.key e.value) find Keeps
    (λ t. height t + 2) (λ t n h few. omega (arith, not_higher t, h.count))
    empty_is_leaf (λ t n h key int. get_finds t key) (λ t n h e ints. put_inserts t e)
    (record { ascending = tt; count = refl }) (λ key. refl) adds (λ t n h e key. found t e.key e.value key) in
    record {
      map = law.map;
      states = λ puts state ints after.
          let h = law.kept puts state ints after in
          let is_map : IsMapOf puts (entries h.tree) = record {
            values = λ key. sym (find_entries h.tree key h.keeps.ascending) ∙ h.finds_all key;
            count = h.keeps.count;
          } in
          (h.tree, h.value, h.keeps.ascending, is_map);
    }
