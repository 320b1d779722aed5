-- By the ideal meaning the functions of `redblack` give what the plain ones give.
use Rattle.std.proofs.Common.{ℕ, suc, ◌+◌, ◌*◌, ◌≤◌, List, [], ◌∷◌, ◌++◌, ℤ, int_lt, int_eq, refl, arith}
use Rattle.core_terms.specs.Values.{Value, UnitV, IntV, PairV, ConV, NoV, AndV}
use Rattle.ideal_meaning.specs.Run.{call}
use Rattle.ideal_meaning.specs.Ideal.{Opened, ideal_mode, ideal}
use Rattle.ideal_meaning.specs.Headline.{call_values}
use Rattle.ideal_meaning.specs.Library.{tree}
use Rattle.ads_library.specs.Maps.{answer}
use Rattle.ads_library.specs.RedBlackTree.{Tree, Leaf, Red, Black, Grown, Settled, Rising, Clash, find, red_left, red_right, black_left, black_right, ins, root, insert, height, tree_value, get_role, put_role}
use Rattle.ads_library.specs.RedBlackProgram.{redblack}
use Rattle.ads_library.proofs.Stepping.{Leaves, by_test, gives, enter}

-- the value of the language that a subtree is which was put into
abbrev grown_value : Grown → Value
grown_value (Settled t) = ConV 0 (AndV (tree_value t) NoV)
grown_value (Rising a v l r) = ConV 1 (AndV (IntV a) (AndV (IntV v) (AndV (tree_value l) (AndV (tree_value r) NoV))))
grown_value (Clash b x c y p q s) =
    ConV 2 (AndV (IntV b) (AndV (IntV x) (AndV (IntV c) (AndV (IntV y) (AndV (tree_value p) (AndV (tree_value q) (AndV (tree_value s) NoV)))))))

find_law : (t : Tree) (key : ℤ) (m n k : ℕ) (s : List Opened) → suc (height t) + m ≤ k → suc (height t) ≤ n
    → Leaves (answer (find t key)) m (call redblack ideal_mode n 0 (AndV (tree_value t) (AndV (IntV key) NoV)) k s)
find_law Leaf key m n k s h j = enter redblack 0 _ _ 0 m n k s h j (λ n k h j. (refl, omega (arith, h)))
find_law (Red a v l r) key m n k s h j = enter redblack 0 _ _ (height (Red a v l r)) m n k s h j (λ n k h j.
    by_test (int_eq key a)
    (λ e. rw e (refl, omega (arith, h)))
    (λ e. rw e (by_test (int_lt key a)
    (λ f. rw f (find_law l key m n k _ (omega (arith, h)) (omega (arith, j))))
    (λ f. rw f (find_law r key m n k _ (omega (arith, h)) (omega (arith, j)))))))
find_law (Black a v l r) key m n k s h j = enter redblack 0 _ _ (height (Black a v l r)) m n k s h j (λ n k h j.
    by_test (int_eq key a)
    (λ e. rw e (refl, omega (arith, h)))
    (λ e. rw e (by_test (int_lt key a)
    (λ f. rw f (find_law l key m n k _ (omega (arith, h)) (omega (arith, j))))
    (λ f. rw f (find_law r key m n k _ (omega (arith, h)) (omega (arith, j)))))))

red_left_law : (g : Grown) (a w : ℤ) (r : Tree) (m n k : ℕ) (s : List Opened) → 1 + m ≤ k → 1 ≤ n
    → Leaves (grown_value (red_left g a w r)) m (call redblack ideal_mode n 1
    (AndV (grown_value g) (AndV (IntV a) (AndV (IntV w) (AndV (tree_value r) NoV)))) k s)
red_left_law (Settled l) a w r m n k s h j = enter redblack 1 _ _ 0 m n k s h j (λ n k h j. (refl, omega (arith, h)))
red_left_law (Rising b x p q) a w r m n k s h j = enter redblack 1 _ _ 0 m n k s h j (λ n k h j. (refl, omega (arith, h)))
red_left_law (Clash b x c y p q u) a w r m n k s h j = enter redblack 1 _ _ 0 m n k s h j (λ n k h j. (refl, omega (arith, h)))

red_right_law : (l : Tree) (a w : ℤ) (g : Grown) (m n k : ℕ) (s : List Opened) → 1 + m ≤ k → 1 ≤ n
    → Leaves (grown_value (red_right l a w g)) m (call redblack ideal_mode n 2
    (AndV (tree_value l) (AndV (IntV a) (AndV (IntV w) (AndV (grown_value g) NoV)))) k s)
red_right_law l a w (Settled r) m n k s h j = enter redblack 2 _ _ 0 m n k s h j (λ n k h j. (refl, omega (arith, h)))
red_right_law l a w (Rising b x p q) m n k s h j = enter redblack 2 _ _ 0 m n k s h j (λ n k h j. (refl, omega (arith, h)))
red_right_law l a w (Clash b x c y p q u) m n k s h j = enter redblack 2 _ _ 0 m n k s h j (λ n k h j. (refl, omega (arith, h)))

black_left_law : (g : Grown) (a w : ℤ) (r : Tree) (m n k : ℕ) (s : List Opened) → 1 + m ≤ k → 1 ≤ n
    → Leaves (grown_value (black_left g a w r)) m (call redblack ideal_mode n 3
    (AndV (grown_value g) (AndV (IntV a) (AndV (IntV w) (AndV (tree_value r) NoV)))) k s)
black_left_law (Settled l) a w r m n k s h j = enter redblack 3 _ _ 0 m n k s h j (λ n k h j. (refl, omega (arith, h)))
black_left_law (Rising b x p q) a w r m n k s h j = enter redblack 3 _ _ 0 m n k s h j (λ n k h j. (refl, omega (arith, h)))
black_left_law (Clash b x c y p q u) a w r m n k s h j = enter redblack 3 _ _ 0 m n k s h j (λ n k h j. (refl, omega (arith, h)))

black_right_law : (l : Tree) (a w : ℤ) (g : Grown) (m n k : ℕ) (s : List Opened) → 1 + m ≤ k → 1 ≤ n
    → Leaves (grown_value (black_right l a w g)) m (call redblack ideal_mode n 4
    (AndV (tree_value l) (AndV (IntV a) (AndV (IntV w) (AndV (grown_value g) NoV)))) k s)
black_right_law l a w (Settled r) m n k s h j = enter redblack 4 _ _ 0 m n k s h j (λ n k h j. (refl, omega (arith, h)))
black_right_law l a w (Rising b x p q) m n k s h j = enter redblack 4 _ _ 0 m n k s h j (λ n k h j. (refl, omega (arith, h)))
black_right_law l a w (Clash b x c y p q u) m n k s h j = enter redblack 4 _ _ 0 m n k s h j (λ n k h j. (refl, omega (arith, h)))

root_law : (g : Grown) (m n k : ℕ) (s : List Opened) → 1 + m ≤ k → 1 ≤ n
    → Leaves (tree_value (root g)) m (call redblack ideal_mode n 6 (AndV (grown_value g) NoV) k s)
root_law (Settled l) m n k s h j = enter redblack 6 _ _ 0 m n k s h j (λ n k h j. (refl, omega (arith, h)))
root_law (Rising b x p q) m n k s h j = enter redblack 6 _ _ 0 m n k s h j (λ n k h j. (refl, omega (arith, h)))
root_law (Clash b x c y p q u) m n k s h j = enter redblack 6 _ _ 0 m n k s h j (λ n k h j. (refl, omega (arith, h)))

ins_law : (t : Tree) (key value : ℤ) (m n k : ℕ) (s : List Opened) → suc (2 * height t) + m ≤ k → suc (2 * height t) ≤ n
    → Leaves (grown_value (ins t key value)) m (call redblack ideal_mode n 5 (AndV (tree_value t) (AndV (IntV key) (AndV (IntV value) NoV))) k s)
ins_law Leaf key value m n k s h j = enter redblack 5 _ _ 0 m n k s h j (λ n k h j. (refl, omega (arith, h)))
ins_law (Red a w l r) key value m n k s h j = enter redblack 5 _ _ (2 * height (Red a w l r)) m n k s h j (λ n k h j.
    by_test (int_eq key a)
    (λ e. rw e (refl, omega (arith, h)))
    (λ e. rw e (by_test (int_lt key a)
    (λ f. let (i, y, g, b) = gives _ _ _ (ins_law l key value (1 + m) n k (s ++ record { ty = tree; value = tree_value (Red a w l r) } ∷ [])
    (omega (arith, h)) (omega (arith, j))) in
    rw (f, g) (red_left_law (ins l key value) a w r m n i y b (omega (arith, j))))
    (λ f. let (i, y, g, b) = gives _ _ _ (ins_law r key value (1 + m) n k (s ++ record { ty = tree; value = tree_value (Red a w l r) } ∷ [])
    (omega (arith, h)) (omega (arith, j))) in
    rw (f, g) (red_right_law l a w (ins r key value) m n i y b (omega (arith, j)))))))
ins_law (Black a w l r) key value m n k s h j = enter redblack 5 _ _ (2 * height (Black a w l r)) m n k s h j (λ n k h j.
    by_test (int_eq key a)
    (λ e. rw e (refl, omega (arith, h)))
    (λ e. rw e (by_test (int_lt key a)
    (λ f. let (i, y, g, b) = gives _ _ _ (ins_law l key value (1 + m) n k (s ++ record { ty = tree; value = tree_value (Black a w l r) } ∷ [])
    (omega (arith, h)) (omega (arith, j))) in
    rw (f, g) (black_left_law (ins l key value) a w r m n i y b (omega (arith, j))))
    (λ f. let (i, y, g, b) = gives _ _ _ (ins_law r key value (1 + m) n k (s ++ record { ty = tree; value = tree_value (Black a w l r) } ∷ [])
    (omega (arith, h)) (omega (arith, j))) in
    rw (f, g) (black_right_law l a w (ins r key value) m n i y b (omega (arith, j)))))))

-- the roles
pub get_runs : (t : Tree) (key : ℤ) (m k : ℕ) → height t + 2 + m ≤ k
    → Leaves (answer (find t key)) m (ideal redblack get_role (call_values (tree_value t) (IntV key)) k)
get_runs t key m k h = enter redblack 8 _ _ (suc (height t)) m k k [] (omega (arith, h)) (omega (arith, h)) (λ n k h j. find_law t key m n k _ h j)

pub put_runs : (t : Tree) (key value : ℤ) (m k : ℕ) → 2 * height t + 3 + m ≤ k
    → Leaves (PairV (tree_value (insert t key value)) UnitV) m (ideal redblack put_role (call_values (tree_value t) (PairV (IntV key) (IntV value))) k)
put_runs t key value m k h = enter redblack 9 _ _ (2 * height t + 2) m k k [] (omega (arith, h)) (omega (arith, h)) (λ n k h j.
    let (i, y, g, b) = gives _ _ _ (ins_law t key value (1 + m) n k [] (omega (arith, h)) (omega (arith, j))) in
    let (i', y', g', b') = gives _ _ _ (root_law (ins t key value) m n i y b (omega (arith, j))) in
    rw (g, g') (refl, b'))
