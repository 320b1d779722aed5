-- The trees of `redblack`: a put is a put in the list of their entries, and keeps their invariants.
use Rattle.std.proofs.Common.{◌≡◌, ℕ, zero, suc, max, ◌+◌, ◌*◌, ◌^◌, ◌≤◌, ◌<◌, Bool, true, false, List, ◌∷◌, ◌++◌, length, ℤ, int_eq, Option, Some, is_some, if◌then◌else◌, refl, sym, ap, ◌∙◌, subst, arith, true≢false}
use Rattle.std.proofs.Math.Nat.{pow-le-pow_right}
use Rattle.std.proofs.Math.Decide.{dec_le}
use Rattle.std.proofs.lemmas.List.{append_assoc}
use Rattle.ads_library.specs.Entries.{Entry, entry, lookup, Ascending}
use Rattle.ads_library.specs.RedBlackTree.{Tree, Leaf, Red, Black, Grown, Settled, Rising, Clash, find, red_left, red_right, black_left, black_right, ins, root, insert, entries, height, is_red, NoRedUnderRed, HasBlacks, IsRedBlack, RedBlackIsMap}
use Rattle.ads_library.proofs.EntryLists.{with_entry, length_joined, value_put, length_put, Side, here, before, behind, side, Ascending-left, Ascending-right, Ascending-put, put_left, put_here, put_right, value_left, value_here, value_right}

-- the entries of what grew, from left to right
abbrev grown : Grown → List Entry
grown (Settled t) = entries t
grown (Rising a v l r) = entries l ++ entry a v ∷ entries r
grown (Clash b x c y p q s) = entries p ++ entry b x ∷ (entries q ++ entry c y ∷ entries s)

-- each helper joins the entries on its two sides
red_left_joins : (g : Grown) (a w : ℤ) (r : Tree) → grown (red_left g a w r) ≡ grown g ++ entry a w ∷ entries r
red_left_joins (Settled l) a w r = refl
red_left_joins (Rising b x p q) a w r = simp append_assoc refl
red_left_joins (Clash b x c y p q s) a w r = simp append_assoc refl

red_right_joins : (l : Tree) (a w : ℤ) (g : Grown) → grown (red_right l a w g) ≡ entries l ++ entry a w ∷ grown g
red_right_joins l a w (Settled r) = refl
red_right_joins l a w (Rising b x p q) = refl
red_right_joins l a w (Clash b x c y p q s) = refl

black_left_joins : (g : Grown) (a w : ℤ) (r : Tree) → grown (black_left g a w r) ≡ grown g ++ entry a w ∷ entries r
black_left_joins (Settled l) a w r = refl
black_left_joins (Rising b x p q) a w r = refl
black_left_joins (Clash b x c y p q s) a w r = simp append_assoc refl

black_right_joins : (l : Tree) (a w : ℤ) (g : Grown) → grown (black_right l a w g) ≡ entries l ++ entry a w ∷ grown g
black_right_joins l a w (Settled r) = refl
black_right_joins l a w (Rising b x p q) = refl
black_right_joins l a w (Clash b x c y p q s) = simp append_assoc refl

root_keeps : (g : Grown) → entries (root g) ≡ grown g
root_keeps (Settled t) = refl
root_keeps (Rising a w l r) = refl
root_keeps (Clash b x c y p q s) = simp append_assoc refl

-- a put is one in the list of entries
pub ins_entries : (t : Tree) (k v : ℤ) → Ascending (entries t) → grown (ins t k v) ≡ with_entry k v (entries t)
ins_entries Leaf k v h = refl
ins_entries (Red a w l r) k v h =
    by (side k a) (ins_entries l k v (Ascending-left (entries l) (entry a w ∷ entries r) h))
    (ins_entries r k v (Ascending-right (entries l) (entry a w ∷ entries r) h).1)
  where
    by : Side k a → grown (ins l k v) ≡ with_entry k v (entries l) → grown (ins r k v) ≡ with_entry k v (entries r)
        → grown (ins (Red a w l r) k v) ≡ with_entry k v (entries l ++ entry a w ∷ entries r)
    by (here s q) left right = rw q (ap (λ z. entries l ++ entry z v ∷ entries r) (sym s) ∙ sym (put_here k v (entries l) (entry a w) (entries r) h s))
    by (before g q f) left right = rw (q, f) (red_left_joins (ins l k v) a w r ∙ ap (λ es. es ++ entry a w ∷ entries r) left
        ∙ sym (put_left k v (entries l) (entry a w) (entries r) g))
    by (behind g q f) left right = rw (q, f) (red_right_joins l a w (ins r k v) ∙ ap (λ es. entries l ++ entry a w ∷ es) right
        ∙ sym (put_right k v (entries l) (entry a w) (entries r) h g))
ins_entries (Black a w l r) k v h =
    by (side k a) (ins_entries l k v (Ascending-left (entries l) (entry a w ∷ entries r) h))
    (ins_entries r k v (Ascending-right (entries l) (entry a w ∷ entries r) h).1)
  where
    by : Side k a → grown (ins l k v) ≡ with_entry k v (entries l) → grown (ins r k v) ≡ with_entry k v (entries r)
        → grown (ins (Black a w l r) k v) ≡ with_entry k v (entries l ++ entry a w ∷ entries r)
    by (here s q) left right = rw q (ap (λ z. entries l ++ entry z v ∷ entries r) (sym s) ∙ sym (put_here k v (entries l) (entry a w) (entries r) h s))
    by (before g q f) left right = rw (q, f) (black_left_joins (ins l k v) a w r ∙ ap (λ es. es ++ entry a w ∷ entries r) left
        ∙ sym (put_left k v (entries l) (entry a w) (entries r) g))
    by (behind g q f) left right = rw (q, f) (black_right_joins l a w (ins r k v) ∙ ap (λ es. entries l ++ entry a w ∷ es) right
        ∙ sym (put_right k v (entries l) (entry a w) (entries r) h g))

insert_entries : (t : Tree) (k v : ℤ) → Ascending (entries t) → entries (insert t k v) ≡ with_entry k v (entries t)
insert_entries t k v h = root_keeps (ins t k v) ∙ ins_entries t k v h

-- a lookup is one in the list of entries
find_entries : (t : Tree) (k : ℤ) → Ascending (entries t) → find t k ≡ lookup (entries t) k
find_entries Leaf k h = refl
find_entries (Red a v l r) k h =
    by (side k a) (find_entries l k (Ascending-left (entries l) (entry a v ∷ entries r) h))
    (find_entries r k (Ascending-right (entries l) (entry a v ∷ entries r) h).1)
  where
    by : Side k a → find l k ≡ lookup (entries l) k → find r k ≡ lookup (entries r) k → find (Red a v l r) k ≡ lookup (entries l ++ entry a v ∷ entries r) k
    by (here s q) left right = rw q (sym (value_here k (entries l) (entry a v) (entries r) h s))
    by (before g q f) left right = rw (q, f) (left ∙ sym (value_left k (entries l) (entry a v) (entries r) h g))
    by (behind g q f) left right = rw (q, f) (right ∙ sym (value_right k (entries l) (entry a v) (entries r) h g))
find_entries (Black a v l r) k h =
    by (side k a) (find_entries l k (Ascending-left (entries l) (entry a v ∷ entries r) h))
    (find_entries r k (Ascending-right (entries l) (entry a v ∷ entries r) h).1)
  where
    by : Side k a → find l k ≡ lookup (entries l) k → find r k ≡ lookup (entries r) k → find (Black a v l r) k ≡ lookup (entries l ++ entry a v ∷ entries r) k
    by (here s q) left right = rw q (sym (value_here k (entries l) (entry a v) (entries r) h s))
    by (before g q f) left right = rw (q, f) (left ∙ sym (value_left k (entries l) (entry a v) (entries r) h g))
    by (behind g q f) left right = rw (q, f) (right ∙ sym (value_right k (entries l) (entry a v) (entries r) h g))

-- What a put makes of a tree with n Blacks on each path. A tree with no Red on top settles, or becomes a Red; a Red one becomes a
-- Red, or two. All parts have no Red on top and n Blacks on each path.
record IsPart (t : Tree) (n : ℕ) : Type 0 where
  no_red : is_red t ≡ false
  no_red_under_red : NoRedUnderRed t
  balanced : HasBlacks t n

abbrev Grows : Grown → Bool → ℕ → Type 0
Grows (Settled t) red n = (red ≡ false) × IsPart t n
Grows (Rising a w l r) red n = IsPart l n × IsPart r n
Grows (Clash b x c y p q s) red n = (red ≡ true) × IsPart p n × IsPart q n × IsPart s n

red_left_grows : (g : Grown) (a w : ℤ) (r : Tree) (n : ℕ) → Grows g false n → IsPart r n → Grows (red_left g a w r) true n
red_left_grows (Settled l) a w r n h part = (h.1, part)
red_left_grows (Rising b x p q) a w r n h part = (refl, h.0, h.1, part)
red_left_grows (Clash b x c y p q s) a w r n h part = absurd (true≢false (sym h.0))

red_right_grows : (l : Tree) (a w : ℤ) (g : Grown) (n : ℕ) → Grows g false n → IsPart l n → Grows (red_right l a w g) true n
red_right_grows l a w (Settled r) n h part = (part, h.1)
red_right_grows l a w (Rising b x p q) n h part = (refl, part, h.0, h.1)
red_right_grows l a w (Clash b x c y p q s) n h part = absurd (true≢false (sym h.0))

-- a Black of two trees with n Blacks on each path, and a Red of two parts
black_of : (a w : ℤ) (l r : Tree) (n : ℕ) → NoRedUnderRed l → NoRedUnderRed r → HasBlacks l n → HasBlacks r n → IsPart (Black a w l r) (suc n)
black_of a w l r n h g i j = record { no_red = refl; no_red_under_red = (h, g); balanced = (i, j) }

red_of : (a w : ℤ) (l r : Tree) (n : ℕ) → IsPart l n → IsPart r n → NoRedUnderRed (Red a w l r) × HasBlacks (Red a w l r) n
red_of a w l r n h g = ((h.no_red, g.no_red, h.no_red_under_red, g.no_red_under_red), (h.balanced, g.balanced))

black_left_grows : (g : Grown) (a w : ℤ) (r : Tree) (red : Bool) (n : ℕ) → Grows g red n → NoRedUnderRed r → HasBlacks r n
    → Grows (black_left g a w r) false (suc n)
black_left_grows (Settled l) a w r red n h calm even = (refl, black_of a w l r n h.1.no_red_under_red calm h.1.balanced even)
black_left_grows (Rising b x p q) a w r red n h calm even =
    let top = red_of b x p q n h.0 h.1 in (refl, black_of a w (Red b x p q) r n top.0 calm top.1 even)
black_left_grows (Clash b x c y p q s) a w r red n h calm even =
    (black_of b x p q n h.1.no_red_under_red h.2.no_red_under_red h.1.balanced h.2.balanced, black_of a w s r n h.3.no_red_under_red calm h.3.balanced even)

black_right_grows : (l : Tree) (a w : ℤ) (g : Grown) (red : Bool) (n : ℕ) → Grows g red n → NoRedUnderRed l → HasBlacks l n
    → Grows (black_right l a w g) false (suc n)
black_right_grows l a w (Settled r) red n h calm even = (refl, black_of a w l r n calm h.1.no_red_under_red even h.1.balanced)
black_right_grows l a w (Rising b x p q) red n h calm even =
    let top = red_of b x p q n h.0 h.1 in (refl, black_of a w l (Red b x p q) n calm top.0 even top.1)
black_right_grows l a w (Clash b x c y p q s) red n h calm even =
    (black_of a w l p n calm h.1.no_red_under_red even h.1.balanced, black_of c y q s n h.2.no_red_under_red h.3.no_red_under_red h.2.balanced h.3.balanced)

ins_grows : (t : Tree) (k v : ℤ) (n : ℕ) → NoRedUnderRed t → HasBlacks t n → Grows (ins t k v) (is_red t) n
ins_grows Leaf k v n calm even =
    let part : IsPart Leaf n = record { no_red = refl; no_red_under_red = tt; balanced = even } in (part, part)
ins_grows (Red a w l r) k v n calm even =
    by (side k a) (subst (λ c. Grows (ins l k v) c n) calm.0 (ins_grows l k v n calm.2 even.0))
    (subst (λ c. Grows (ins r k v) c n) calm.1 (ins_grows r k v n calm.3 even.1))
  where
    left_part : IsPart l n
    left_part = record { no_red = calm.0; no_red_under_red = calm.2; balanced = even.0 }

    right_part : IsPart r n
    right_part = record { no_red = calm.1; no_red_under_red = calm.3; balanced = even.1 }

    by : Side k a → Grows (ins l k v) false n → Grows (ins r k v) false n → Grows (ins (Red a w l r) k v) true n
    by (here s q) left right = rw q (left_part, right_part)
    by (before g q f) left right = rw (q, f) (red_left_grows (ins l k v) a w r n left right_part)
    by (behind g q f) left right = rw (q, f) (red_right_grows l a w (ins r k v) n right left_part)
ins_grows (Black a w l r) k v zero calm even = absurd even
ins_grows (Black a w l r) k v (suc n) calm even =
    by (side k a) (ins_grows l k v n calm.0 even.0) (ins_grows r k v n calm.1 even.1)
  where
    by : Side k a → Grows (ins l k v) (is_red l) n → Grows (ins r k v) (is_red r) n → Grows (ins (Black a w l r) k v) false (suc n)
    by (here s q) left right = rw q (refl, black_of a v l r n calm.0 calm.1 even.0 even.1)
    by (before g q f) left right = rw (q, f) (black_left_grows (ins l k v) a w r (is_red l) n left calm.1 even.1)
    by (behind g q f) left right = rw (q, f) (black_right_grows l a w (ins r k v) (is_red r) n right calm.0 even.0)

-- the root is a part again, with as many Blacks on each path or one more
root_part : (g : Grown) (red : Bool) (n : ℕ) → Grows g red n → (m : ℕ) × IsPart (root g) m
root_part (Settled t) red n h = (n, h.1)
root_part (Rising a w l r) red n h = (suc n, black_of a w l r n h.0.no_red_under_red h.1.no_red_under_red h.0.balanced h.1.balanced)
root_part (Clash b x c y p q s) red n h =
    let top = red_of b x p q n h.1 h.2 in (suc n, black_of c y (Red b x p q) s n top.0 h.3.no_red_under_red top.1 h.3.balanced)

pub kept : (t : Tree) (key value : ℤ) → IsRedBlack t → IsRedBlack (insert t key value)
kept t key value h =
    let (m, part) = root_part (ins t key value) (is_red t) h.blacks (ins_grows t key value h.blacks h.no_red_under_red h.balanced) in
    record {
      ascending = subst Ascending (sym (insert_entries t key value h.ascending)) (Ascending-put key value (entries t) h.ascending);
      no_red_under_red = part.no_red_under_red;
      black_root = part.no_red;
      blacks = m;
      balanced = part.balanced;
    }

found : (t : Tree) (key value other : ℤ) → IsRedBlack t → find (insert t key value) other ≡ (if int_eq other key then Some value else find t other)
found t key value other h =
    find_entries (insert t key value) other (kept t key value h).ascending
    ∙ ap (λ es. lookup es other) (insert_entries t key value h.ascending)
    ∙ value_put key value (entries t) other
    ∙ ap (λ (o : Option ℤ). if int_eq other key then Some value else o) (sym (find_entries t other h.ascending))

counted : (t : Tree) (key value : ℤ) → IsRedBlack t
    → length (entries (insert t key value)) ≡ (if is_some (find t key) then length (entries t) else suc (length (entries t)))
counted t key value h =
    rw (insert_entries t key value h.ascending, find_entries t key h.ascending) (length_put key value (entries t) h.ascending)

-- a tree is at most twice as high as it has Blacks on a path, and one more under a Red
height_bound : (t : Tree) (n : ℕ) → NoRedUnderRed t → HasBlacks t n → height t ≤ 2 * n + (if is_red t then 1 else 0)
height_bound Leaf n calm even = omega arith
height_bound (Red a v l r) n calm even =
    let left = subst (λ c. height l ≤ 2 * n + (if c then 1 else 0)) calm.0 (height_bound l n calm.2 even.0) in
    let right = subst (λ c. height r ≤ 2 * n + (if c then 1 else 0)) calm.1 (height_bound r n calm.3 even.1) in
    omega arith
height_bound (Black a v l r) zero calm even = absurd even
height_bound (Black a v l r) (suc n) calm even =
    let left = height_bound l n calm.0 even.0 in
    let right = height_bound r n calm.1 even.1 in
    at_most (is_red l) (is_red r) left right
  where
    at_most : (b c : Bool) → height l ≤ 2 * n + (if b then 1 else 0) → height r ≤ 2 * n + (if c then 1 else 0) → suc (max (height l) (height r)) ≤ 2 * suc n + 0
    at_most true true h g = omega arith
    at_most true false h g = omega arith
    at_most false true h g = omega arith
    at_most false false h g = omega arith

-- it has at least 2^n - 1 entries
size_bound : (t : Tree) (n : ℕ) → HasBlacks t n → 2 ^ n ≤ suc (length (entries t))
size_bound Leaf n even = rw even (omega arith)
size_bound (Red a v l r) n even =
    let left = size_bound l n even.0 in
    rw (length_joined (entries l) (entry a v) (entries r)) (omega arith)
size_bound (Black a v l r) zero even = absurd even
size_bound (Black a v l r) (suc n) even =
    let left = size_bound l n even.0 in
    let right = size_bound r n even.1 in
    rw (length_joined (entries l) (entry a v) (entries r)) (omega arith)

low : (t : Tree) → IsRedBlack t → (b : ℕ) × (height t ≤ 2 * b) × (2 ^ b ≤ length (entries t) + 1)
low t h =
    let high = subst (λ c. height t ≤ 2 * h.blacks + (if c then 1 else 0)) h.black_root (height_bound t h.blacks h.no_red_under_red h.balanced) in
    let size = size_bound t h.blacks h.balanced in
    (h.blacks, omega (arith, high), omega (arith, size))

pub red_black_is_map : RedBlackIsMap
red_black_is_map = record {
  empty = record { ascending = tt; no_red_under_red = tt; black_root = refl; blacks = 0; balanced = refl };
  kept = kept;
  nothing = λ key. refl;
  found = found;
  counted = counted;
  listed = λ t key h. find_entries t key h.ascending;
  height_bound = low;
}

-- fewer than 2^30 entries: at most 60 levels
pub at_most_60 : (t : Tree) → IsRedBlack t → length (entries t) < 2 ^ 30 → height t ≤ 60
at_most_60 t h few = by (low t h)
  where
    by : (b : ℕ) × (height t ≤ 2 * b) × (2 ^ b ≤ length (entries t) + 1) → height t ≤ 60
    by (b, high, size) = at (dec_le b 30)
      where
        at : Dec (b ≤ 30) → height t ≤ 60
        at (yes fits) = omega (arith, fits, high)
        at (no over) = absurd (
            let p : 2 ^ 31 ≤ 2 ^ b = pow-le-pow_right {n = 2} (omega arith) {i = 31} {j = b} (omega (arith, over)) in
            omega (arith, p, size, few))
