-- `merkle` keeps a list.
use Rattle.std.proofs.Common.{◌≡◌, ℕ, zero, suc, ◌+◌, ◌*◌, ◌-◌, ◌/◌, ◌^◌, ◌<◌, ◌≤◌, max, min, List, [], ◌∷◌, ◌++◌, length, replicate, slice_get, slice_set, ℤ, pos, negsuc, nat_lt, Option, Some, None, refl, ap, sym, ◌∙◌, subst, arith, le-ltb, ltb-true}
use Rattle.std.proofs.Math.Nat.{pow-succ', pow-le-pow_right}
use Rattle.std.proofs.lemmas.Nat.{pow_pos}
use Rattle.std.proofs.lemmas.Option.{slice_get_past}
use Rattle.std.proofs.lemmas.List.{length-append, replicate-append-replicate, set-append_left, set-append_right, set_past}
use Rattle.std.proofs.lemmas.Bool.{ltb-false, lt-leb, le-leb}
use Rattle.core_terms.specs.Values.{Value, UnitV, IntV, PairV, NoV, AndV}
use Rattle.core_terms.specs.Terms.{Expression, LetE, function_at}
use Rattle.ideal_meaning.specs.Run.{run, call}
use Rattle.ideal_meaning.specs.Ideal.{Opened, ideal_mode, ideal, outcome, Done}
use Rattle.ideal_meaning.specs.Headline.{call_values}
use Rattle.ideal_meaning.specs.Library.{merkle, tree}
use Rattle.ads_library.specs.Calls.{Computes}
use Rattle.ads_library.specs.Entries.{Entry, entry}
use Rattle.ads_library.specs.Maps.{answer, argument_of}
use Rattle.ads_library.specs.PlaceTree.{PlaceTree, Tip, Fork, place_value, counted_value, elements, IsFull, filled, value_at, changed, exponent, make_role, get_role, put_role, make_argument, element, with_element, list_after, IsMadeAfter, MerkleRoles, MerkleIsList, MerkleKeepsList}
use Rattle.ads_library.proofs.Stepping.{Leaves, by_test, gives, enter, nat_fits, difference, one_less}
use Rattle.ads_library.proofs.Settled.{computes, same_value}

half_power : (c : ℕ) → 2 ^ suc c / 2 ≡ 2 ^ c
half_power c = omega (arith, pow-succ' 2 c)

power_bound : (c : ℕ) → c ≤ 30 → 2 ^ c ≤ 2 ^ 30
power_bound c h = pow-le-pow_right {n = 2} (omega arith) h

abbrev depth_of : PlaceTree → ℕ
depth_of (Tip v) = 0
depth_of (Fork l r) = suc (max (depth_of l) (depth_of r))

-- `look` gives the value at the place
look_gives : (t : PlaceTree) (i p m n k : ℕ) (s : List Opened) → p < 2 ^ 63 → i < 2 ^ 63 → suc (depth_of t) + m ≤ k → suc (depth_of t) ≤ n
    → Leaves (answer (Some (value_at t p i))) m (call merkle ideal_mode n 2 (AndV (place_value t) (AndV (IntV (pos p)) (AndV (IntV (pos i)) NoV))) k s)
look_gives (Tip v) i p m n k s small within h j = enter merkle 2 _ _ 0 m n k s h j (λ n k h j. (refl, omega (arith, h)))
look_gives (Fork l r) i p m n k s small within h j = enter merkle 2 _ _ (depth_of (Fork l r)) m n k s h j (λ n k h j.
    let half : p / 2 < 2 ^ 63 = omega (arith, small) in
    rw (nat_fits (p / 2) half) (by_test (nat_lt i (p / 2))
    (λ f. rw f (look_gives l i (p / 2) m n k _ half within (omega (arith, h)) (omega (arith, j))))
    (λ f.
    let behind : p / 2 ≤ i = ltb-false i (p / 2) f in
    rw (f, difference i (p / 2) behind, nat_fits (i - p / 2) (omega (arith, within)))
    (look_gives r (i - p / 2) (p / 2) m n k _ half (omega (arith, within)) (omega (arith, h)) (omega (arith, j))))))

-- `change` gives the changed tree
change_changes : (t : PlaceTree) (i p : ℕ) (v : ℤ) (m n k : ℕ) (s : List Opened) → p < 2 ^ 63 → i < 2 ^ 63 → suc (depth_of t) + m ≤ k → suc (depth_of t) ≤ n
    → Leaves (place_value (changed t p i v)) m (call merkle ideal_mode n 3
    (AndV (place_value t) (AndV (IntV (pos p)) (AndV (IntV (pos i)) (AndV (IntV v) NoV)))) k s)
change_changes (Tip w) i p v m n k s small within h j = enter merkle 3 _ _ 0 m n k s h j (λ n k h j. (refl, omega (arith, h)))
change_changes (Fork l r) i p v m n k s small within h j = enter merkle 3 _ _ (depth_of (Fork l r)) m n k s h j (λ n k h j.
    let z = s ++ record { ty = tree; value = place_value (Fork l r) } ∷ [] in
    let half : p / 2 < 2 ^ 63 = omega (arith, small) in
    rw (nat_fits (p / 2) half) (by_test (nat_lt i (p / 2))
    (λ f.
    let (o, y, g, b) = gives _ _ _ (change_changes l i (p / 2) v m n k z half within (omega (arith, h)) (omega (arith, j))) in
    rw (f, g) (refl, b))
    (λ f.
    let behind : p / 2 ≤ i = ltb-false i (p / 2) f in
    let (o, y, g, b) = gives _ _ _ (change_changes r (i - p / 2) (p / 2) v m n k z half (omega (arith, within)) (omega (arith, h)) (omega (arith, j))) in
    rw (f, difference i (p / 2) behind, nat_fits (i - p / 2) (omega (arith, within)), g) (refl, b))))

-- `full` gives the power of 2
full_gives : (c m n k : ℕ) (s : List Opened) → c ≤ 30 → suc c + m ≤ k → suc c ≤ n
    → Leaves (IntV (pos (2 ^ c))) m (call merkle ideal_mode n 0 (AndV (IntV (pos c)) NoV) k s)
full_gives zero m n k s most h j = enter merkle 0 _ _ 0 m n k s h j (λ n k h j. (refl, omega (arith, h)))
full_gives (suc c) m n k s most h j = enter merkle 0 _ _ (suc c) m n k s h j (λ n k h j.
    let (o, y, g, b) = gives _ _ _ (full_gives c m n k s (omega (arith, most)) (omega (arith, h)) (omega (arith, j))) in
    let bound = power_bound c (omega (arith, most)) in
    rw (lt-leb (suc c) 0 (omega arith), one_less c, nat_fits c (omega (arith, most)), g, nat_fits (2 * 2 ^ c) (omega (arith, bound)))
    (ap (λ (p : ℕ). IntV (pos p)) (sym (pow-succ' 2 c)), b))

-- `fill` gives the filled tree
fill_fills : (c : ℕ) (v : ℤ) (m n k : ℕ) (s : List Opened) → c ≤ 30 → suc c + m ≤ k → suc c ≤ n
    → Leaves (place_value (filled c v)) m (call merkle ideal_mode n 1 (AndV (IntV (pos (2 ^ c))) (AndV (IntV v) NoV)) k s)
fill_fills zero v m n k s most h j = enter merkle 1 _ _ 0 m n k s h j (λ n k h j. (refl, omega (arith, h)))
fill_fills (suc c) v m n k s most h j = enter merkle 1 _ _ (suc c) m n k s h j (λ n k h j.
    let (o, y, g, b) = gives _ _ _ (fill_fills c v m n k s (omega (arith, most)) (omega (arith, h)) (omega (arith, j))) in
    let bound = power_bound c (omega (arith, most)) in
    rw (lt-leb (2 ^ suc c) 1 (omega (arith, pow-succ' 2 c, pow_pos c)), half_power c, nat_fits (2 ^ c) (omega (arith, bound)), g) (refl, b))

-- what is known of a full tree
full_depth : (c : ℕ) (t : PlaceTree) → IsFull c t → depth_of t ≡ c
full_depth zero (Tip v) h = refl
full_depth (suc c) (Tip v) h = elim h [ ]
full_depth zero (Fork l r) h = elim h [ ]
full_depth (suc c) (Fork l r) h = omega (arith, full_depth c l h.0, full_depth c r h.1)

filled_full : (c : ℕ) (v : ℤ) → IsFull c (filled c v)
filled_full zero v = tt
filled_full (suc c) v = (filled_full c v, filled_full c v)

changed_full : (c : ℕ) (t : PlaceTree) → IsFull c t → (p i : ℕ) (v : ℤ) → IsFull c (changed t p i v)
changed_full zero (Tip w) h p i v = tt
changed_full (suc c) (Tip w) h p i v = elim h [ ]
changed_full zero (Fork l r) h p i v = elim h [ ]
changed_full (suc c) (Fork l r) h p i v =
    by_test (nat_lt i (p / 2)) (λ f. rw f (changed_full c l h.0 (p / 2) i v, h.1)) (λ f. rw f (h.0, changed_full c r h.1 (p / 2) (i - p / 2) v))

-- what is behind the first `let` of `make`
abbrev body_in : Expression → Expression
body_in (LetE a x body) = body
body_in e = e

made : (d v : ℤ) (c n k : ℕ) (s : List Opened) → c ≤ 30 → 2 * c + 2 ≤ k → suc c ≤ n
    → Leaves (counted_value (2 ^ c) (filled c v)) 0 (run merkle ideal_mode (call merkle ideal_mode n) (body_in (function_at merkle make_role).body)
    (AndV (make_argument d v) (AndV (IntV (pos c)) NoV)) k s)
made d v c n k s most h j =
    let (o, y, g, b) = gives _ _ _ (full_gives c (suc c) n k s most (omega (arith, h)) (omega (arith, j))) in
    let (o2, y2, g2, b2) = gives _ _ _ (fill_fills c v 0 n o y most (omega (arith, b)) j) in
    rw (g, g2) (refl, b2)

exponent_most : (d : ℤ) → exponent d ≤ 30
exponent_most (pos d) = omega arith
exponent_most (negsuc d) = omega arith

make_makes : (d v : ℤ) → Leaves (counted_value (2 ^ exponent d) (filled (exponent d) v)) 0
    (ideal merkle make_role (AndV (make_argument d v) NoV) (2 * exponent d + 3))
make_makes (pos d) v = enter merkle make_role _ _ (2 * exponent (pos d) + 2) 0 (2 * exponent (pos d) + 3) (2 * exponent (pos d) + 3) [] (omega arith)
    (omega arith) (λ n k h j.
    rw (le-ltb d 0 (omega arith)) (by_test (nat_lt 30 d)
    (λ f. let e : min d 30 ≡ 30 = omega (arith, ltb-true 30 d f) in rw (f, e)
    (made (pos d) v 30 n k [] (omega arith) (omega (arith, h, e)) (omega (arith, j, e))))
    (λ f. let e : min d 30 ≡ d = omega (arith, ltb-false 30 d f) in rw (f, e)
    (made (pos d) v d n k [] (omega (arith, ltb-false 30 d f)) (omega (arith, h, e)) (omega (arith, j, e))))))
make_makes (negsuc d) v = enter merkle make_role (AndV (make_argument (negsuc d) v) NoV) (counted_value 1 (Tip v)) 2 0 3 3 [] (omega arith)
    (omega arith) (λ n k h j. made (negsuc d) v 0 n k [] (omega arith) (omega (arith, h)) (omega (arith, j)))

-- `get` and `put` at a place
get_at_place : (c : ℕ) (t : PlaceTree) → IsFull c t → c ≤ 30 → (i : ℕ) → i < 2 ^ c
    → Leaves (answer (Some (value_at t (2 ^ c) i))) 0 (ideal merkle get_role (call_values (counted_value (2 ^ c) t) (IntV (pos i))) (c + 2))
get_at_place c t full most i within = enter merkle get_role _ _ (suc c) 0 (c + 2) (c + 2) [] (omega arith) (omega arith) (λ n k h j.
    let bound = power_bound c most in
    let deep = full_depth c t full in
    rw (le-ltb i 0 (omega arith), lt-leb (2 ^ c) i within)
    (look_gives t i (2 ^ c) 0 n k [] (omega (arith, bound)) (omega (arith, bound, within)) (omega (arith, h, deep)) (omega (arith, j, deep))))

put_at_place : (c : ℕ) (t : PlaceTree) → IsFull c t → c ≤ 30 → (i : ℕ) (v : ℤ) → i < 2 ^ c
    → Leaves (PairV (counted_value (2 ^ c) (changed t (2 ^ c) i v)) UnitV) 0
    (ideal merkle put_role (call_values (counted_value (2 ^ c) t) (argument_of (entry (pos i) v))) (c + 2))
put_at_place c t full most i v within = enter merkle put_role _ _ (suc c) 0 (c + 2) (c + 2) [] (omega arith) (omega arith) (λ n k h j.
    let bound = power_bound c most in
    let deep = full_depth c t full in
    let (o, y, g, b) = gives _ _ _ (change_changes t i (2 ^ c) v 0 n k [] (omega (arith, bound)) (omega (arith, bound, within))
    (omega (arith, h, deep)) (omega (arith, j, deep))) in
    rw (le-ltb i 0 (omega arith), lt-leb (2 ^ c) i within, g) (refl, b))

-- and outside: behind the last place, or before the first
get_behind : (c : ℕ) (t : PlaceTree) (i : ℕ) → 2 ^ c ≤ i → Leaves (answer None) 0
    (ideal merkle get_role (call_values (counted_value (2 ^ c) t) (IntV (pos i))) (c + 2))
get_behind c t i behind = enter merkle get_role _ _ 0 0 (c + 2) (c + 2) [] (omega arith) (omega arith) (λ n k h j.
    rw (le-ltb i 0 (omega arith), le-leb (2 ^ c) i behind) (refl, omega (arith, h)))

get_before : (c : ℕ) (t : PlaceTree) (i : ℕ) → Leaves (answer None) 0 (ideal merkle get_role (call_values (counted_value (2 ^ c) t) (IntV (negsuc i))) (c + 2))
get_before c t i = enter merkle get_role _ _ 0 0 (c + 2) (c + 2) [] (omega arith) (omega arith) (λ n k h j. (refl, omega (arith, h)))

put_behind : (c : ℕ) (t : PlaceTree) (i : ℕ) (v : ℤ) → 2 ^ c ≤ i
    → Leaves (PairV (counted_value (2 ^ c) t) UnitV) 0 (ideal merkle put_role (call_values (counted_value (2 ^ c) t) (argument_of (entry (pos i) v))) (c + 2))
put_behind c t i v behind = enter merkle put_role _ _ 0 0 (c + 2) (c + 2) [] (omega arith) (omega arith) (λ n k h j.
    rw (le-ltb i 0 (omega arith), le-leb (2 ^ c) i behind) (refl, omega (arith, h)))

put_before : (c : ℕ) (t : PlaceTree) (i : ℕ) (v : ℤ)
    → Leaves (PairV (counted_value (2 ^ c) t) UnitV) 0 (ideal merkle put_role (call_values (counted_value (2 ^ c) t) (argument_of (entry (negsuc i) v))) (c + 2))
put_before c t i v = enter merkle put_role _ _ 0 0 (c + 2) (c + 2) [] (omega arith) (omega arith) (λ n k h j. (refl, omega (arith, h)))

pub merkle_roles : MerkleRoles
merkle_roles = record {
  make = λ d v. computes merkle make_role _ _ 0 (2 * exponent d + 3) (make_makes d v);
  get = λ c t full most i within. computes merkle get_role _ _ 0 (c + 2) (get_at_place c t full most i within);
  put = λ c t full most i v within. computes merkle put_role _ _ 0 (c + 2) (put_at_place c t full most i v within);
}

-- the list of a full tree
size_is : (c : ℕ) (t : PlaceTree) → IsFull c t → length (elements t) ≡ 2 ^ c
size_is zero (Tip v) h = refl
size_is (suc c) (Tip v) h = elim h [ ]
size_is zero (Fork l r) h = elim h [ ]
size_is (suc c) (Fork l r) h = length-append (elements l) (elements r) ∙ omega (arith, size_is c l h.0, size_is c r h.1, pow-succ' 2 c)

filled_is : (c : ℕ) (v : ℤ) → elements (filled c v) ≡ replicate (2 ^ c) v
filled_is zero v = refl
filled_is (suc c) v =
    rw (filled_is c v) (replicate-append-replicate (2 ^ c) (2 ^ c) v ∙ ap (λ (n : ℕ). replicate n v) (omega (arith, pow-succ' 2 c)))

get_left : (xs ys : List ℤ) (i : ℕ) → i < length xs → slice_get (xs ++ ys) i ≡ slice_get xs i
get_left [] ys i h = absurd (omega (arith, h))
get_left (x ∷ xs) ys zero h = refl
get_left (x ∷ xs) ys (suc i) h = get_left xs ys i (omega (arith, h))

get_right : (xs ys : List ℤ) (n i : ℕ) → length xs ≡ n → n ≤ i → slice_get (xs ++ ys) i ≡ slice_get ys (i - n)
get_right [] ys n i e h = ap (slice_get ys) (omega (arith, e))
get_right (x ∷ xs) ys n zero e h = absurd (omega (arith, e, h))
get_right (x ∷ xs) ys n (suc i) e h = get_right xs ys (length xs) i refl (omega (arith, e, h)) ∙ ap (slice_get ys) (omega (arith, e))

value_is : (c : ℕ) (t : PlaceTree) → IsFull c t → (i : ℕ) → i < 2 ^ c → slice_get (elements t) i ≡ Some (value_at t (2 ^ c) i)
value_is zero (Tip v) h zero w = refl
value_is zero (Tip v) h (suc i) w = absurd (omega (arith, w))
value_is (suc c) (Tip v) h i w = elim h [ ]
value_is zero (Fork l r) h i w = elim h [ ]
value_is (suc c) (Fork l r) h i w =
    let left = size_is c l h.0 in
    rw (half_power c) (by_test (nat_lt i (2 ^ c))
    (λ f. rw f (get_left (elements l) (elements r) i (omega (arith, ltb-true i (2 ^ c) f, left)) ∙ value_is c l h.0 i (ltb-true i (2 ^ c) f)))
    (λ f. let behind : 2 ^ c ≤ i = ltb-false i (2 ^ c) f in
    rw f (get_right (elements l) (elements r) (2 ^ c) i left behind ∙ value_is c r h.1 (i - 2 ^ c) (omega (arith, w, pow-succ' 2 c, behind)))))

change_is : (c : ℕ) (t : PlaceTree) → IsFull c t → (i : ℕ) (v : ℤ) → i < 2 ^ c → elements (changed t (2 ^ c) i v) ≡ slice_set (elements t) i v
change_is zero (Tip x) h zero v w = refl
change_is zero (Tip x) h (suc i) v w = absurd (omega (arith, w))
change_is (suc c) (Tip x) h i v w = elim h [ ]
change_is zero (Fork l r) h i v w = elim h [ ]
change_is (suc c) (Fork l r) h i v w =
    let left = size_is c l h.0 in
    rw (half_power c) (by_test (nat_lt i (2 ^ c))
    (λ f. rw f (ap (λ (xs : List ℤ). xs ++ elements r) (change_is c l h.0 i v (ltb-true i (2 ^ c) f))
    ∙ sym (set-append_left (elements l) (elements r) i v (omega (arith, ltb-true i (2 ^ c) f, left)))))
    (λ f. let behind : 2 ^ c ≤ i = ltb-false i (2 ^ c) f in
    rw f (ap (λ (xs : List ℤ). elements l ++ xs) (change_is c r h.1 (i - 2 ^ c) v (omega (arith, w, pow-succ' 2 c, behind)))
    ∙ sym (set-append_right (elements l) (elements r) (2 ^ c) i v left behind))))

pub merkle_is_list : MerkleIsList
merkle_is_list = record { filled = filled_is; size = size_is; value = value_is; change = change_is }

-- a get finds the element, and none outside
get_gives : (c : ℕ) (t : PlaceTree) → IsFull c t → c ≤ 30 → (z : ℤ)
    → Leaves (answer (element (elements t) z)) 0 (ideal merkle get_role (call_values (counted_value (2 ^ c) t) (IntV z)) (c + 2))
get_gives c t full most (pos i) = by_test (nat_lt i (2 ^ c))
    (λ f. let within = ltb-true i (2 ^ c) f in
    subst (λ (o : Option ℤ). Leaves (answer o) 0 (ideal merkle get_role (call_values (counted_value (2 ^ c) t) (IntV (pos i))) (c + 2)))
    (sym (value_is c t full i within)) (get_at_place c t full most i within))
    (λ f. let behind = ltb-false i (2 ^ c) f in
    subst (λ (o : Option ℤ). Leaves (answer o) 0 (ideal merkle get_role (call_values (counted_value (2 ^ c) t) (IntV (pos i))) (c + 2)))
    (sym (slice_get_past (elements t) i (omega (arith, size_is c t full, behind)))) (get_behind c t i behind))
get_gives c t full most (negsuc i) = get_before c t i

-- a put gives the tree of the list with the new element, and outside the same tree
record IsPut (c : ℕ) (t : PlaceTree) (key value : ℤ) : Type 0 where
  tree : PlaceTree
  full : IsFull c tree
  list : elements tree ≡ with_element (elements t) key value
  same : element (elements t) key ≡ None → tree ≡ t
  runs : Leaves (PairV (counted_value (2 ^ c) tree) UnitV) 0 (ideal merkle put_role (call_values (counted_value (2 ^ c) t) (argument_of (entry key value))) (c + 2))

puts_into : (c : ℕ) (t : PlaceTree) → IsFull c t → c ≤ 30 → (key value : ℤ) → IsPut c t key value
puts_into c t full most (pos i) v = by_test (nat_lt i (2 ^ c))
    (λ f. let within = ltb-true i (2 ^ c) f in
    record {
      tree = changed t (2 ^ c) i v;
      full = changed_full c t full (2 ^ c) i v;
      list = change_is c t full i v within;
      same = λ none. let e : Some (value_at t (2 ^ c) i) ≡ None = sym (value_is c t full i within) ∙ none in absurd (cc);
      runs = put_at_place c t full most i v within;
    })
    (λ f. let behind = ltb-false i (2 ^ c) f in
    record {
      tree = t;
      full = full;
      list = sym (set_past (elements t) i v (omega (arith, size_is c t full, behind)));
      same = λ none. refl;
      runs = put_behind c t i v behind;
    })
puts_into c t full most (negsuc i) v = record { tree = t; full = full; list = refl; same = λ none. refl; runs = put_before c t i v }

module _ (d v : ℤ) where
  -- the tree behind a state
  record IsPlaced (puts : List Entry) (state : Value) : Type 0 where
    tree : PlaceTree
    value : state ≡ counted_value (2 ^ exponent d) tree
    full : IsFull (exponent d) tree
    list : elements tree ≡ list_after d v puts

  abbrev first_of_pair : Value → Value → Value
  first_of_pair u (PairV a b) = a
  first_of_pair u w = u

  placed_after : (puts : List Entry) (state : Value) → IsMadeAfter d v puts state → IsPlaced puts state
  placed_after [] state (k, e) = record {
    tree = filled (exponent d) v;
    value =
        same_value merkle make_role (AndV (make_argument d v) NoV) (counted_value (2 ^ exponent d) (filled (exponent d) v)) 0 (2 * exponent d + 3)
        (make_makes d v) k state e;
    full = filled_full (exponent d) v;
    list = filled_is (exponent d) v;
  }
  placed_after (newest ∷ earlier) state (before, reply, k, after, is) = by (placed_after earlier before after)
    where
      by : IsPlaced earlier before → IsPlaced (newest ∷ earlier) state
      by h =
          let p = puts_into (exponent d) h.tree h.full (exponent_most d) newest.key newest.value in
          let on_tree = subst (λ (u : Value). outcome (ideal merkle put_role (call_values u (argument_of newest)) k) ≡ Done (PairV state reply)) h.value is in
          let same : PairV state reply ≡ PairV (counted_value (2 ^ exponent d) p.tree) UnitV =
          same_value merkle put_role (call_values (counted_value (2 ^ exponent d) h.tree) (argument_of newest)) _ 0 (exponent d + 2)
          p.runs k (PairV state reply) on_tree in
          record {
            tree = p.tree;
            value = ap (first_of_pair state) same;
            full = p.full;
            list = p.list ∙ ap (λ (xs : List ℤ). with_element xs newest.key newest.value) h.list;
          }

  get_on : (state : Value) (t : PlaceTree) (xs : List ℤ) → state ≡ counted_value (2 ^ exponent d) t → IsFull (exponent d) t → elements t ≡ xs
      → (i : ℤ) → Computes merkle get_role (call_values state (IntV i)) (answer (element xs i)) (exponent d + 2)
  get_on state t xs is full list i =
      rw (is, ← list) (computes merkle get_role _ _ 0 (exponent d + 2) (get_gives (exponent d) t full (exponent_most d) i))

  put_on : (state : Value) (t : PlaceTree) (xs : List ℤ) → state ≡ counted_value (2 ^ exponent d) t → IsFull (exponent d) t → elements t ≡ xs
      → (e : Entry) → (next : Value) × (element xs e.key ≡ None → next ≡ state)
      × Computes merkle put_role (call_values state (argument_of e)) (PairV next UnitV) (exponent d + 2)
  put_on state t xs is full list e =
      let p = puts_into (exponent d) t full (exponent_most d) e.key e.value in (
        counted_value (2 ^ exponent d) p.tree,
        λ none. ap (counted_value (2 ^ exponent d)) (p.same (ap (λ (ys : List ℤ). element ys e.key) list ∙ none)) ∙ sym is,
        rw is (computes merkle put_role _ _ 0 (exponent d + 2) p.runs),
      )

  -- there is a state after any puts
  put_done : (state : Value) (t : PlaceTree) → state ≡ counted_value (2 ^ exponent d) t → IsFull (exponent d) t → (e : Entry)
      → (next : Value) × (outcome (ideal merkle put_role (call_values state (argument_of e)) (exponent d + 2)) ≡ Done (PairV next UnitV))
  put_done state t is full e =
      let p = put_on state t (elements t) is full refl e in (p.0, p.2.1 (exponent d + 2) (omega arith))

  reached : (puts : List Entry) → (state : Value) × IsMadeAfter d v puts state
  reached [] =
      let m = computes merkle make_role _ _ 0 (2 * exponent d + 3) (make_makes d v) in
      (counted_value (2 ^ exponent d) (filled (exponent d) v), (2 * exponent d + 3, m.1 (2 * exponent d + 3) (omega arith)))
  reached (newest ∷ earlier) = by (reached earlier)
    where
      by : (state : Value) × IsMadeAfter d v earlier state → (state : Value) × IsMadeAfter d v (newest ∷ earlier) state
      by (before, after) =
          let h = placed_after earlier before after in
          let p = put_done before h.tree h.value h.full newest in
          (p.0, (before, UnitV, exponent d + 2, after, p.1))

pub merkle_keeps_list : MerkleKeepsList
merkle_keeps_list = record {
  make_is_named = refl;
  get_is_named = refl;
  put_is_named = refl;
  make = λ d v.
      (counted_value (2 ^ exponent d) (filled (exponent d) v), computes merkle make_role _ _ 0 (2 * exponent d + 3) (make_makes d v));
  reached = reached;
  get = λ d v puts state after i. let h = placed_after d v puts state after in get_on d v state h.tree _ h.value h.full h.list i;
  put = λ d v puts state after e. let h = placed_after d v puts state after in put_on d v state h.tree _ h.value h.full h.list e;
  states = λ d v puts state after. let h = placed_after d v puts state after in (h.tree, h.value, h.full, h.list);
}
