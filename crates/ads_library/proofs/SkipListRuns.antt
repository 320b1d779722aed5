-- By the ideal meaning the functions of `skiplist` give what the plain ones give.
use Rattle.std.proofs.Common.{◌≡◌, ◌⊎◌, inl, inr, ℕ, zero, suc, ◌+◌, ◌-◌, ◌*◌, ◌/◌, ◌%◌, ◌^◌, ◌≤◌, ◌<◌, true, List, [], ◌∷◌, ◌++◌, ℤ, pos, negsuc, neg_ℤ, ◌+ℤ◌, int_lt, int_eq, int_div, nat_abs, nat_eq, nat_lt, refl, ap, sym, arith, lt-ltb, le-ltb, ltb-true}
use Rattle.std.proofs.lemmas.Bool.{lt-leb, le-leb}
use Rattle.std.proofs.lemmas.Bool.Decides.{same_from_decides, Decides-like, Decides-int_eq, Decides-eqb}
use Rattle.core_terms.specs.Values.{Value, UnitV, IntV, PairV, ConV, NoV, AndV, int_fits}
use Rattle.ideal_meaning.specs.Run.{call}
use Rattle.ideal_meaning.specs.Ideal.{Opened, ideal_mode, ideal}
use Rattle.ideal_meaning.specs.Headline.{call_values}
use Rattle.ads_library.specs.Maps.{answer}
use Rattle.ads_library.specs.SkipList.{Lane, Floor, Last, Step, bare, find, low, halvings, level, part_before, part_behind, place, ins, insert, reach, lane_value, empty_role, get_role, put_role}
use Rattle.ads_library.specs.SkipListProgram.{skiplist, lane}
use Rattle.ads_library.proofs.Stepping.{Leaves, by_test, gives, enter, nat_fits, difference, one_less}
use Rattle.ads_library.proofs.SkipList.{low_bound, level_bound}

find_law : (t : Lane) (key : ℤ) (m n k : ℕ) (s : List Opened) → suc (reach t) + m ≤ k → suc (reach t) ≤ n
    → Leaves (answer (find t key)) m (call skiplist ideal_mode n 1 (AndV (lane_value t) (AndV (IntV key) NoV)) k s)
find_law Floor key m n k s h j = enter skiplist 1 _ _ 0 m n k s h j (λ n k h j. (refl, omega (arith, h)))
find_law (Last d) key m n k s h j = enter skiplist 1 _ _ (reach (Last d)) m n k s h j (λ n k h j. find_law d key m n k _ (omega (arith, h)) (omega (arith, j)))
find_law (Step d a v r) key m n k s h j = enter skiplist 1 _ _ (reach (Step d a v r)) m n k s h j (λ n k h j.
    by_test (int_eq key a)
    (λ e. rw e (refl, omega (arith, h)))
    (λ e. rw e (by_test (int_lt key a)
    (λ f. rw f (find_law d key m n k _ (omega (arith, h)) (omega (arith, j))))
    (λ f. rw f (find_law r key m n k _ (omega (arith, h)) (omega (arith, j)))))))

-- the two parts of a lane
abbrev pair_value : Lane → Lane → Value
pair_value d e = ConV 0 (AndV (lane_value d) (AndV (lane_value e) NoV))

cut_end_law : (d e : Lane) (m n k : ℕ) (s : List Opened) → 1 + m ≤ k → 1 ≤ n
    → Leaves (pair_value (Last d) (Last e)) m (call skiplist ideal_mode n 5 (AndV (pair_value d e) NoV) k s)
cut_end_law d e m n k s h j = enter skiplist 5 _ _ 0 m n k s h j (λ n k h j. (refl, omega (arith, h)))

cut_below_law : (d e : Lane) (a w : ℤ) (r : Lane) (m n k : ℕ) (s : List Opened) → 1 + m ≤ k → 1 ≤ n
    → Leaves (pair_value (Last d) (Step e a w r)) m (call skiplist ideal_mode n 6
    (AndV (pair_value d e) (AndV (IntV a) (AndV (IntV w) (AndV (lane_value r) NoV)))) k s)
cut_below_law d e a w r m n k s h j = enter skiplist 6 _ _ 0 m n k s h j (λ n k h j. (refl, omega (arith, h)))

cut_behind_law : (d : Lane) (a w : ℤ) (r e : Lane) (m n k : ℕ) (s : List Opened) → 1 + m ≤ k → 1 ≤ n
    → Leaves (pair_value (Step d a w r) e) m (call skiplist ideal_mode n 7
    (AndV (lane_value d) (AndV (IntV a) (AndV (IntV w) (AndV (pair_value r e) NoV)))) k s)
cut_behind_law d a w r e m n k s h j = enter skiplist 7 _ _ 0 m n k s h j (λ n k h j. (refl, omega (arith, h)))

step_at_end_law : (d e : Lane) (key v : ℤ) (m n k : ℕ) (s : List Opened) → 1 + m ≤ k → 1 ≤ n
    → Leaves (lane_value (Step d key v (Last e))) m (call skiplist ideal_mode n 8 (AndV (pair_value d e) (AndV (IntV key) (AndV (IntV v) NoV))) k s)
step_at_end_law d e key v m n k s h j = enter skiplist 8 _ _ 0 m n k s h j (λ n k h j. (refl, omega (arith, h)))

step_before_law : (d e : Lane) (key v a w : ℤ) (r : Lane) (m n k : ℕ) (s : List Opened) → 1 + m ≤ k → 1 ≤ n
    → Leaves (lane_value (Step d key v (Step e a w r))) m
    (call skiplist ideal_mode n 9 (AndV (pair_value d e) (AndV (IntV key) (AndV (IntV v) (AndV (IntV a) (AndV (IntV w) (AndV (lane_value r) NoV)))))) k s)
step_before_law d e key v a w r m n k s h j = enter skiplist 9 _ _ 0 m n k s h j (λ n k h j. (refl, omega (arith, h)))

split_law : (t : Lane) (key : ℤ) (m n k : ℕ) (s : List Opened) → suc (2 * reach t) + m ≤ k → suc (2 * reach t) ≤ n
    → Leaves (pair_value (part_before t key) (part_behind t key)) m (call skiplist ideal_mode n 4 (AndV (lane_value t) (AndV (IntV key) NoV)) k s)
split_law Floor key m n k s h j = enter skiplist 4 _ _ 0 m n k s h j (λ n k h j. (refl, omega (arith, h)))
split_law (Last d) key m n k s h j = enter skiplist 4 _ _ (2 * reach (Last d)) m n k s h j (λ n k h j.
    let (i, y, g, b) = gives _ _ _ (split_law d key (1 + m) n k (s ++ record { ty = lane; value = lane_value (Last d) } ∷ []) (omega (arith, h))
    (omega (arith, j))) in
    rw g (cut_end_law (part_before d key) (part_behind d key) m n i y b (omega (arith, j))))
split_law (Step d a w r) key m n k s h j = enter skiplist 4 _ _ (2 * reach (Step d a w r)) m n k s h j (λ n k h j.
    by_test (int_lt key a)
    (λ f. let (i, y, g, b) = gives _ _ _ (split_law d key (1 + m) n k (s ++ record { ty = lane; value = lane_value (Step d a w r) } ∷ [])
    (omega (arith, h)) (omega (arith, j))) in
    rw (f, g) (cut_below_law (part_before d key) (part_behind d key) a w r m n i y b (omega (arith, j))))
    (λ f. let (i, y, g, b) = gives _ _ _ (split_law r key (1 + m) n k (s ++ record { ty = lane; value = lane_value (Step d a w r) } ∷ [])
    (omega (arith, h)) (omega (arith, j))) in
    rw (f, g) (cut_behind_law d a w (part_before r key) (part_behind r key) m n i y b (omega (arith, j)))))

place_law : (t : Lane) (key v : ℤ) (m n k : ℕ) (s : List Opened) → suc (2 * reach t) + m ≤ k → suc (2 * reach t) ≤ n
    → Leaves (lane_value (place t key v)) m (call skiplist ideal_mode n 10 (AndV (lane_value t) (AndV (IntV key) (AndV (IntV v) NoV))) k s)
place_law Floor key v m n k s h j = enter skiplist 10 _ _ 0 m n k s h j (λ n k h j. (refl, omega (arith, h)))
place_law (Last d) key v m n k s h j = enter skiplist 10 _ _ (2 * reach (Last d)) m n k s h j (λ n k h j.
    let (i, y, g, b) = gives _ _ _ (split_law d key (1 + m) n k (s ++ record { ty = lane; value = lane_value (Last d) } ∷ []) (omega (arith, h))
    (omega (arith, j))) in
    rw g (step_at_end_law (part_before d key) (part_behind d key) key v m n i y b (omega (arith, j))))
place_law (Step d a w r) key v m n k s h j = enter skiplist 10 _ _ (2 * reach (Step d a w r)) m n k s h j (λ n k h j.
    by_test (int_eq key a)
    (λ e. rw e (refl, omega (arith, h)))
    (λ e. rw e (by_test (int_lt key a)
    (λ f. let (i, y, g, b) = gives _ _ _ (split_law d key (1 + m) n k (s ++ record { ty = lane; value = lane_value (Step d a w r) } ∷ [])
    (omega (arith, h)) (omega (arith, j))) in
    rw (f, g) (step_before_law (part_before d key) (part_behind d key) key v a w r m n i y b (omega (arith, j))))
    (λ f. let (i, y, g, b) = gives _ _ _ (place_law r key v m n k (s ++ record { ty = lane; value = lane_value (Step d a w r) } ∷ [])
    (omega (arith, h)) (omega (arith, j))) in
    rw (f, g) (refl, b)))))

-- a key divided by 65,536 is an int
negated_fits : (n : ℕ) → n < 2 ^ 63 → int_fits (neg_ℤ (pos n)) ≡ true
negated_fits zero h = refl
negated_fits (suc n) h = lt-ltb n (2 ^ 63) (omega (arith, h))

quotient_fits : (key : ℤ) → int_fits key ≡ true → int_fits (int_div key (pos 65536)) ≡ true
quotient_fits (pos n) e = nat_fits (n / 65536) (omega (arith, ltb-true n (2 ^ 63) e))
quotient_fits (negsuc n) e = negated_fits (suc n / 65536) (omega (arith, ltb-true n (2 ^ 63) e))

-- the remainder of a negative key: 0, or 65,536 below the key modulo 65,536
remainder : (n x : ℕ) → suc n % 65536 ≡ x → ((neg_ℤ (pos x) ≡ pos 0) × (65535 - n % 65536 ≡ 0)) ⊎
    ((y : ℕ) × (neg_ℤ (pos x) ≡ negsuc y) × (n % 65536 ≡ y) × (y < 65535))
remainder n zero e = inl (refl, omega (arith, e))
remainder n (suc y) e = inr (y, refl, omega (arith, e), omega (arith, e))

lifted : (y : ℕ) → y < 65535 → negsuc y +ℤ pos 65536 ≡ pos (65535 - y)
lifted y h = rw (le-ltb 65536 (suc y) (omega (arith, h))) (ap pos (omega arith))

either : {A B P : Type 0} → A ⊎ B → (A → P) → (B → P) → P
either (inl a) f g = f a
either (inr b) f g = g b

low_law : (key : ℤ) (m n k : ℕ) (s : List Opened) → int_fits key ≡ true → 1 + m ≤ k → 1 ≤ n
    → Leaves (IntV (pos (low key))) m (call skiplist ideal_mode n 2 (AndV (IntV key) NoV) k s)
low_law (pos x) m n k s fits h j = enter skiplist 2 _ _ 0 m n k s h j (λ n k h j.
    rw (quotient_fits (pos x) fits) (by_test (nat_lt (x % 65536) 0)
    (λ f. absurd (omega (arith, ltb-true (x % 65536) 0 f)))
    (λ f. rw f (refl, omega (arith, h)))))
low_law (negsuc x) m n k s fits h j = enter skiplist 2 _ _ 0 m n k s h j
    (λ n k h j. rw (quotient_fits (negsuc x) fits) (either (remainder x (suc x % 65536) refl)
    (λ z. rw z.0 (ap (λ (y : ℕ). IntV (pos y)) (sym z.1), omega (arith, h)))
    (λ z. rw (z.1, lifted z.0 z.3, nat_fits (65535 - z.0) (omega arith)) (ap (λ (y : ℕ). IntV (pos (65535 - y))) (sym z.2), omega (arith, h)))))

parity : (x : ℕ) → int_eq (pos x) (pos 0) ≡ nat_eq x 0
parity x = same_from_decides (int_eq (pos x) (pos 0)) (nat_eq x 0)
    (Decides-like (int_eq (pos x) (pos 0)) (λ e. ap nat_abs e) (λ e. ap pos e) (Decides-int_eq (pos x) (pos 0))) (Decides-eqb x 0)

level_law : (most r i l m n k : ℕ) (s : List Opened) → i + most ≡ 17 → r < 65536 → i + halvings most r ≡ l → suc most + m ≤ k → suc most ≤ n
    → Leaves (IntV (pos l)) m (call skiplist ideal_mode n 3 (AndV (IntV (pos r)) (AndV (IntV (pos i)) NoV)) k s)
level_law zero r i l m n k s top small is h j = enter skiplist 3 _ _ 0 m n k s h j (λ n k h j.
    rw (le-leb 17 i (omega (arith, top))) (ap (λ (x : ℕ). IntV (pos x)) (omega (arith, top, is)), omega (arith, h)))
level_law (suc most) r i l m n k s top small is h j = enter skiplist 3 _ _ (suc most) m n k s h j (λ n k h j.
    rw (lt-leb 17 i (omega (arith, top)), nat_fits (r / 2) (omega (arith, small)), parity (r % 2)) (by_test (nat_eq (r % 2) 0)
    (λ e.
    let is' : i + suc (halvings most (r / 2)) ≡ l = rw e at is in
    rw (e, nat_fits (r / 2) (omega (arith, small)), nat_fits (i + 1) (omega (arith, top)))
    (level_law most (r / 2) (i + 1) l m n k s (omega (arith, top)) (omega (arith, small)) (omega (arith, is')) (omega (arith, h)) (omega (arith, j))))
    (λ e.
    let is' : i + 0 ≡ l = rw e at is in
    rw e (ap (λ (x : ℕ). IntV (pos x)) (omega (arith, is')), omega (arith, h)))))

ins_law : (t : Lane) (x : ℕ) (key v : ℤ) (m n k : ℕ) (s : List Opened) → x ≤ 17 → 2 * reach t + 2 + m ≤ k → 2 * reach t + 2 ≤ n
    → Leaves (lane_value (ins t x key v)) m (call skiplist ideal_mode n 11
    (AndV (lane_value t) (AndV (IntV (pos x)) (AndV (IntV key) (AndV (IntV v) NoV)))) k s)
ins_law Floor zero key v m n k s top h j = enter skiplist 11 _ _ 1 m n k s (omega (arith, h)) (omega (arith, j))
    (λ n k h j. place_law Floor key v m n k s (omega (arith, h)) (omega (arith, j)))
ins_law Floor (suc x) key v m n k s top h j = enter skiplist 11 _ _ 1 m n k s (omega (arith, h)) (omega (arith, j))
    (λ n k h j. rw (lt-leb (suc x) 0 (omega arith)) (refl, omega (arith, h)))
ins_law (Last d) zero key v m n k s top h j =
    enter skiplist 11 _ _ (2 * reach (Last d) + 1) m n k s (omega (arith, h)) (omega (arith, j))
    (λ n k h j. place_law (Last d) key v m n k s (omega (arith, h)) (omega (arith, j)))
ins_law (Last d) (suc x) key v m n k s top h j = enter skiplist 11 _ _ (2 * reach (Last d) + 1) m n k s (omega (arith, h)) (omega (arith, j)) (λ n k h j.
    let (i, y, g, b) = gives _ _ _ (ins_law d x key v m n k (s ++ record { ty = lane; value = lane_value (Last d) } ∷ []) (omega (arith, top))
    (omega (arith, h)) (omega (arith, j))) in
    rw (lt-leb (suc x) 0 (omega arith), one_less x, nat_fits x (omega (arith, top)), g) (refl, b))
ins_law (Step d a w r) zero key v m n k s top h j =
    enter skiplist 11 _ _ (2 * reach (Step d a w r) + 1) m n k s (omega (arith, h)) (omega (arith, j))
    (λ n k h j. place_law (Step d a w r) key v m n k s (omega (arith, h)) (omega (arith, j)))
ins_law (Step d a w r) (suc x) key v m n k s top h j = enter skiplist 11 _ _ (2 * reach (Step d a w r) + 1) m n k s (omega (arith, h))
    (omega (arith, j)) (λ n k h j.
    rw (lt-leb (suc x) 0 (omega arith)) (by_test (int_lt key a)
    (λ f. let (i, y, g, b) = gives _ _ _ (ins_law d x key v m n k (s ++ record { ty = lane; value = lane_value (Step d a w r) } ∷ [])
    (omega (arith, top)) (omega (arith, h)) (omega (arith, j))) in
    rw (f, one_less x, nat_fits x (omega (arith, top)), g) (refl, b))
    (λ f. let (i, y, g, b) = gives _ _ _ (ins_law r (suc x) key v m n k (s ++ record { ty = lane; value = lane_value (Step d a w r) } ∷ []) top
    (omega (arith, h)) (omega (arith, j))) in
    rw (f, g) (refl, b))))

-- the roles
pub get_runs : (t : Lane) (key : ℤ) (m k : ℕ) → reach t + 2 + m ≤ k
    → Leaves (answer (find t key)) m (ideal skiplist get_role (call_values (lane_value t) (IntV key)) k)
get_runs t key m k h = enter skiplist 13 _ _ (suc (reach t)) m k k [] (omega (arith, h)) (omega (arith, h)) (λ n k h j. find_law t key m n k _ h j)

pub put_runs : (t : Lane) (key value : ℤ) (m k : ℕ) → int_fits key ≡ true → 2 * reach t + 21 + m ≤ k
    → Leaves (PairV (lane_value (insert t key value)) UnitV) m (ideal skiplist put_role (call_values (lane_value t) (PairV (IntV key) (IntV value))) k)
put_runs t key value m k fits h = enter skiplist 14 _ _ (2 * reach t + 20) m k k [] (omega (arith, h)) (omega (arith, h)) (λ n k h j.
    let (i, y, g, b) = gives _ _ _ (low_law key (2 * reach t + 19 + m) n k [] fits (omega (arith, h)) (omega (arith, j))) in
    let (i', y', g', b') = gives _ _ _ (level_law 16 (low key) 1 (level key) (2 * reach t + 2 + m) n i y refl (low_bound key) (omega arith)
    (omega (arith, b)) (omega (arith, j))) in
    let top = level_bound key in
    let (i'', y'', g'', b'') = gives _ _ _ (ins_law t (17 - level key) key value m n i' y' (omega arith) b' (omega (arith, j))) in
    rw (g, g', difference 17 (level key) top, nat_fits (17 - level key) (omega arith), g'') (refl, b''))

pub bare_runs : Leaves (lane_value (bare 17)) 0 (ideal skiplist empty_role (AndV UnitV NoV) 19)
bare_runs = (refl, omega arith)
