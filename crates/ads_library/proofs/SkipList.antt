-- The lanes of `skiplist`: a put is a put in the list of their entries, and keeps their levels.
use Rattle.std.proofs.Common.{◌≡◌, ℕ, zero, suc, ◌+◌, ◌-◌, ◌*◌, ◌≤◌, ◌<◌, ◌%◌, ◌/◌, nat_le, nat_eq, Bool, true, false, List, [], ◌∷◌, ◌++◌, filter, length, ℤ, int_lt, int_eq, pos, negsuc, ◌*ℤ◌, ◌+ℤ◌, ◌^◌, cond, Option, Some, None, is_some, if◌then◌else◌, refl, sym, ap, ◌∙◌, subst, arith, true≢false}
use Rattle.std.proofs.lemmas.Bool.{lt-leb, le-leb}
use Rattle.std.proofs.lemmas.List.{append_assoc}
use Rattle.std.proofs.lemmas.List.Elements.{filter-append}
use Rattle.std.proofs.lemmas.Bool.Decides.{Decides-eqb}
use Rattle.std.proofs.lemmas.Int.{ints}
use Rattle.std.proofs.Math.Nat.{pow-succ'}
use Rattle.ads_library.proofs.Stepping.{by_test}
use Rattle.ads_library.specs.Entries.{Entry, entry, lookup, Above, Ascending}
use Rattle.ads_library.specs.SkipList.{Lane, Floor, Last, Step, bare, find, low, halvings, level, part_before, part_behind, place, ins, insert, entries, list_below, list_at, Levelled, from_level, IsSkipList, reach, IsLevel, SkipListIsMap}
use Rattle.ads_library.proofs.EntryLists.{Below, with_entry, length_joined, value_put, length_put, Side, here, before, behind, side, Above-append, Above-less, Below-more, Below-middle, Above-middle, Ascending-left, Ascending-right, Ascending-put, put_left, put_here, put_right, put_between, value_left, value_here, value_right}

-- a lookup is one in the list of entries
pub find_entries : (t : Lane) (k : ℤ) → Ascending (entries t) → find t k ≡ lookup (entries t) k
find_entries Floor k h = refl
find_entries (Last d) k h = find_entries d k h
find_entries (Step d a v r) k h =
    by (side k a) (find_entries d k (Ascending-left (entries d) (entry a v ∷ entries r) h))
    (find_entries r k (Ascending-right (entries d) (entry a v ∷ entries r) h).1)
  where
    by : Side k a → find d k ≡ lookup (entries d) k → find r k ≡ lookup (entries r) k → find (Step d a v r) k ≡ lookup (entries d ++ entry a v ∷ entries r) k
    by (here s q) below rest = rw q (sym (value_here k (entries d) (entry a v) (entries r) h s))
    by (before g q f) below rest = rw (q, f) (below ∙ sym (value_left k (entries d) (entry a v) (entries r) h g))
    by (behind g q f) below rest = rw (q, f) (rest ∙ sym (value_right k (entries d) (entry a v) (entries r) h g))

-- no key of the list is k
abbrev Lacks : ℤ → List Entry → Type 0
Lacks k [] = Unit {0}
Lacks k (e ∷ es) = ¬ (k ≡ e.key) × Lacks k es

Lacks-left : (k : ℤ) (xs ys : List Entry) → Lacks k (xs ++ ys) → Lacks k xs
Lacks-left k [] ys h = tt
Lacks-left k (x ∷ xs) ys h = (h.0, Lacks-left k xs ys h.1)

Lacks-right : (k : ℤ) (xs ys : List Entry) → Lacks k (xs ++ ys) → Lacks k ys
Lacks-right k [] ys h = h
Lacks-right k (x ∷ xs) ys h = Lacks-right k xs ys h.1

Lacks-append : (k : ℤ) (xs ys : List Entry) → Lacks k xs → Lacks k ys → Lacks k (xs ++ ys)
Lacks-append k [] ys h g = g
Lacks-append k (x ∷ xs) ys h g = (h.0, Lacks-append k xs ys h.1 g)

Below-append : (a : ℤ) (xs ys : List Entry) → Below a xs → Below a ys → Below a (xs ++ ys)
Below-append a [] ys h g = g
Below-append a (e ∷ xs) ys h g = (h.0, Below-append a xs ys h.1 g)

-- lanes of a level lack the keys of higher levels
lower_lacks : (t : Lane) (n : ℕ) (k : ℤ) → Levelled t n → n < level k → Lacks k (entries t)
lower_lacks Floor n k h less = tt
lower_lacks (Last d) zero k h less = absurd h
lower_lacks (Last d) (suc n) k h less = lower_lacks d n k h (omega arith)
lower_lacks (Step d a v r) zero k h less = absurd h
lower_lacks (Step d a v r) (suc n) k h less =
    Lacks-append k (entries d) (entry a v ∷ entries r) (lower_lacks d n k h.1 (omega arith))
    (λ same. absurd (differs same), lower_lacks r (suc n) k h.2 less)
  where
    differs : k ≡ a → ⊥
    differs same = let e : level k ≡ suc n = ap level same ∙ h.0 in omega arith

-- the two parts of a lane that lacks k
record Parts (t : Lane) (k : ℤ) : Type 0 where
  joined : entries (part_before t k) ++ entries (part_behind t k) ≡ entries t
  below : Below k (entries (part_before t k))
  above : Above k (entries (part_behind t k))

parts : (t : Lane) (k : ℤ) → Ascending (entries t) → Lacks k (entries t) → Parts t k
parts Floor k h g = record { joined = refl; below = tt; above = tt }
parts (Last d) k h g = let p = parts d k h g in record { joined = p.joined; below = p.below; above = p.above }
parts (Step d a w r) k h g =
    by (side k a) (parts d k (Ascending-left (entries d) (entry a w ∷ entries r) h) (Lacks-left k (entries d) (entry a w ∷ entries r) g))
    (parts r k (Ascending-right (entries d) (entry a w ∷ entries r) h).1 (Lacks-right k (entries d) (entry a w ∷ entries r) g).1)
  where
    by : Side k a → Parts d k → Parts r k → Parts (Step d a w r) k
    by (here s q) p o = absurd ((Lacks-right k (entries d) (entry a w ∷ entries r) g).0 s)
    by (before l q f) p o = record {
      joined = rw f (sym (append_assoc (entries (part_before d k)) (entries (part_behind d k)) (entry a w ∷ entries r))
          ∙ ap (λ es. es ++ entry a w ∷ entries r) p.joined);
      below = rw f p.below;
      above = rw f (Above-append k (entries (part_behind d k)) (entry a w ∷ entries r) p.above
          (l, Above-less k a (entries r) l (Above-middle (entries d) (entry a w) (entries r) h)));
    }
    by (behind l q f) p o = record {
      joined = rw f (append_assoc (entries d) (entry a w ∷ entries (part_before r k)) (entries (part_behind r k))
          ∙ ap (λ es. entries d ++ entry a w ∷ es) o.joined);
      below = rw f (Below-append k (entries d) (entry a w ∷ entries (part_before r k))
          (Below-more a k (entries d) l (Below-middle (entries d) (entry a w) (entries r) h)) (l, o.below));
      above = rw f o.above;
    }

before_levelled : (t : Lane) (n : ℕ) (k : ℤ) → Levelled t n → Levelled (part_before t k) n
before_levelled Floor n k h = h
before_levelled (Last d) zero k h = absurd h
before_levelled (Last d) (suc n) k h = before_levelled d n k h
before_levelled (Step d a w r) zero k h = absurd h
before_levelled (Step d a w r) (suc n) k h = by (int_lt k a) (before_levelled d n k h.1) (before_levelled r (suc n) k h.2)
  where
    by : (b : Bool) → Levelled (part_before d k) n → Levelled (part_before r k) (suc n)
        → Levelled (if b then Last (part_before d k) else Step d a w (part_before r k)) (suc n)
    by true p o = p
    by false p o = (h.0, h.1, o)

behind_levelled : (t : Lane) (n : ℕ) (k : ℤ) → Levelled t n → Levelled (part_behind t k) n
behind_levelled Floor n k h = h
behind_levelled (Last d) zero k h = absurd h
behind_levelled (Last d) (suc n) k h = behind_levelled d n k h
behind_levelled (Step d a w r) zero k h = absurd h
behind_levelled (Step d a w r) (suc n) k h = by (int_lt k a) (behind_levelled d n k h.1) (behind_levelled r (suc n) k h.2)
  where
    by : (b : Bool) → Levelled (part_behind d k) n → Levelled (part_behind r k) (suc n)
        → Levelled (if b then Step (part_behind d k) a w r else part_behind r k) (suc n)
    by true p o = (h.0, p, h.2)
    by false p o = o

-- a put into the lane of its level
place_entries : (t : Lane) (n : ℕ) (k v : ℤ) → Levelled t (suc n) → suc n ≡ level k → Ascending (entries t) → entries (place t k v) ≡ with_entry k v (entries t)
place_entries Floor n k v levels same h = absurd (omega (arith, levels))
place_entries (Last d) n k v levels same h =
    let p = parts d k h (lower_lacks d n k levels (omega (arith, same))) in
    sym (put_between k v (entries (part_before d k)) (entries (part_behind d k)) p.below p.above) ∙ ap (λ es. with_entry k v es) p.joined
place_entries (Step d a w r) n k v levels same h =
    by (side k a) (parts d k (Ascending-left (entries d) (entry a w ∷ entries r) h) (lower_lacks d n k levels.1 (omega (arith, same))))
    (place_entries r n k v levels.2 same (Ascending-right (entries d) (entry a w ∷ entries r) h).1)
  where
    by : Side k a → Parts d k → entries (place r k v) ≡ with_entry k v (entries r)
        → entries (place (Step d a w r) k v) ≡ with_entry k v (entries d ++ entry a w ∷ entries r)
    by (here s q) p rest = rw q (ap (λ z. entries d ++ entry z v ∷ entries r) (sym s) ∙ sym (put_here k v (entries d) (entry a w) (entries r) h s))
    by (before l q f) p rest =
        let below : with_entry k v (entries d) ≡ entries (part_before d k) ++ entry k v ∷ entries (part_behind d k) =
        ap (λ es. with_entry k v es) (sym p.joined) ∙ put_between k v (entries (part_before d k)) (entries (part_behind d k)) p.below p.above in
        rw (q, f) (
        sym (append_assoc (entries (part_before d k)) (entry k v ∷ entries (part_behind d k)) (entry a w ∷ entries r))
        ∙ ap (λ es. es ++ entry a w ∷ entries r) (sym below)
        ∙ sym (put_left k v (entries d) (entry a w) (entries r) l))
    by (behind l q f) p rest = rw (q, f) (ap (λ es. entries d ++ entry a w ∷ es) rest ∙ sym (put_right k v (entries d) (entry a w) (entries r) h l))

place_levelled : (t : Lane) (n : ℕ) (k v : ℤ) → Levelled t (suc n) → suc n ≡ level k → Levelled (place t k v) (suc n)
place_levelled Floor n k v levels same = levels
place_levelled (Last d) n k v levels same = (sym same, before_levelled d n k levels, behind_levelled d n k levels)
place_levelled (Step d a w r) n k v levels same = by (side k a) (place_levelled r n k v levels.2 same)
  where
    by : Side k a → Levelled (place r k v) (suc n) → Levelled (place (Step d a w r) k v) (suc n)
    by (here s q) rest = rw q levels
    by (before l q f) rest = rw (q, f) (sym same, before_levelled d n k levels.1, (levels.0, behind_levelled d n k levels.1, levels.2))
    by (behind l q f) rest = rw (q, f) (levels.0, levels.1, rest)

-- a put from a lane that is n levels higher
ins_entries : (t : Lane) (n j : ℕ) (k v : ℤ) → Levelled t (suc j) → suc j ≡ n + level k → Ascending (entries t)
    → entries (ins t n k v) ≡ with_entry k v (entries t)
ins_entries Floor zero j k v levels same h = absurd (omega (arith, levels))
ins_entries Floor (suc n) j k v levels same h = absurd (omega (arith, levels))
ins_entries (Last d) zero j k v levels same h = place_entries (Last d) j k v levels (omega (arith, same)) h
ins_entries (Last d) (suc n) zero k v levels same h = absurd (omega (arith, same))
ins_entries (Last d) (suc n) (suc j) k v levels same h = ins_entries d n j k v levels (omega (arith, same)) h
ins_entries (Step d a w r) zero j k v levels same h = place_entries (Step d a w r) j k v levels (omega (arith, same)) h
ins_entries (Step d a w r) (suc n) zero k v levels same h = absurd (omega (arith, same))
ins_entries (Step d a w r) (suc n) (suc j) k v levels same h =
    by (side k a) (ins_entries d n j k v levels.1 (omega (arith, same)) (Ascending-left (entries d) (entry a w ∷ entries r) h))
    (ins_entries r (suc n) (suc j) k v levels.2 same (Ascending-right (entries d) (entry a w ∷ entries r) h).1)
  where
    by : Side k a → entries (ins d n k v) ≡ with_entry k v (entries d) → entries (ins r (suc n) k v) ≡ with_entry k v (entries r)
        → entries (ins (Step d a w r) (suc n) k v) ≡ with_entry k v (entries d ++ entry a w ∷ entries r)
    by (here s q) below rest = absurd (let e : level k ≡ suc (suc j) = ap level s ∙ levels.0 in omega (arith, same))
    by (before l q f) below rest = rw f (ap (λ es. es ++ entry a w ∷ entries r) below ∙ sym (put_left k v (entries d) (entry a w) (entries r) l))
    by (behind l q f) below rest = rw f (ap (λ es. entries d ++ entry a w ∷ es) rest ∙ sym (put_right k v (entries d) (entry a w) (entries r) h l))

ins_levelled : (t : Lane) (n j : ℕ) (k v : ℤ) → Levelled t (suc j) → suc j ≡ n + level k → Levelled (ins t n k v) (suc j)
ins_levelled Floor zero j k v levels same = absurd (omega (arith, levels))
ins_levelled Floor (suc n) j k v levels same = absurd (omega (arith, levels))
ins_levelled (Last d) zero j k v levels same = place_levelled (Last d) j k v levels (omega (arith, same))
ins_levelled (Last d) (suc n) zero k v levels same = absurd (omega (arith, same))
ins_levelled (Last d) (suc n) (suc j) k v levels same = ins_levelled d n j k v levels (omega (arith, same))
ins_levelled (Step d a w r) zero j k v levels same = place_levelled (Step d a w r) j k v levels (omega (arith, same))
ins_levelled (Step d a w r) (suc n) zero k v levels same = absurd (omega (arith, same))
ins_levelled (Step d a w r) (suc n) (suc j) k v levels same =
    by (int_lt k a) (ins_levelled d n j k v levels.1 (omega (arith, same))) (ins_levelled r (suc n) (suc j) k v levels.2 same)
  where
    by : (b : Bool) → Levelled (ins d n k v) (suc j) → Levelled (ins r (suc n) k v) (suc (suc j))
        → Levelled (if b then Step (ins d n k v) a w r else Step d a w (ins r (suc n) k v)) (suc (suc j))
    by true below rest = (levels.0, below, levels.2)
    by false below rest = (levels.0, levels.1, rest)

-- no level is above 17
halvings_bound : (most r : ℕ) → halvings most r ≤ most
halvings_bound zero r = omega arith
halvings_bound (suc most) r = by (nat_eq (r % 2) 0) (halvings_bound most (r / 2))
  where
    by : (b : Bool) → halvings most (r / 2) ≤ most → (if b then suc (halvings most (r / 2)) else 0) ≤ suc most
    by true h = omega arith
    by false h = omega arith

pub level_bound : (k : ℤ) → level k ≤ 17
level_bound k = let h = halvings_bound 16 (low k) in omega arith

pub insert_entries : (t : Lane) (k v : ℤ) → Levelled t 17 → Ascending (entries t) → entries (insert t k v) ≡ with_entry k v (entries t)
insert_entries t k v levels h = let b = level_bound k in ins_entries t (17 - level k) 16 k v levels (omega arith) h

pub insert_levelled : (t : Lane) (k v : ℤ) → Levelled t 17 → Levelled (insert t k v) 17
insert_levelled t k v levels = let b = level_bound k in ins_levelled t (17 - level k) 16 k v levels (omega arith)

bare_entries : (n : ℕ) → entries (bare n) ≡ []
bare_entries zero = refl
bare_entries (suc n) = bare_entries n

bare_levelled : (n : ℕ) → Levelled (bare n) n
bare_levelled zero = refl
bare_levelled (suc n) = bare_levelled n

-- lanes of a level hold no key of a higher level
none_higher : (t : Lane) (n j : ℕ) → Levelled t n → n < j → from_level j (entries t) ≡ []
none_higher Floor n j h less = refl
none_higher (Last d) zero j h less = absurd h
none_higher (Last d) (suc n) j h less = none_higher d n j h (omega arith)
none_higher (Step d a v r) zero j h less = absurd h
none_higher (Step d a v r) (suc n) j h less =
    filter-append (λ e. nat_le j (level e.key)) (entries d) (entry a v ∷ entries r)
    ∙ rw (none_higher d n j h.1 (omega arith), h.0, lt-leb j (suc n) less) (none_higher r (suc n) j h.2 less)

-- the list at a level holds the keys of this level or more
list_is : (t : Lane) (n i j : ℕ) → Levelled t j → j ≡ n + suc i → list_below n t ≡ from_level (suc i) (entries t)
list_is Floor n i j h same = refl
list_is (Last d) n i zero h same = absurd h
list_is (Last d) zero i (suc j) h same = sym (none_higher d j (suc i) h (omega (arith, same)))
list_is (Last d) (suc n) i (suc j) h same = list_is d n i j h (omega (arith, same))
list_is (Step d a v r) n i zero h same = absurd h
list_is (Step d a v r) zero i (suc j) h same =
    let below = none_higher d j (suc i) h.1 (omega (arith, same)) in
    let rest = list_is r zero i (suc j) h.2 same in
    sym (filter-append (λ e. nat_le (suc i) (level e.key)) (entries d) (entry a v ∷ entries r)
    ∙ rw (below, h.0, le-leb (suc i) (suc j) (omega (arith, same))) (ap (λ es. entry a v ∷ es) (sym rest)))
list_is (Step d a v r) (suc n) i (suc j) h same =
    let below = list_is d n i j h.1 (omega (arith, same)) in
    let rest = list_is r (suc n) i (suc j) h.2 same in
    sym (filter-append (λ e. nat_le (suc i) (level e.key)) (entries d) (entry a v ∷ entries r)
    ∙ rw (below, rest, h.0, le-leb (suc i) (suc j) (omega (arith, same))) refl)

-- what a filter keeps is as ascending
Above-filter : (p : Entry → Bool) (a : ℤ) (es : List Entry) → Above a es → Above a (filter p es)
Above-filter p a [] h = tt
Above-filter p a (e ∷ es) h = by (p e) (Above-filter p a es h.1)
  where
    by : (b : Bool) → Above a (filter p es) → Above a (cond b (e ∷ filter p es) (filter p es))
    by true g = (h.0, g)
    by false g = g

Ascending-filter : (p : Entry → Bool) (es : List Entry) → Ascending es → Ascending (filter p es)
Ascending-filter p [] h = tt
Ascending-filter p (e ∷ es) h = by (p e) (Ascending-filter p es h.1)
  where
    by : (b : Bool) → Ascending (filter p es) → Ascending (cond b (e ∷ filter p es) (filter p es))
    by true g = (Above-filter p e.key es h.0, g)
    by false g = g

levels : (t : Lane) → IsSkipList t → (j : ℕ) → 1 ≤ j → j ≤ 17 → (list_at j t ≡ from_level j (entries t)) × Ascending (list_at j t)
levels t h zero one top = absurd (omega (arith, one))
levels t h (suc i) one top =
    let is = list_is t (17 - suc i) i 17 h.levels (omega (arith, top)) in
    (is, subst Ascending (sym is) (Ascending-filter (λ e. nat_le (suc i) (level e.key)) (entries t) h.ascending))

-- a walk goes down the levels, and over each key once at most
reach_levelled : (t : Lane) (n : ℕ) → Levelled t n → reach t ≤ n + length (entries t)
reach_levelled Floor n h = omega arith
reach_levelled (Last d) zero h = absurd h
reach_levelled (Last d) (suc n) h = let below = reach_levelled d n h in omega (arith, below)
reach_levelled (Step d a v r) zero h = absurd h
reach_levelled (Step d a v r) (suc n) h =
    let below = reach_levelled d n h.1 in
    let rest = reach_levelled r (suc n) h.2 in
    rw (length_joined (entries d) (entry a v) (entries r)) (omega (arith, below, rest))

kept : (t : Lane) (key value : ℤ) → IsSkipList t → IsSkipList (insert t key value)
kept t key value h = record {
  ascending = subst Ascending (sym (insert_entries t key value h.levels h.ascending)) (Ascending-put key value (entries t) h.ascending);
  levels = insert_levelled t key value h.levels;
}

found : (t : Lane) (key value other : ℤ) → IsSkipList t → find (insert t key value) other ≡ (if int_eq other key then Some value else find t other)
found t key value other h =
    find_entries (insert t key value) other (kept t key value h).ascending
    ∙ ap (λ es. lookup es other) (insert_entries t key value h.levels h.ascending)
    ∙ value_put key value (entries t) other
    ∙ ap (λ (o : Option ℤ). if int_eq other key then Some value else o) (sym (find_entries t other h.ascending))

counted : (t : Lane) (key value : ℤ) → IsSkipList t
    → length (entries (insert t key value)) ≡ (if is_some (find t key) then length (entries t) else suc (length (entries t)))
counted t key value h =
    rw (insert_entries t key value h.levels h.ascending, find_entries t key h.ascending) (length_put key value (entries t) h.ascending)

bare_lacks : (n : ℕ) (key : ℤ) → find (bare n) key ≡ None
bare_lacks zero key = refl
bare_lacks (suc n) key = bare_lacks n key

-- a level, by division
doubled : (h odd : ℕ) → 2 * (2 ^ h * odd) ≡ 2 ^ suc h * odd
doubled h odd = rw (pow-succ' 2 h) (omega arith)

halved : (most r : ℕ) → 0 < r → r < 2 ^ most → (odd : ℕ) × (r ≡ 2 ^ halvings most r * odd) × (odd % 2 ≡ 1)
halved zero r some small = absurd (omega (arith, some, small))
halved (suc most) r some small = by_test (nat_eq (r % 2) 0)
    (λ e.
    let even : r % 2 ≡ 0 = (Decides-eqb (r % 2) 0).0 e in
    let (odd, is, one) = halved most (r / 2) (omega (arith, some, even)) (omega (arith, small)) in
    rw e (odd, twice odd even is, one))
    (λ e.
    let uneven : ¬ (r % 2 ≡ 0) = λ even. true≢false (sym ((Decides-eqb (r % 2) 0).1 even) ∙ e) in
    rw e (r, omega arith, omega (arith, uneven)))
  where
    twice : (odd : ℕ) → r % 2 ≡ 0 → r / 2 ≡ 2 ^ halvings most (r / 2) * odd → r ≡ 2 ^ suc (halvings most (r / 2)) * odd
    twice odd even is =
        let double : r ≡ 2 * (r / 2) = omega (arith, even) in
        double ∙ ap (λ h. 2 * h) is ∙ doubled (halvings most (r / 2)) odd

low_is : (k : ℤ) → (q : ℤ) × (k ≡ pos 65536 *ℤ q +ℤ pos (low k))
low_is (pos n) = (pos (n / 65536), ap pos (omega arith))
low_is (negsuc n) = (negsuc (n / 65536), omega (arith, ints))

pub low_bound : (k : ℤ) → low k < 65536
low_bound (pos n) = omega arith
low_bound (negsuc n) = omega arith

level_is : (k : ℤ) → IsLevel k
level_is k = record {
  remainder = low_is k;
  below = low_bound k;
  of_zero = λ e. rw e refl;
  of_others = λ some.
      let (odd, is, one) = halved 16 (low k) (omega (arith, some)) (let b = low_bound k in omega (arith, b)) in
      let same : halvings 16 (low k) ≡ level k - 1 = omega arith in
      (odd, subst (λ h. low k ≡ 2 ^ h * odd) same is, one);
}

pub skip_list_is_map : SkipListIsMap
skip_list_is_map = record {
  level_is = level_is;
  empty = (record { ascending = subst Ascending (sym (bare_entries 17)) tt; levels = bare_levelled 17 }, bare_entries 17);
  kept = kept;
  nothing = bare_lacks 17;
  found = found;
  counted = counted;
  listed = λ t key h. find_entries t key h.ascending;
  levels = levels;
  reach_bound = λ t h. reach_levelled t 17 h.levels;
}
