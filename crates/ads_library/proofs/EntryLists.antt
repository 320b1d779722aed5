-- Lists of entries: order, puts, and lookups.
use Rattle.std.proofs.Common.{◌≡◌, ℕ, suc, ◌+◌, Bool, true, false, List, [], ◌∷◌, ◌++◌, length, ℤ, pos, negsuc, ◌<ℤ◌, int_lt, int_eq, Option, Some, None, is_some, if◌then◌else◌, T, refl, sym, ap, ◌∙◌, subst, arith, true≢false}
use Rattle.std.proofs.lemmas.Bool.Decides.{Decides-int_eq, nat_tests}
use Rattle.std.proofs.lemmas.Int.{ints}
use Rattle.std.specs.Int.Signed.{<ℤ_irrefl}
use Rattle.std.proofs.lemmas.List.{length-append}
use Rattle.ads_library.specs.Entries.{Entry, entry, lookup, Above, Ascending}

-- every key is below a
abbrev pub Below : ℤ → List Entry → Type 0
Below a [] = Unit {0}
Below a (e ∷ es) = (e.key <ℤ a) × Below a es

-- an ascending list with one put more: the key gets the value, in the place of what it had
abbrev pub with_entry : (key value : ℤ) → List Entry → List Entry
with_entry k v [] = entry k v ∷ []
with_entry k v (e ∷ es) =
    if int_eq k e.key then entry k v ∷ es else (if int_lt k e.key then entry k v ∷ e ∷ es else e ∷ with_entry k v es)

pub length_joined : (xs : List Entry) (e : Entry) (ys : List Entry) → length (xs ++ e ∷ ys) ≡ suc (length xs + length ys)
length_joined xs e ys = length-append xs (e ∷ ys) ∙ omega arith

pub lt_trans : {a b c : ℤ} → a <ℤ b → b <ℤ c → a <ℤ c
lt_trans h g = omega (arith, ints)

-- how a key stands to another, with what the two tests say
pub data Side (k a : ℤ) : Type 0 where
  here : k ≡ a → int_eq k a ≡ true → Side k a
  before : k <ℤ a → int_eq k a ≡ false → int_lt k a ≡ true → Side k a
  behind : a <ℤ k → int_eq k a ≡ false → int_lt k a ≡ false → Side k a

true_is : (b : Bool) → b ≡ true → T b
true_is true e = tt
true_is false e = absurd (true≢false (sym e))

from_tests : (k a : ℤ) → ¬ (k ≡ a) → int_lt k a ≡ false → a <ℤ k
from_tests (pos m) (pos n) ne f = record { lt = grind (arith, nat_tests, ne) }
from_tests (pos m) (negsuc n) ne f = record { lt = tt }
from_tests (negsuc m) (pos n) ne f = absurd (true≢false f)
from_tests (negsuc m) (negsuc n) ne f = record { lt = grind (arith, nat_tests, ne) }

pub side : (k a : ℤ) → Side k a
side k a = by (int_eq k a) (int_lt k a) refl refl
  where
    by : (same less : Bool) → int_eq k a ≡ same → int_lt k a ≡ less → Side k a
    by true less e f = here ((Decides-int_eq k a).0 e) e
    by false true e f = before (record { lt = true_is (int_lt k a) f }) e f
    by false false e f = behind (from_tests k a (λ h. true≢false (sym ((Decides-int_eq k a).1 h) ∙ e)) f) e f

-- the tests, from the order
pub less_tests : (k a : ℤ) → k <ℤ a → (int_eq k a ≡ false) × (int_lt k a ≡ true)
less_tests k a h = by (side k a)
  where
    by : Side k a → (int_eq k a ≡ false) × (int_lt k a ≡ true)
    by (here s e) = absurd (<ℤ_irrefl (subst (λ z. z <ℤ a) s h))
    by (before g e f) = (e, f)
    by (behind g e f) = absurd (<ℤ_irrefl (lt_trans h g))

pub more_tests : (k a : ℤ) → a <ℤ k → (int_eq k a ≡ false) × (int_lt k a ≡ false)
more_tests k a h = by (side k a)
  where
    by : Side k a → (int_eq k a ≡ false) × (int_lt k a ≡ false)
    by (here s e) = absurd (<ℤ_irrefl (subst (λ z. a <ℤ z) s h))
    by (before g e f) = absurd (<ℤ_irrefl (lt_trans h g))
    by (behind g e f) = (e, f)

-- order of a list in two parts
pub Above-append : (a : ℤ) (xs ys : List Entry) → Above a xs → Above a ys → Above a (xs ++ ys)
Above-append a [] ys h g = g
Above-append a (e ∷ xs) ys h g = (h.0, Above-append a xs ys h.1 g)

pub Above-left : (a : ℤ) (xs ys : List Entry) → Above a (xs ++ ys) → Above a xs
Above-left a [] ys h = tt
Above-left a (e ∷ xs) ys h = (h.0, Above-left a xs ys h.1)

pub Above-right : (a : ℤ) (xs ys : List Entry) → Above a (xs ++ ys) → Above a ys
Above-right a [] ys h = h
Above-right a (e ∷ xs) ys h = Above-right a xs ys h.1

pub Above-less : (a b : ℤ) (xs : List Entry) → a <ℤ b → Above b xs → Above a xs
Above-less a b [] h g = tt
Above-less a b (e ∷ xs) h g = (lt_trans h g.0, Above-less a b xs h g.1)

pub Ascending-left : (xs ys : List Entry) → Ascending (xs ++ ys) → Ascending xs
Ascending-left [] ys h = tt
Ascending-left (e ∷ xs) ys h = (Above-left e.key xs ys h.0, Ascending-left xs ys h.1)

pub Ascending-right : (xs ys : List Entry) → Ascending (xs ++ ys) → Ascending ys
Ascending-right [] ys h = h
Ascending-right (e ∷ xs) ys h = Ascending-right xs ys h.1

pub Below-middle : (xs : List Entry) (e : Entry) (ys : List Entry) → Ascending (xs ++ e ∷ ys) → Below e.key xs
Below-middle [] e ys h = tt
Below-middle (x ∷ xs) e ys h = ((Above-right x.key xs (e ∷ ys) h.0).0, Below-middle xs e ys h.1)

pub Above-middle : (xs : List Entry) (e : Entry) (ys : List Entry) → Ascending (xs ++ e ∷ ys) → Above e.key ys
Above-middle xs e ys h = (Ascending-right xs (e ∷ ys) h).0

pub Below-more : (a b : ℤ) (xs : List Entry) → a <ℤ b → Below a xs → Below b xs
Below-more a b [] h g = tt
Below-more a b (e ∷ xs) h g = (lt_trans g.0 h, Below-more a b xs h g.1)

-- a put behind all keys of a first part goes into the second part; a put before the first key of the second, into the first
pub put_behind : (k v : ℤ) (xs ys : List Entry) → Below k xs → with_entry k v (xs ++ ys) ≡ xs ++ with_entry k v ys
put_behind k v [] ys h = refl
put_behind k v (x ∷ xs) ys h = rw ((more_tests k x.key h.0).0, (more_tests k x.key h.0).1) (ap (λ l. x ∷ l) (put_behind k v xs ys h.1))

pub put_left : (k v : ℤ) (xs : List Entry) (e : Entry) (ys : List Entry) → k <ℤ e.key → with_entry k v (xs ++ e ∷ ys) ≡ with_entry k v xs ++ e ∷ ys
put_left k v [] e ys h = rw ((less_tests k e.key h).0, (less_tests k e.key h).1) refl
put_left k v (x ∷ xs) e ys h = by (side k x.key) (put_left k v xs e ys h)
  where
    by : Side k x.key → with_entry k v (xs ++ e ∷ ys) ≡ with_entry k v xs ++ e ∷ ys → with_entry k v ((x ∷ xs) ++ e ∷ ys) ≡ with_entry k v (x ∷ xs) ++ e ∷ ys
    by (here s q) again = rw q refl
    by (before g q f) again = rw (q, f) refl
    by (behind g q f) again = rw (q, f) (ap (λ l. x ∷ l) again)

-- a put in an ascending list at the key of an entry, and behind it
pub put_here : (k v : ℤ) (xs : List Entry) (e : Entry) (ys : List Entry) → Ascending (xs ++ e ∷ ys) → k ≡ e.key
    → with_entry k v (xs ++ e ∷ ys) ≡ xs ++ entry k v ∷ ys
put_here k v xs e ys h same =
    put_behind k v xs (e ∷ ys) (subst (λ z. Below z xs) (sym same) (Below-middle xs e ys h)) ∙ ap (λ l. xs ++ l) (rw ((Decides-int_eq k e.key).1 same) refl)

pub put_right : (k v : ℤ) (xs : List Entry) (e : Entry) (ys : List Entry) → Ascending (xs ++ e ∷ ys) → e.key <ℤ k
    → with_entry k v (xs ++ e ∷ ys) ≡ xs ++ e ∷ with_entry k v ys
put_right k v xs e ys h less =
    put_behind k v xs (e ∷ ys) (Below-more e.key k xs less (Below-middle xs e ys h))
    ∙ ap (λ l. xs ++ l) (rw ((more_tests k e.key less).0, (more_tests k e.key less).1) refl)

-- a put between two parts
pub put_between : (k v : ℤ) (xs ys : List Entry) → Below k xs → Above k ys → with_entry k v (xs ++ ys) ≡ xs ++ entry k v ∷ ys
put_between k v xs ys h g = put_behind k v xs ys h ∙ ap (λ l. xs ++ l) (first ys g)
  where
    first : (ys : List Entry) → Above k ys → with_entry k v ys ≡ entry k v ∷ ys
    first [] g = refl
    first (y ∷ ys) g = rw ((less_tests k y.key g.0).0, (less_tests k y.key g.0).1) refl

-- a put keeps the order
Above-put : (a k v : ℤ) (es : List Entry) → a <ℤ k → Above a es → Above a (with_entry k v es)
Above-put a k v [] h g = (h, tt)
Above-put a k v (e ∷ es) h g = by (side k e.key) (Above-put a k v es h g.1)
  where
    by : Side k e.key → Above a (with_entry k v es) → Above a (with_entry k v (e ∷ es))
    by (here s q) again = rw q (h, g.1)
    by (before l q f) again = rw (q, f) (h, g)
    by (behind l q f) again = rw (q, f) (g.0, again)

pub Ascending-put : (k v : ℤ) (es : List Entry) → Ascending es → Ascending (with_entry k v es)
Ascending-put k v [] h = (tt, tt)
Ascending-put k v (e ∷ es) h = by (side k e.key) (Ascending-put k v es h.1)
  where
    by : Side k e.key → Ascending (with_entry k v es) → Ascending (with_entry k v (e ∷ es))
    by (here s q) again = rw q (subst (λ z. Above z es) (sym s) h.0, h.1)
    by (before l q f) again = rw (q, f) ((l, Above-less k e.key es l h.0), h)
    by (behind l q f) again = rw (q, f) (Above-put e.key k v es l h.0, again)

-- what is found after a put
pub value_put : (k v : ℤ) (es : List Entry) (j : ℤ) → lookup (with_entry k v es) j ≡ (if int_eq j k then Some v else lookup es j)
value_put k v [] j = refl
value_put k v (e ∷ es) j = by (side k e.key) (value_put k v es j)
  where
    passed : (a b : Bool) → ((a ≡ true) → (b ≡ true) → ⊥) → (o : Option ℤ)
        → (if a then Some e.value else (if b then Some v else o)) ≡ (if b then Some v else (if a then Some e.value else o))
    passed true true h o = absurd (h refl refl)
    passed true false h o = refl
    passed false b h o = refl

    twice : (a b : Bool) → a ≡ b → (o : Option ℤ) → (if a then Some v else o) ≡ (if a then Some v else (if b then Some e.value else o))
    twice true b h o = refl
    twice false b h o = rw (sym h) refl

    by : Side k e.key → lookup (with_entry k v es) j ≡ (if int_eq j k then Some v else lookup es j)
        → lookup (with_entry k v (e ∷ es)) j ≡ (if int_eq j k then Some v else lookup (e ∷ es) j)
    by (here s q) again = rw q (twice (int_eq j k) (int_eq j e.key) (ap (λ z. int_eq j z) s) (lookup es j))
    by (before l q f) again = rw (q, f) refl
    by (behind l q f) again =
        rw (q, f, again) (passed (int_eq j e.key) (int_eq j k)
        (λ a b. <ℤ_irrefl (subst (λ z. z <ℤ k) (sym ((Decides-int_eq j e.key).0 a) ∙ (Decides-int_eq j k).0 b) l)) (lookup es j))

-- nothing is found beside its own side
pub none_above : (k : ℤ) (es : List Entry) → Above k es → lookup es k ≡ None
none_above k [] h = refl
none_above k (e ∷ es) h = rw ((less_tests k e.key h.0).0) (none_above k es h.1)

pub value_behind : (k : ℤ) (xs ys : List Entry) → Below k xs → lookup (xs ++ ys) k ≡ lookup ys k
value_behind k [] ys h = refl
value_behind k (x ∷ xs) ys h = rw ((more_tests k x.key h.0).0) (value_behind k xs ys h.1)

pub value_before : (k : ℤ) (xs ys : List Entry) → Above k ys → lookup (xs ++ ys) k ≡ lookup xs k
value_before k [] ys h = none_above k ys h
value_before k (x ∷ xs) ys h = ap (λ (o : Option ℤ). if int_eq k x.key then Some x.value else o) (value_before k xs ys h)

-- a lookup in an ascending list around an entry
pub value_left : (k : ℤ) (xs : List Entry) (e : Entry) (ys : List Entry) → Ascending (xs ++ e ∷ ys) → k <ℤ e.key → lookup (xs ++ e ∷ ys) k ≡ lookup xs k
value_left k xs e ys h less = value_before k xs (e ∷ ys) (less, Above-less k e.key ys less (Above-middle xs e ys h))

pub value_here : (k : ℤ) (xs : List Entry) (e : Entry) (ys : List Entry) → Ascending (xs ++ e ∷ ys) → k ≡ e.key → lookup (xs ++ e ∷ ys) k ≡ Some e.value
value_here k xs e ys h same =
    value_behind k xs (e ∷ ys) (subst (λ z. Below z xs) (sym same) (Below-middle xs e ys h)) ∙ rw ((Decides-int_eq k e.key).1 same) refl

pub value_right : (k : ℤ) (xs : List Entry) (e : Entry) (ys : List Entry) → Ascending (xs ++ e ∷ ys) → e.key <ℤ k → lookup (xs ++ e ∷ ys) k ≡ lookup ys k
value_right k xs e ys h less =
    value_behind k xs (e ∷ ys) (Below-more e.key k xs less (Below-middle xs e ys h)) ∙ rw ((more_tests k e.key less).0) refl

-- how many keys there are after a put
pub length_put : (k v : ℤ) (es : List Entry) → Ascending es → length (with_entry k v es) ≡ (if is_some (lookup es k) then length es else suc (length es))
length_put k v [] h = refl
length_put k v (e ∷ es) h = by (side k e.key) (length_put k v es h.1)
  where
    one_more : (b : Bool) (n : ℕ) → suc (if b then n else suc n) ≡ (if b then suc n else suc (suc n))
    one_more true n = refl
    one_more false n = refl

    by : Side k e.key → length (with_entry k v es) ≡ (if is_some (lookup es k) then length es else suc (length es))
        → length (with_entry k v (e ∷ es)) ≡ (if is_some (lookup (e ∷ es) k) then suc (length es) else suc (suc (length es)))
    by (here s q) again = rw q refl
    by (before l q f) again = rw (q, f, none_above k es (Above-less k e.key es l h.0)) refl
    by (behind l q f) again = rw (q, f) (ap (λ n. suc n) again ∙ one_more (is_some (lookup es k)) (length es))
