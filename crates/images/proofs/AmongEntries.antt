-- Entries that are among others.
use Rattle.std.proofs.Common.{◌≡◌, ◌⊎◌, inl, inr, ℕ, zero, suc, Bool, true, false, ◌||◌, List, [], ◌∷◌, ◌++◌, Some, slice_get, refl, sym, subst, append_assoc, true≢false}
use Rattle.std.specs.List.{All}
use Rattle.std.proofs.lemmas.List.Elements.{All-cons, All-head, All-nil, All-tail}
use Rattle.images.specs.Images.{Entry}
use Rattle.images.specs.SavedImages.{same_entry, is_entry_of}
use Rattle.images.proofs.SameEntries.{entry_sound, entry_self}

abbrev pub IsAmong : List Entry → Entry → Type 0
IsAmong xs e = is_entry_of e xs ≡ true

-- each of the second ones is among the first
abbrev pub AreAmong : List Entry → List Entry → Type 0
AreAmong xs [] = Unit {0}
AreAmong xs (y ∷ ys) = IsAmong xs y × AreAmong xs ys

first_true : (a b : Bool) → a ≡ true → a || b ≡ true
first_true a b h = rw h refl

second_true : (a b : Bool) → b ≡ true → a || b ≡ true
second_true true b h = refl
second_true false b h = h

one_true : (a b : Bool) → a || b ≡ true → (a ≡ true) ⊎ (b ≡ true)
one_true true b h = inl refl
one_true false b h = inr h

pub not_first : (a b : Bool) → a || b ≡ false → a ≡ false
not_first true b h = absurd (true≢false h)
not_first false b h = refl

pub not_second : (a b : Bool) → a || b ≡ false → b ≡ false
not_second true b h = absurd (true≢false h)
not_second false b h = h

pub among_here : (e : Entry) (xs : List Entry) → IsAmong (e ∷ xs) e
among_here e xs = first_true _ (is_entry_of e xs) (entry_self e)

pub among_later : (e x : Entry) (xs : List Entry) → IsAmong xs e → IsAmong (x ∷ xs) e
among_later e x xs h = second_true (same_entry x e) _ h

pub among_cases : (e x : Entry) (xs : List Entry) → IsAmong (x ∷ xs) e → (x ≡ e) ⊎ IsAmong xs e
among_cases e x xs h = by (one_true (same_entry x e) (is_entry_of e xs) h)
  where
    by : ((same_entry x e ≡ true) ⊎ (is_entry_of e xs ≡ true)) → (x ≡ e) ⊎ IsAmong xs e
    by (inl s) = inl (entry_sound x e s)
    by (inr t) = inr t

pub among_more : (e : Entry) (xs ys : List Entry) → IsAmong xs e → IsAmong (xs ++ ys) e
among_more e [] ys h = absurd (true≢false (sym h))
among_more e (x ∷ xs) ys h = by (among_cases e x xs h) (λ g. among_more e xs ys g)
  where
    by : (x ≡ e) ⊎ IsAmong xs e → (IsAmong xs e → IsAmong (xs ++ ys) e) → IsAmong (x ∷ xs ++ ys) e
    by (inl s) rest = subst (λ x. IsAmong (x ∷ xs ++ ys) e) (sym s) (among_here e (xs ++ ys))
    by (inr t) rest = among_later e x (xs ++ ys) (rest t)

pub among_behind : (e : Entry) (xs ys : List Entry) → IsAmong ys e → IsAmong (xs ++ ys) e
among_behind e [] ys h = h
among_behind e (x ∷ xs) ys h = among_later e x (xs ++ ys) (among_behind e xs ys h)

pub among_split : (xs : List Entry) (e x : Entry) → IsAmong (xs ++ e ∷ []) x → IsAmong xs x ⊎ (e ≡ x)
among_split [] e x h = elim (among_cases x e [] h) [ inl s ↦ inr s | inr t ↦ absurd (true≢false (sym t)) ]
among_split (y ∷ ys) e x h = by (among_cases x y (ys ++ e ∷ []) h) (λ t. among_split ys e x t)
  where
    by : (y ≡ x) ⊎ IsAmong (ys ++ e ∷ []) x → (IsAmong (ys ++ e ∷ []) x → IsAmong ys x ⊎ (e ≡ x)) → IsAmong (y ∷ ys) x ⊎ (e ≡ x)
    by (inl s) rest = inl (subst (λ y. IsAmong (y ∷ ys) x) (sym s) (among_here x ys))
    by (inr t) rest = elim (rest t) [ inl g ↦ inl (among_later x y ys g) | inr s ↦ inr s ]

pub among_at : (e : Entry) (xs : List Entry) (i : ℕ) → slice_get xs i ≡ Some e → IsAmong xs e
among_at e [] i h = absurd (cc)
among_at e (x ∷ xs) zero h = let same : x ≡ e = cc in subst (λ x. IsAmong (x ∷ xs) e) (sym same) (among_here e xs)
among_at e (x ∷ xs) (suc i) h = among_later e x xs (among_at e xs i h)

pub are_more : (xs ys zs : List Entry) → AreAmong xs zs → AreAmong (xs ++ ys) zs
are_more xs ys [] h = tt
are_more xs ys (z ∷ zs) h = (among_more z xs ys h.0, are_more xs ys zs h.1)

pub are_append : (xs ys zs : List Entry) → AreAmong xs ys → AreAmong xs zs → AreAmong xs (ys ++ zs)
are_append xs [] zs h g = g
are_append xs (y ∷ ys) zs h g = (h.0, are_append xs ys zs h.1 g)

pub are_first : (xs ys zs : List Entry) → AreAmong xs (ys ++ zs) → AreAmong xs ys
are_first xs [] zs h = tt
are_first xs (y ∷ ys) zs h = (h.0, are_first xs ys zs h.1)

pub are_second : (xs ys zs : List Entry) → AreAmong xs (ys ++ zs) → AreAmong xs zs
are_second xs [] zs h = h
are_second xs (y ∷ ys) zs h = are_second xs ys zs h.1

pub among_all : (e : Entry) (xs ys : List Entry) → AreAmong xs ys → IsAmong ys e → IsAmong xs e
among_all e xs [] h g = absurd (true≢false (sym g))
among_all e xs (y ∷ ys) h g = by (among_cases e y ys g) (λ t. among_all e xs ys h.1 t)
  where
    by : (y ≡ e) ⊎ IsAmong ys e → (IsAmong ys e → IsAmong xs e) → IsAmong xs e
    by (inl s) rest = subst (λ y. IsAmong xs y) s h.0
    by (inr t) rest = rest t

-- each of these is among them
pub are_behind : (xs ys : List Entry) → AreAmong (xs ++ ys) ys
are_behind xs [] = tt
are_behind xs (y ∷ ys) = (among_behind y xs (y ∷ ys) (among_here y ys), subst (λ zs. AreAmong zs ys) (append_assoc xs (y ∷ []) ys) (are_behind (xs ++ y ∷ []) ys))

pub are_within : (xs ys zs : List Entry) → ((e : Entry) → IsAmong xs e → IsAmong ys e) → AreAmong xs zs → AreAmong ys zs
are_within xs ys [] f h = tt
are_within xs ys (z ∷ zs) f h = (f z h.0, are_within xs ys zs f h.1)

pub among_push : (e z : Entry) (xs ys : List Entry) → (IsAmong xs e → IsAmong ys e) → IsAmong (xs ++ z ∷ []) e → IsAmong (ys ++ z ∷ []) e
among_push e z xs ys f h = by (among_split xs z e h)
  where
    by : IsAmong xs e ⊎ (z ≡ e) → IsAmong (ys ++ z ∷ []) e
    by (inl g) = among_more e ys (z ∷ []) (f g)
    by (inr s) = among_behind e ys (z ∷ []) (subst (λ z. IsAmong (z ∷ []) e) (sym s) (among_here e []))

-- what holds of all holds of one of them
pub all_among : (Holds : Entry → Type 0) (xs : List Entry) (e : Entry) → All Holds xs → IsAmong xs e → Holds e
all_among Holds [] e h g = absurd (true≢false (sym g))
all_among Holds (x ∷ xs) e h g = by (among_cases e x xs g) (λ t. all_among Holds xs e (All-tail Holds x xs h) t)
  where
    by : (x ≡ e) ⊎ IsAmong xs e → (IsAmong xs e → Holds e) → Holds e
    by (inl s) rest = subst Holds s (All-head Holds x xs h)
    by (inr t) rest = rest t

pub are_all : (xs ys : List Entry) → AreAmong xs ys → All (IsAmong xs) ys
are_all xs [] h = All-nil (IsAmong xs)
are_all xs (y ∷ ys) h = All-cons (IsAmong xs) y ys h.0 (are_all xs ys h.1)
