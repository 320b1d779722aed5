-- Lists whose items belong to the items of others, one by one.
use Rattle.std.proofs.Common.{◌≡◌, ◌<◌, ℕ, ◌+◌, Bool, true, List, [], ◌∷◌, ◌++◌, length, map, take, drop, slice_index_or, refl, sym, ap, ap₂, ◌∙◌, subst}
use Rattle.std.specs.List.{All, AllZip, list_all}
use Rattle.std.proofs.lemmas.List.{get_or-map, length-map, map_push, take_more, drop_more}
use Rattle.core_terms.proofs.TypingComplete.{both}
use Rattle.core_terms.proofs.DecidedTypes.{zip_push}

-- the first items, and one more
pub taken_more : {A B : Type 0} (f : A → B) (xs : List A) (i : ℕ) (x : A) → i < length xs → x ≡ slice_index_or xs i x → map f (take (i + 1) xs) ≡ map f (take i xs) ++ f x ∷ []
taken_more f xs i x inside is = ap (map f) (take_more xs i x inside ∙ ap (λ e. take i xs ++ e ∷ []) (sym is)) ∙ map_push f (take i xs) x

pub zip_more : {A B C : Type 0} (R : B → C → Type 0) (f : A → B) (xs : List A) (ys : List C) (i : ℕ) (x : A) (y : C) → i < length xs → x ≡ slice_index_or xs i x
    → AllZip R (map f (take i xs)) ys → R (f x) y → AllZip R (map f (take (i + 1) xs)) (ys ++ y ∷ [])
zip_more R f xs ys i x y inside is all one = subst (λ l. AllZip R l (ys ++ y ∷ [])) (sym (taken_more f xs i x inside is)) (zip_push R (map f (take i xs)) ys (f x) y all one)

-- the items from a place on are the one there and those behind it
pub rest_opened : {A B : Type 0} (f : A → B) (xs : List A) (i : ℕ) (x : A) → i < length xs → x ≡ slice_index_or xs i x → map f (drop i xs) ≡ f x ∷ map f (drop (i + 1) xs)
rest_opened f xs i x inside is = ap (map f) (drop_more xs i x inside ∙ ap (λ y. y ∷ drop (i + 1) xs) (sym is))

-- what holds of each item holds of one
pub at_item : {A : Type 0} (P : A → Type 0) (xs : List A) (i : ℕ) (x : A) → i < length xs → x ≡ slice_index_or xs i x → All P xs → P x
at_item P xs i x inside is all = subst P (sym is) (all i x inside)

pub all_mapped : {A B : Type 0} (P : B → Type 0) (f : A → B) (xs : List A) → All P (map f xs) → All (λ x. P (f x)) xs
all_mapped P f xs all i d h = subst P (get_or-map f xs i d (f d) h) (all i (f d) (subst (λ n. i < n) (sym (length-map xs f)) h))

-- what items that belong together have in common
pub zip_same : {A B C : Type 0} (R : A → B → Type 0) (f : A → C) (g : B → C) → ((x : A) (y : B) → R x y → g y ≡ f x) → (xs : List A) (ys : List B) → AllZip R xs ys → map g ys ≡ map f xs
zip_same R f g same [] [] all = refl
zip_same R f g same [] (y ∷ ys) all = absurd all
zip_same R f g same (x ∷ xs) [] all = absurd all
zip_same R f g same (x ∷ xs) (y ∷ ys) all = ap₂ (λ z zs. z ∷ zs) (same x y all.0) (zip_same R f g same xs ys all.1)

-- a test that each of the second ones passes
pub zip_passes : {A B : Type 0} (R : A → B → Type 0) (p : B → Bool) → ((x : A) (y : B) → R x y → p y ≡ true) → (xs : List A) (ys : List B) → AllZip R xs ys → list_all p ys ≡ true
zip_passes R p one [] [] all = refl
zip_passes R p one [] (y ∷ ys) all = absurd all
zip_passes R p one (x ∷ xs) [] all = absurd all
zip_passes R p one (x ∷ xs) (y ∷ ys) all = both (p y) (list_all p ys) (one x y all.0) (zip_passes R p one xs ys all.1)

-- a relation of two values under other names
pub under_names : {A B : Type 0} (R : A → B → Type 0) (a a' : A) (b b' : B) → a ≡ a' → b ≡ b' → R a b → R a' b'
under_names R a a' b b' e f h = subst (R a') f (subst (λ x. R x b) e h)
