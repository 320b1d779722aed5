-- The numbers of entries among others.
use Rattle.std.proofs.Common.{◌≡◌, ◌⊎◌, inl, inr, ℕ, suc, ◌<◌, ◌≤◌, Bool, true, false, ◌||◌, List, [], ◌∷◌, ◌++◌, length, Some, slice_get, if◌then◌else◌, refl, sym, ap, ◌∙◌, arith, true≢false}
use Rattle.std.specs.Int.{w32, from_be_bytes, to_be_bytes}
use Rattle.std.proofs.lemmas.Nat.{from_be_bytes-to_be_bytes_4}
use Rattle.images.specs.Images.{Entry}
use Rattle.images.specs.SavedImages.{same_entry, is_entry_of, number_among}
use Rattle.images.proofs.SameEntries.{entry_sound, entry_self}
use Rattle.images.proofs.AmongEntries.{IsAmong, among_at, not_first, not_second}
use Rattle.images.proofs.SavingLists.{at_push}

pub number_within : (e : Entry) (xs : List Entry) → IsAmong xs e → number_among xs e < length xs
number_within e [] h = absurd (true≢false (sym h))
number_within e (x ∷ xs) h = by (same_entry x e) h (λ g. number_within e xs g)
  where
    by : (b : Bool) → (b || is_entry_of e xs) ≡ true → (IsAmong xs e → number_among xs e < length xs)
        → (if b then 0 else suc (number_among xs e)) < suc (length xs)
    by true h rest = omega arith
    by false h rest = let k = rest h in omega arith

pub entry_numbered : (e : Entry) (xs : List Entry) → IsAmong xs e → slice_get xs (number_among xs e) ≡ Some e
entry_numbered e [] h = absurd (true≢false (sym h))
entry_numbered e (x ∷ xs) h = by (same_entry x e) refl h (λ g. entry_numbered e xs g)
  where
    by : (b : Bool) → same_entry x e ≡ b → (b || is_entry_of e xs) ≡ true → (IsAmong xs e → slice_get xs (number_among xs e) ≡ Some e)
        → slice_get (x ∷ xs) (if b then 0 else suc (number_among xs e)) ≡ Some e
    by true s h rest = ap Some (entry_sound x e s)
    by false s h rest = rest h

-- the number in 4 bytes, read again
pub number_again : (e : Entry) (xs : List Entry) → length xs ≤ 4294967296 → IsAmong xs e → from_be_bytes w32 (to_be_bytes w32 (number_among xs e)) ≡ number_among xs e
number_again e xs few h = from_be_bytes-to_be_bytes_4 (number_among xs e) (let k = number_within e xs h in omega (arith, k, few))

pub number_more : (e : Entry) (xs ys : List Entry) → IsAmong xs e → number_among (xs ++ ys) e ≡ number_among xs e
number_more e [] ys h = absurd (true≢false (sym h))
number_more e (x ∷ xs) ys h = by (same_entry x e) h (λ g. number_more e xs ys g)
  where
    by : (b : Bool) → (b || is_entry_of e xs) ≡ true → (IsAmong xs e → number_among (xs ++ ys) e ≡ number_among xs e)
        → (if b then 0 else suc (number_among (xs ++ ys) e)) ≡ (if b then 0 else suc (number_among xs e))
    by true h rest = refl
    by false h rest = ap suc (rest h)

pub number_new : (e : Entry) (xs : List Entry) → is_entry_of e xs ≡ false → number_among (xs ++ e ∷ []) e ≡ length xs
number_new e [] h = ap (λ b. if b then 0 else 1) (entry_self e)
number_new e (x ∷ xs) h =
    ap (λ b. if b then 0 else suc (number_among (xs ++ e ∷ []) e)) (not_first (same_entry x e) _ h) ∙ ap suc (number_new e xs (not_second (same_entry x e) _ h))

-- each stands once
abbrev pub AreOnce : List Entry → Type 0
AreOnce xs = (i : ℕ) (e : Entry) → slice_get xs i ≡ Some e → number_among xs e ≡ i

pub once_more : (done : List Entry) (e : Entry) → AreOnce done → is_entry_of e done ≡ false → AreOnce (done ++ e ∷ [])
once_more done e once new i x h = by (at_push done e i x h)
  where
    by : (slice_get done i ≡ Some x) ⊎ ((i ≡ length done) × (e ≡ x)) → number_among (done ++ e ∷ []) x ≡ i
    by (inl at) = number_more x done (e ∷ []) (among_at x done i at) ∙ once i x at
    by (inr s) = ap (number_among (done ++ e ∷ [])) (sym s.1) ∙ number_new e done new ∙ sym s.0
