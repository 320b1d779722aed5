-- Entries, each once where it first stands.
use Rattle.std.proofs.Common.{◌≡◌, Bool, true, false, List, [], ◌∷◌, ◌++◌, if◌then◌else◌, refl, sym, ap, ◌∙◌, append_assoc, true≢false}
use Rattle.std.specs.List.{All}
use Rattle.std.proofs.lemmas.List.{append-nil}
use Rattle.std.proofs.lemmas.List.Elements.{All-head, All-nil, All-push, All-tail}
use Rattle.images.specs.Images.{Entry}
use Rattle.images.specs.SavedImages.{is_entry_of, distinct}
use Rattle.images.proofs.AmongEntries.{IsAmong, AreAmong, all_among, are_all, are_behind}

-- what is there already adds nothing
pub distinct_known : (done xs ys : List Entry) → AreAmong done xs → distinct done (xs ++ ys) ≡ distinct done ys
distinct_known done [] ys h = refl
distinct_known done (x ∷ xs) ys h =
    ap (λ b. distinct (if b then done else done ++ x ∷ []) (xs ++ ys)) h.0 ∙ distinct_known done xs ys h.1

pub distinct_there : (done : List Entry) (e : Entry) (ys : List Entry) → is_entry_of e done ≡ true → distinct done (e ∷ ys) ≡ distinct done ys
distinct_there done e ys h = ap (λ b. distinct (if b then done else done ++ e ∷ []) ys) h

pub distinct_new : (done : List Entry) (e : Entry) (ys : List Entry) → is_entry_of e done ≡ false → distinct done (e ∷ ys) ≡ distinct (done ++ e ∷ []) ys
distinct_new done e ys h = ap (λ b. distinct (if b then done else done ++ e ∷ []) ys) h

-- what is there already stays, and more may stand behind it
pub distinct_grows : (done xs : List Entry) → (more : List Entry) × (distinct done xs ≡ done ++ more)
distinct_grows done [] = ([], sym (append-nil done))
distinct_grows done (x ∷ xs) = by (is_entry_of x done) (λ front. distinct_grows front xs)
  where
    by : (b : Bool) → ((front : List Entry) → (more : List Entry) × (distinct front xs ≡ front ++ more))
        → (more : List Entry) × (distinct (if b then done else done ++ x ∷ []) xs ≡ done ++ more)
    by true rest = rest done
    by false rest = let grown = rest (done ++ x ∷ []) in (x ∷ grown.0, grown.1 ∙ append_assoc done (x ∷ []) grown.0)

-- what holds of each holds of each that is kept
pub all_distinct : (Holds : Entry → Type 0) (done xs : List Entry) → All Holds done → All Holds xs → All Holds (distinct done xs)
all_distinct Holds done [] h j = h
all_distinct Holds done (x ∷ xs) h j = by (is_entry_of x done) (λ front g. all_distinct Holds front xs g (All-tail Holds x xs j))
  where
    by : (b : Bool) → ((front : List Entry) → All Holds front → All Holds (distinct front xs)) → All Holds (distinct (if b then done else done ++ x ∷ []) xs)
    by true rest = rest done h
    by false rest = rest (done ++ x ∷ []) (All-push Holds done x h (All-head Holds x xs j))

pub distinct_append : (done xs ys : List Entry) → distinct done (xs ++ ys) ≡ distinct (distinct done xs) ys
distinct_append done [] ys = refl
distinct_append done (x ∷ xs) ys = distinct_append (if is_entry_of x done then done else done ++ x ∷ []) xs ys

-- what isn't among these isn't among those of them that are kept
pub distinct_without : (xs : List Entry) (e : Entry) → is_entry_of e xs ≡ false → is_entry_of e (distinct [] xs) ≡ false
distinct_without xs e h = by (is_entry_of e (distinct [] xs)) refl
  where
    kept : All (IsAmong xs) (distinct [] xs)
    kept = all_distinct (IsAmong xs) [] xs (All-nil (IsAmong xs)) (are_all xs xs (are_behind [] xs))

    by : (b : Bool) → is_entry_of e (distinct [] xs) ≡ b → b ≡ false
    by true g = absurd (true≢false (sym (all_among (IsAmong xs) (distinct [] xs) e kept g) ∙ h))
    by false g = refl
