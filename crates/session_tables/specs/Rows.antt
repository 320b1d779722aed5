-- Entries as rows of a table of the definitions.
use Rattle.std.specs.Prelude.{◌≡◌, ℕ, ◌+◌, ◌<◌, ◌≤◌, Bool, true, false, if◌then◌else◌, List, [], ◌∷◌, length, map, nat_lt, Some, slice_get, slice_index, Result, Ok, Err}
use Rattle.session_meaning.specs.Tables.{Numbered}
use Rattle.session_tables.specs.declared.table.Entry.{Entry}

abbrev pub row_of : {A : Type 0} → Entry A → Numbered A
row_of e = record { number = e.number; value = e.value }

abbrev pub rows_in : {A : Type 0} → List (Entry A) → List (Numbered A)
rows_in entries = map row_of entries

abbrev pub numbers_in : {A : Type 0} → List (Entry A) → List ℕ
numbers_in entries = map (λ e. e.number) entries

-- the numbers ascend from one that is at least `least`, as a test
abbrev pub ascends : {A : Type 0} → (least : ℕ) → List (Numbered A) → Bool
ascends least [] = true
ascends least (x ∷ xs) = if nat_lt x.number least then false else ascends (1 + x.number) xs

-- The entry at the place has the number, or none has it and this is the place for it: all numbers before it are less, and the
-- one at it, if there is one, is greater.
abbrev pub IsPlaceOf : {A : Type 0} → ℕ → List (Entry A) → Result ℕ ℕ → Type 0
IsPlaceOf number entries (Ok place) =
    (place < length entries) × (slice_get (numbers_in entries) place ≡ Some number)
    × ((k : ℕ) → k < place → slice_index (numbers_in entries) k < number)
IsPlaceOf number entries (Err place) =
    (place ≤ length entries) × (place < length entries → number < slice_index (numbers_in entries) place)
    × ((k : ℕ) → k < place → slice_index (numbers_in entries) k < number)
