-- What the names of functions and constructors stand for is there.
use Rattle.std.proofs.Common.{◌≡◌, ℕ, zero, suc, ◌+◌, ◌<◌, Bool, true, false, List, [], ◌∷◌, length, map, Option, Some, None, option_map, slice_get, unwrap_or, bytes_eq, if◌then◌else◌, refl, sym, ap, ◌∙◌, subst, arith}
use Rattle.core_terms.specs.Types.{Ty, Table, fields_at}
use Rattle.declared_types.specs.WrittenTypes.{number_of}
use Rattle.declared_types.specs.Signatures.{Numbered, Signature, constructor_named, function_named, tag_in}

-- the place of a name is that of one of the names
pub number_within : (names : List (List ℕ)) (name : List ℕ) (i : ℕ) → number_of names name ≡ Some i → i < length names
number_within [] name i is = absurd (cc)
number_within (other ∷ names) name i is = by (bytes_eq other name) (number_of names name) (λ j e. number_within names name j e) is
  where
    by : (b : Bool) (o : Option ℕ) → ((j : ℕ) → o ≡ Some j → j < length names) → (if b then Some 0 else option_map suc o) ≡ Some i
        → i < suc (length names)
    by true o inside is = let same : 0 ≡ i = cc in omega (arith, same)
    by false (Some j) inside is = let same : suc j ≡ i = cc in omega (arith, inside j refl, same)
    by false None inside is = absurd (cc)

-- a function that is found stands at its number, behind n others
pub function_there : (n : ℕ) (fs : List Signature) (name : List ℕ) (f : Numbered Signature) → function_named n fs name ≡ Some f → (k : ℕ)
    × (f.number ≡ n + k) × (slice_get fs k ≡ Some f.value)
function_there n [] name f is = absurd (cc)
function_there n (g ∷ fs) name f is = by (bytes_eq g.name name) (function_named (n + 1) fs name) (λ e. function_there (n + 1) fs name f e) is
  where
    by : (b : Bool) (o : Option (Numbered Signature)) → (o ≡ Some f → (k : ℕ) × (f.number ≡ (n + 1) + k) × (slice_get fs k ≡ Some f.value))
        → (if b then Some (record { number = n; value = g }) else o) ≡ Some f → (k : ℕ) × (f.number ≡ n + k) × (slice_get (g ∷ fs) k ≡ Some f.value)
    by true o later is =
        let same : record { number = n; value = g } ≡ f = cc in
        (zero, sym (ap (λ (f : Numbered Signature). f.number) same) ∙ omega arith, ap (λ (f : Numbered Signature). Some f.value) same)
    by false o later is = let (k, number, there) = later is in (suc k, omega (arith, number), there)

-- as many of each
abbrev pub AsMany : {A B : Type 0} → List (List A) → List (List B) → Type 0
AsMany xs ys = map (λ x. length x) xs ≡ map (λ y. length y) ys

-- there are as many constructors as rows of the table
pub as_many_at : {A B : Type 0} (xs : List (List A)) (ys : List (List B)) (k : ℕ) → AsMany xs ys
    → length (unwrap_or (slice_get xs k) []) ≡ length (unwrap_or (slice_get ys k) [])
as_many_at [] [] k same = refl
as_many_at [] (y ∷ ys) k same = absurd (cc)
as_many_at (x ∷ xs) [] k same = absurd (cc)
as_many_at (x ∷ xs) (y ∷ ys) zero same = cc
as_many_at (x ∷ xs) (y ∷ ys) (suc k) same = as_many_at xs ys k (cc)

-- an element within is there
pub there_within : {A : Type 0} (xs : List A) (k : ℕ) → k < length xs → (x : A) × (slice_get xs k ≡ Some x)
there_within [] k inside = absurd (omega (arith, inside))
there_within (x ∷ xs) zero inside = (x, refl)
there_within (x ∷ xs) (suc k) inside = there_within xs k (omega (arith, inside))

-- a constructor that is found has fields in the table, where its type stands behind n others
pub constructor_there : (n : ℕ) (names : List (List (List ℕ))) (table : Table) (name : List ℕ) (c : Numbered ℕ) → AsMany names table
    → constructor_named n names name ≡ Some c
    → (k : ℕ) × (c.number ≡ n + k) × ((ts : List Ty) × (fields_at table k c.value ≡ Some ts))
constructor_there n [] table name c same is = absurd (cc)
constructor_there n (x ∷ names) [] name c same is = absurd (cc)
constructor_there n (x ∷ names) (row ∷ table) name c same is =
    by (number_of x name) (constructor_named (n + 1) names name) refl (λ e. constructor_there (n + 1) names table name c (cc) e) is
  where
    by : (tag : Option ℕ) (o : Option (Numbered ℕ)) → number_of x name ≡ tag
        → (o ≡ Some c → (k : ℕ) × (c.number ≡ (n + 1) + k) × ((ts : List Ty) × (fields_at table k c.value ≡ Some ts)))
        → tag_in n tag o ≡ Some c → (k : ℕ) × (c.number ≡ n + k) × ((ts : List Ty) × (fields_at (row ∷ table) k c.value ≡ Some ts))
    by (Some tag) o found later is =
        let here : record { number = n; value = tag } ≡ c = cc in
        let rows : length x ≡ length row = cc in
        let (ts, there) = there_within row tag (omega (arith, number_within x name tag found, rows)) in (
          zero,
          sym (ap (λ (c : Numbered ℕ). c.number) here) ∙ omega arith,
          (ts, subst (λ (c : Numbered ℕ). slice_get row c.value ≡ Some ts) here there),
        )
    by None o found later is = let (k, number, there) = later is in (suc k, omega (arith, number), there)
