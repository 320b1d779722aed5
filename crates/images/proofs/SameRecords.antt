-- The test of two records of the code says whether they are the same.
use Rattle.std.proofs.Common.{◌≡◌, ◌≢◌, ℕ, zero, suc, true, false, List, [], ◌∷◌, ◌++◌, map, Some, slice_get, slice_index_or, if◌then◌else◌, refl, sym, ap, ◌∙◌, append_assoc, true≢false}
use Rattle.std.proofs.lemmas.List.{append-nil}
use Rattle.std.proofs.lemmas.Slice.Eq.{bytes_eq-Decides}
use Rattle.std.proofs.lemmas.Option.{slice_get-get_or}
use Rattle.std.proofs.lemmas.List.Quantifiers.{position-Some}
use Rattle.std.specs.List.{list_any, position}
use Rattle.indexmap.specs.IndexSet.{insert_key}
use Rattle.images.specs.contracts.save.record.RecordPartialEq.TheImpl.{eq-value}
use Rattle.images.specs.FormRecords.{bytes_of, joined}
use Rattle.images.specs.declared.save.record.Record.{Record}
use Rattle.images.proofs.AmongEntries.{not_first, not_second}

record_self : (a b : Record) → bytes_of a ≡ bytes_of b → eq-value.it a b ≡ true
record_self a b h = (bytes_eq-Decides (bytes_of a) (bytes_of b)).1 h

record_sound : (a b : Record) → eq-value.it a b ≡ true → bytes_of a ≡ bytes_of b
record_sound a b h = (bytes_eq-Decides (bytes_of a) (bytes_of b)).0 h

bytes_at : (keys : List Record) (i : ℕ) (key : Record) → slice_get keys i ≡ Some key → slice_get (map bytes_of keys) i ≡ Some (bytes_of key)
bytes_at [] i key h = absurd (cc)
bytes_at (x ∷ xs) zero key h = let same : x ≡ key = cc in ap (λ x. Some (bytes_of x)) same
bytes_at (x ∷ xs) (suc i) key h = bytes_at xs i key h

-- a record that the test finds the same is the same
pub same_at : (keys : List Record) (found key : Record) (i : ℕ) → slice_get keys i ≡ Some key → eq-value.it found key ≡ true → slice_get (map bytes_of keys) i ≡ Some (bytes_of found)
same_at keys found key i at h = bytes_at keys i key at ∙ ap Some (sym (record_sound found key h))

-- the record at the first place where the test says yes
pub placed : (keys : List Record) (found : Record) (place : ℕ) → position (eq-value.it found) keys ≡ Some place → slice_get (map bytes_of keys) place ≡ Some (bytes_of found)
placed keys found place h =
    let there = position-Some (eq-value.it found) keys place found h in
    same_at keys found (slice_index_or keys place found) place (slice_get-get_or keys place found there.0) there.1

-- a record that is equal to none of these is none of them
pub absent : (keys : List Record) (found : Record) → list_any (eq-value.it found) keys ≡ false → (i : ℕ) → slice_get (map bytes_of keys) i ≢ Some (bytes_of found)
absent [] found h i at = absurd (cc)
absent (key ∷ keys) found h zero at =
    let same : bytes_of key ≡ bytes_of found = cc in
    true≢false (sym (record_self found key (sym same)) ∙ not_first (eq-value.it found key) _ h)
absent (key ∷ keys) found h (suc i) at = absent keys found (not_second (eq-value.it found key) _ h) i at

map-push : (keys : List Record) (found : Record) → map bytes_of (keys ++ found ∷ []) ≡ map bytes_of keys ++ bytes_of found ∷ []
map-push [] found = refl
map-push (key ∷ keys) found = ap (λ xs. bytes_of key ∷ xs) (map-push keys found)

-- it is added behind the others
pub added : (keys : List Record) (found : Record) → list_any (eq-value.it found) keys ≡ false → map bytes_of (insert_key eq-value.it keys found) ≡ map bytes_of keys ++ bytes_of found ∷ []
added keys found h = ap (λ b. map bytes_of (if b then keys else keys ++ found ∷ [])) h ∙ map-push keys found

pub joined_push : (ss : List (List ℕ)) (s : List ℕ) → joined (ss ++ s ∷ []) ≡ joined ss ++ s
joined_push [] s = append-nil s
joined_push (r ∷ ss) s = ap (λ bytes. r ++ bytes) (joined_push ss s) ∙ sym (append_assoc r (joined ss) s)
