-- A vector of entries, as a table.
use Rattle.std.proofs.Common.{◌≡◌, ℕ, zero, suc, ◌+◌, ◌<◌, ◌≤◌, true, false, List, [], ◌∷◌, length, get_or, Some, None, slice_get, slice_set, Result, Ok, Err, nat_eq, if◌then◌else◌, refl, sym, ap, ◌∙◌, subst, arith}
use Rattle.std.specs.List.{insert, remove as remove_at}
use Rattle.std.specs.Result.{is_ok}
use Rattle.std.proofs.lemmas.Bool.{false≢true}
use Rattle.session_meaning.specs.Tables.{Numbered, Ascend, find, put, remove}
use Rattle.session_meaning.proofs.TableFacts.{same_or_not, less_or_not, ascend_none, ascend_put, ascend_remove}
use Rattle.session_tables.specs.Rows.{IsPlaceOf, ascends, numbers_in, row_of, rows_in}
use Rattle.session_tables.specs.declared.table.Entry.{Entry}

-- THE TEST OF ASCENDING NUMBERS
pub to_ascend : {A : Type 0} (least : ℕ) (xs : List (Numbered A)) → ascends least xs ≡ true → Ascend least xs
to_ascend least [] e = tt
to_ascend least (x ∷ xs) e =
    less_or_not (λ t. (if t then false else ascends (1 + x.number) xs) ≡ true → Ascend least (x ∷ xs)) x.number least
    (λ l q. absurd (false≢true q)) (λ l q. (l, to_ascend (1 + x.number) xs q)) e

pub from_ascend : {A : Type 0} (least : ℕ) (xs : List (Numbered A)) → Ascend least xs → ascends least xs ≡ true
from_ascend least [] h = refl
from_ascend least (x ∷ xs) h =
    less_or_not (λ t. (if t then false else ascends (1 + x.number) xs) ≡ true) x.number least
    (λ l. absurd (omega (arith, h.0))) (λ l. from_ascend (1 + x.number) xs h.1)

number_of_some : (a b : ℕ) → Some a ≡ Some b → a ≡ b
number_of_some a b e = cc

module _ {A : Type 0} where
  -- the numbers before a place are less than one
  abbrev pub Before : ℕ → List (Entry A) → ℕ → Type 0
  Before n es place = (k : ℕ) → k < place → get_or (numbers_in es) k 0 < n

  -- the number at a place, and the value
  pub number_at : (es : List (Entry A)) (place : ℕ) (d : Entry A) → place < length es → get_or (numbers_in es) place 0 ≡ (get_or es place d).number
  number_at [] place d l = absurd (omega arith)
  number_at (x ∷ es) zero d l = refl
  number_at (x ∷ es) (suc place) d l = number_at es place d (omega arith)

  pub number_there : (es : List (Entry A)) (place : ℕ) (d : Entry A) → place < length es → slice_get (numbers_in es) place ≡ Some (get_or es place d).number
  number_there [] place d l = absurd (omega arith)
  number_there (x ∷ es) zero d l = refl
  number_there (x ∷ es) (suc place) d l = number_there es place d (omega arith)

  -- the place among entries that are lent
  pub place_in : (n : ℕ) (lent es : List (Entry A)) (found place : Result ℕ ℕ) → lent ≡ es → found ≡ place → IsPlaceOf n lent found → IsPlaceOf n es place
  place_in n lent es found place e q h = subst (λ xs. IsPlaceOf n xs place) e (subst (IsPlaceOf n lent) q h)

  -- one entry more is passed
  pub before_more : (n : ℕ) (es : List (Entry A)) (place : ℕ) (d : Entry A) → place < length es → (get_or es place d).number < n → Before n es place
      → Before n es (place + 1)
  before_more n es place d l less h k m =
      less_or_not (λ t. get_or (numbers_in es) k 0 < n) k place (λ b. h k b)
      (λ b. let e : k ≡ place = omega arith in
      subst (λ i. get_or (numbers_in es) i 0 < n) (sym e) (subst (λ m. m < n) (sym (number_at es place d l)) less))

  later : (n : ℕ) (x : Entry A) (es : List (Entry A)) (place : ℕ) → Before n (x ∷ es) (suc place) → Before n es place
  later n x es place h k l = h (suc k) (omega arith)

  first : (n : ℕ) (x : Entry A) (es : List (Entry A)) (place : ℕ) → Before n (x ∷ es) (suc place) → x.number < n
  first n x es place h = h zero (omega arith)

  -- past a row whose number is less
  past_find : (n : ℕ) (x : Numbered A) (xs : List (Numbered A)) → x.number < n → find n (x ∷ xs) ≡ find n xs
  past_find n x xs l =
      same_or_not (λ t. (if t then Some x.value else find n xs) ≡ find n xs) x.number n (λ e. absurd (omega arith)) (λ e. refl)

  past_put : (n : ℕ) (a : A) (x : Numbered A) (xs : List (Numbered A)) → x.number < n → put n a (x ∷ xs) ≡ x ∷ put n a xs
  past_put n a x xs l =
      less_or_not (λ t. (if t then record { number = n; value = a } ∷ x ∷ xs
      else (if nat_eq x.number n then record { number = n; value = a } ∷ xs else x ∷ put n a xs)) ≡ x ∷ put n a xs) n x.number
      (λ m. absurd (omega arith))
      (λ m. same_or_not (λ t. (if t then record { number = n; value = a } ∷ xs else x ∷ put n a xs) ≡ x ∷ put n a xs) x.number n
      (λ e. absurd (omega arith)) (λ e. refl))

  past_remove : (n : ℕ) (x : Numbered A) (xs : List (Numbered A)) → x.number < n → remove n (x ∷ xs) ≡ x ∷ remove n xs
  past_remove n x xs l =
      same_or_not (λ t. (if t then remove n xs else x ∷ remove n xs) ≡ x ∷ remove n xs) x.number n (λ e. absurd (omega arith)) (λ e. refl)

  -- nothing has a number that is less than all
  none_removed : (least n : ℕ) (xs : List (Numbered A)) → n < least → Ascend least xs → remove n xs ≡ xs
  none_removed least n [] l h = refl
  none_removed least n (x ∷ xs) l h =
      same_or_not (λ t. (if t then remove n xs else x ∷ remove n xs) ≡ x ∷ xs) x.number n (λ e. absurd (omega (arith, h.0)))
      (λ e. ap (λ r. x ∷ r) (none_removed (1 + x.number) n xs (omega (arith, h.0)) h.1))

  -- what is put before all, and in the place of the first row
  put_first : (least n : ℕ) (a : A) (xs : List (Numbered A)) → n < least → Ascend least xs → put n a xs ≡ record { number = n; value = a } ∷ xs
  put_first least n a [] l h = refl
  put_first least n a (x ∷ xs) l h =
      less_or_not (λ t. (if t then record { number = n; value = a } ∷ x ∷ xs
      else (if nat_eq x.number n then record { number = n; value = a } ∷ xs else x ∷ put n a xs)) ≡ record { number = n; value = a } ∷ x ∷ xs) n x.number
      (λ m. refl) (λ m. absurd (omega (arith, h.0)))

  put_same : (n : ℕ) (a : A) (x : Numbered A) (xs : List (Numbered A)) → x.number ≡ n → put n a (x ∷ xs) ≡ record { number = n; value = a } ∷ xs
  put_same n a x xs q =
      less_or_not (λ t. (if t then record { number = n; value = a } ∷ x ∷ xs
      else (if nat_eq x.number n then record { number = n; value = a } ∷ xs else x ∷ put n a xs)) ≡ record { number = n; value = a } ∷ xs) n x.number
      (λ m. absurd (omega arith))
      (λ m. same_or_not (λ t. (if t then record { number = n; value = a } ∷ xs else x ∷ put n a xs) ≡ record { number = n; value = a } ∷ xs) x.number n
      (λ r. refl) (λ r. absurd (r q)))

  remove_first : (n : ℕ) (x : Numbered A) (xs : List (Numbered A)) → x.number ≡ n → Ascend (1 + x.number) xs → remove n (x ∷ xs) ≡ xs
  remove_first n x xs q h =
      same_or_not (λ t. (if t then remove n xs else x ∷ remove n xs) ≡ xs) x.number n
      (λ r. none_removed (1 + x.number) n xs (omega arith) h) (λ r. absurd (r q))

  -- what is put under a number is put in the place of what stood there
  pub put_removed : (least n : ℕ) (a : A) (xs : List (Numbered A)) → Ascend least xs → put n a (remove n xs) ≡ put n a xs
  put_removed least n a [] h = refl
  put_removed least n a (x ∷ xs) h =
      less_or_not (λ t. put n a (remove n (x ∷ xs)) ≡ put n a (x ∷ xs)) x.number n
      (λ l. ap (put n a) (past_remove n x xs l) ∙ past_put n a x (remove n xs) l
      ∙ ap (λ r. x ∷ r) (put_removed (1 + x.number) n a xs h.1) ∙ sym (past_put n a x xs l))
      (λ l. same_or_not (λ t. put n a (remove n (x ∷ xs)) ≡ put n a (x ∷ xs)) x.number n
      (λ q. ap (put n a) (remove_first n x xs q h.1) ∙ put_first (1 + x.number) n a xs (omega arith) h.1 ∙ sym (put_same n a x xs q))
      (λ d. ap (put n a) (none_removed x.number n (x ∷ xs) (omega arith) (omega arith, h.1))))

  -- THE ENTRY AT A PLACE HAS THE NUMBER
  pub find_there : (n : ℕ) (es : List (Entry A)) (place : ℕ) (d : Entry A) → slice_get (numbers_in es) place ≡ Some n → Before n es place
      → find n (rows_in es) ≡ Some (get_or es place d).value
  find_there n [] place d e h = absurd (cc)
  find_there n (x ∷ es) zero d e h =
      same_or_not (λ t. (if t then Some x.value else find n (rows_in es)) ≡ Some x.value) x.number n (λ q. refl)
      (λ q. absurd (q (number_of_some x.number n e)))
  find_there n (x ∷ es) (suc place) d e h =
      past_find n (row_of x) (rows_in es) (first n x es place h) ∙ find_there n es place d e (later n x es place h)

  pub put_there : (n : ℕ) (a : A) (es : List (Entry A)) (place : ℕ) → slice_get (numbers_in es) place ≡ Some n → Before n es place
      → rows_in (slice_set es place (record { number = n; value = a })) ≡ put n a (rows_in es)
  put_there n a [] place e h = absurd (cc)
  put_there n a (x ∷ es) zero e h =
      let q : x.number ≡ n = number_of_some x.number n e in
      less_or_not (λ t. record { number = n; value = a } ∷ rows_in es ≡ (if t then record { number = n; value = a } ∷ row_of x ∷ rows_in es
      else (if nat_eq x.number n then record { number = n; value = a } ∷ rows_in es else row_of x ∷ put n a (rows_in es)))) n x.number
      (λ m. absurd (omega arith))
      (λ m. same_or_not (λ t. record { number = n; value = a } ∷ rows_in es
      ≡ (if t then record { number = n; value = a } ∷ rows_in es else row_of x ∷ put n a (rows_in es))) x.number n (λ r. refl) (λ r. absurd (r q)))
  put_there n a (x ∷ es) (suc place) e h =
      ap (λ r. row_of x ∷ r) (put_there n a es place e (later n x es place h)) ∙ sym (past_put n a (row_of x) (rows_in es) (first n x es place h))

  pub removed_there : (least n : ℕ) (es : List (Entry A)) (place : ℕ) → slice_get (numbers_in es) place ≡ Some n → Before n es place
      → Ascend least (rows_in es) → rows_in (remove_at es place) ≡ remove n (rows_in es)
  removed_there least n [] place e h s = absurd (cc)
  removed_there least n (x ∷ es) zero e h s =
      let q : x.number ≡ n = number_of_some x.number n e in
      same_or_not (λ t. rows_in es ≡ (if t then remove n (rows_in es) else row_of x ∷ remove n (rows_in es))) x.number n
      (λ r. sym (none_removed (1 + x.number) n (rows_in es) (omega arith) s.1)) (λ r. absurd (r q))
  removed_there least n (x ∷ es) (suc place) e h s =
      ap (λ r. row_of x ∷ r) (removed_there (1 + x.number) n es place e (later n x es place h) s.1)
      ∙ sym (past_remove n (row_of x) (rows_in es) (first n x es place h))

  pub removed_from : (n : ℕ) (es new : List (Entry A)) (place : ℕ) → new ≡ remove_at es place → slice_get (numbers_in es) place ≡ Some n
      → Before n es place → ascends 0 (rows_in es) ≡ true → rows_in new ≡ remove n (rows_in es)
  removed_from n es new place q e h s =
      ap (λ (xs : List (Entry A)). rows_in xs) q ∙ removed_there 0 n es place e h (to_ascend 0 (rows_in es) s)

  -- NO ENTRY HAS THE NUMBER
  pub find_none : (least n : ℕ) (es : List (Entry A)) (place : ℕ) → (place < length es → n < get_or (numbers_in es) place 0) → Before n es place
      → place ≤ length es → Ascend least (rows_in es) → find n (rows_in es) ≡ None
  find_none least n [] place m h l s = refl
  find_none least n (x ∷ es) zero m h l s =
      let less : n < x.number = m (omega arith) in
      same_or_not (λ t. (if t then Some x.value else find n (rows_in es)) ≡ None) x.number n (λ e. absurd (omega arith))
      (λ e. ascend_none (1 + x.number) n (rows_in es) (omega arith) s.1)
  find_none least n (x ∷ es) (suc place) m h l s =
      past_find n (row_of x) (rows_in es) (first n x es place h)
      ∙ find_none (1 + x.number) n es place (λ k. m (omega arith)) (later n x es place h) (omega arith) s.1

  pub none_there : (least n : ℕ) (es : List (Entry A)) (place : ℕ) → (place < length es → n < get_or (numbers_in es) place 0) → Before n es place
      → place ≤ length es → Ascend least (rows_in es) → rows_in es ≡ remove n (rows_in es)
  none_there least n [] place m h l s = refl
  none_there least n (x ∷ es) zero m h l s =
      let less : n < x.number = m (omega arith) in sym (none_removed x.number n (rows_in (x ∷ es)) less (omega arith, s.1))
  none_there least n (x ∷ es) (suc place) m h l s =
      ap (λ r. row_of x ∷ r) (none_there (1 + x.number) n es place (λ k. m (omega arith)) (later n x es place h) (omega arith) s.1)
      ∙ sym (past_remove n (row_of x) (rows_in es) (first n x es place h))

  pub put_new : (n : ℕ) (a : A) (es : List (Entry A)) (place : ℕ) → (place < length es → n < get_or (numbers_in es) place 0) → Before n es place
      → place ≤ length es → rows_in (insert es place (record { number = n; value = a })) ≡ put n a (rows_in es)
  put_new n a [] zero m h l = refl
  put_new n a [] (suc place) m h l = absurd (omega arith)
  put_new n a (x ∷ es) zero m h l =
      let less : n < x.number = m (omega arith) in
      less_or_not (λ t. record { number = n; value = a } ∷ row_of x ∷ rows_in es ≡ (if t then record { number = n; value = a } ∷ row_of x ∷ rows_in es
      else (if nat_eq x.number n then record { number = n; value = a } ∷ rows_in es else row_of x ∷ put n a (rows_in es)))) n x.number
      (λ k. refl) (λ k. absurd (omega arith))
  put_new n a (x ∷ es) (suc place) m h l =
      ap (λ r. row_of x ∷ r) (put_new n a es place (λ k. m (omega arith)) (later n x es place h) (omega arith))
      ∙ sym (past_put n a (row_of x) (rows_in es) (first n x es place h))

  pub put_in : (n : ℕ) (a : A) (es new : List (Entry A)) (place : ℕ) → new ≡ insert es place (record { number = n; value = a })
      → (place < length es → n < get_or (numbers_in es) place 0) → Before n es place → place ≤ length es → rows_in new ≡ put n a (rows_in es)
  put_in n a es new place q m h l = ap (λ (xs : List (Entry A)). rows_in xs) q ∙ put_new n a es place m h l

-- THE NUMBERS ASCEND BEHIND A CHANGE
pub ascends_put : {A : Type 0} (n : ℕ) (a : A) (xs : List (Numbered A)) → ascends 0 xs ≡ true → ascends 0 (put n a xs) ≡ true
ascends_put n a xs e = from_ascend 0 (put n a xs) (ascend_put 0 n a xs (omega arith) (to_ascend 0 xs e))

pub ascends_remove : {A : Type 0} (n : ℕ) (xs : List (Numbered A)) → ascends 0 xs ≡ true → ascends 0 (remove n xs) ≡ true
ascends_remove n xs e = from_ascend 0 (remove n xs) (ascend_remove 0 n xs (to_ascend 0 xs e))

-- an entry more, or none where memory is wanting
module _ {A T E : Type 0} where
  pub ascends_in : (n : ℕ) (a : A) (es new : List (Entry A)) (place : ℕ) (result : Result T E)
      → new ≡ (if is_ok result then insert es place (record { number = n; value = a }) else es) → (place < length es → n < get_or (numbers_in es) place 0)
      → Before n es place → place ≤ length es → ascends 0 (rows_in es) ≡ true → ascends 0 (rows_in new) ≡ true
  ascends_in n a es new place (Ok t) q m h l s =
      subst (λ (rs : List (Numbered A)). ascends 0 rs ≡ true) (sym (put_in n a es new place q m h l)) (ascends_put n a (rows_in es) s)
  ascends_in n a es new place (Err e) q m h l s = subst (λ (xs : List (Entry A)). ascends 0 (rows_in xs) ≡ true) (sym q) s
