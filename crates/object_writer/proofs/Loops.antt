-- Adding bytes, and listing types, one after the other, as loops do.
use Rattle.std.proofs.Common.{◌≡◌, ℕ, suc, ◌+◌, ◌≤◌, ◌<◌, List, [], ◌∷◌, ◌++◌, length, drop, get_or, sym, ap, ◌∙◌, append_assoc, arith, length-append}
use Rattle.std.proofs.lemmas.List.{append-nil, drop_more, drop_all}
use Rattle.core_terms.specs.Types.{Ty}
use Rattle.std.specs.Prelude.{Result, Ok, Err}
use Rattle.object_writer.specs.Adding.{Adds, Hinders}
use Rattle.object_writer.specs.Numberings.{AreTooMany}
use Rattle.object_writer.specs.declared.fault.WriteFault.{WriteFault}
use Rattle.object_writer.specs.declared.fault.WriteFault.TheVariants.{TooLong, NoMemory}

-- Bytes in two parts: a fault of the first part, and one of the second behind it.
pub hinders_first : (old x y : List ℕ) (fault : WriteFault) → Hinders old x fault → Hinders old (x ++ y) fault
hinders_first old x y TooLong h = omega (arith, length-append x y, h)
hinders_first old x y NoMemory h = tt

pub hinders_then : (old x y mid : List ℕ) (fault : WriteFault) → mid ≡ old ++ x → Hinders mid y fault → Hinders old (x ++ y) fault
hinders_then old x y mid TooLong e h = omega (arith, length-append x y, length-append old x, ap length e, h)
hinders_then old x y mid NoMemory e h = tt

pub adds_then : {R : Type 0} (old x y mid new : List ℕ) (result : Result R WriteFault) → mid ≡ old ++ x → Adds mid y new result → Adds old (x ++ y) new result
adds_then old x y mid new (Ok r) e h = h ∙ ap (λ l. l ++ y) e ∙ append_assoc old x y
adds_then old x y mid new (Err fault) e h = hinders_then old x y mid fault e h

-- What a loop adds: at place i the bytes of the elements that are left are still to come.
module _ {A : Type 0} (F : ℕ → List A → List ℕ) (f : ℕ → A → List ℕ) (cons : (i : ℕ) (x : A) (xs : List A) → F i (x ∷ xs) ≡ f i x ++ F (suc i) xs) (none : (i : ℕ) → F i [] ≡ [])
    (xs : List A) (start now : List ℕ) (i : ℕ) (kept : now ++ F i (drop i xs) ≡ start ++ F 0 xs) where
  opened : (x d : A) → i < length xs → x ≡ get_or xs i d → now ++ (f i x ++ F (i + 1) (drop (i + 1) xs)) ≡ start ++ F 0 xs
  opened x d inside at =
      let here : drop i xs ≡ x ∷ drop (i + 1) xs = drop_more xs i d inside ∙ ap (λ y. y ∷ drop (i + 1) xs) (sym at) in
      let next : suc i ≡ i + 1 = omega arith in
      let e : F i (drop i xs) ≡ f i x ++ F (i + 1) (drop (i + 1) xs) = ap (F i) here ∙ cons i x (drop (i + 1) xs) ∙ ap (λ n. f i x ++ F n (drop (i + 1) xs)) next in
      ap (λ l. now ++ l) (sym e) ∙ kept

  pub goes_on : (x d : A) (new : List ℕ) → i < length xs → x ≡ get_or xs i d → new ≡ now ++ f i x → new ++ F (i + 1) (drop (i + 1) xs) ≡ start ++ F 0 xs
  goes_on x d new inside at added =
      ap (λ l. l ++ F (i + 1) (drop (i + 1) xs)) added ∙ append_assoc now (f i x) (F (i + 1) (drop (i + 1) xs)) ∙ opened x d inside at

  pub stops : (x d : A) (fault : WriteFault) → i < length xs → x ≡ get_or xs i d → Hinders now (f i x) fault → Hinders start (F 0 xs) fault
  stops x d TooLong inside at h =
      let rest = F (i + 1) (drop (i + 1) xs) in
      omega (arith, length-append now (f i x ++ rest), length-append (f i x) rest, length-append start (F 0 xs), ap length (opened x d inside at), h)
  stops x d NoMemory inside at h = tt

  pub is_done : length xs ≤ i → now ≡ start ++ F 0 xs
  is_done past = sym (append-nil now) ∙ ap (λ l. now ++ l) (sym (ap (F i) (drop_all i xs past) ∙ none i)) ∙ kept

-- What a loop lists: the elements that are left lead to the list of all.
module _ {A : Type 0} (W : List Ty → List A → List Ty) (step : List Ty → A → List Ty) (cons : (types : List Ty) (x : A) (xs : List A) → W types (x ∷ xs) ≡ W (step types x) xs)
    (none : (types : List Ty) → W types [] ≡ types) (grows : (types : List Ty) (xs : List A) → length types ≤ length (W types xs))
    (xs : List A) (total now : List Ty) (i : ℕ) (kept : W now (drop i xs) ≡ total) where
  walked : (x d : A) → i < length xs → x ≡ get_or xs i d → W (step now x) (drop (i + 1) xs) ≡ total
  walked x d inside at =
      let here : drop i xs ≡ x ∷ drop (i + 1) xs = drop_more xs i d inside ∙ ap (λ y. y ∷ drop (i + 1) xs) (sym at) in
      sym (cons now x (drop (i + 1) xs)) ∙ ap (W now) (sym here) ∙ kept

  pub lists_on : (x d : A) (new : List Ty) → i < length xs → x ≡ get_or xs i d → new ≡ step now x → W new (drop (i + 1) xs) ≡ total
  lists_on x d new inside at e = ap (λ l. W l (drop (i + 1) xs)) e ∙ walked x d inside at

  pub lists_no_more : (x d : A) (fault : WriteFault) → i < length xs → x ≡ get_or xs i d → AreTooMany (step now x) fault → AreTooMany total fault
  lists_no_more x d TooLong inside at h = omega (arith, grows (step now x) (drop (i + 1) xs), ap length (walked x d inside at), h)
  lists_no_more x d NoMemory inside at h = tt

  pub lists_all : length xs ≤ i → now ≡ total
  lists_all past = sym (ap (W now) (drop_all i xs past) ∙ none now) ∙ kept
