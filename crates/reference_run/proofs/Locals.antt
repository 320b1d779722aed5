-- Elements that are there, and locals by number.
use Rattle.std.proofs.Common.{◌≡◌, ℕ, zero, suc, ◌<◌, ◌≤◌, List, [], ◌∷◌, length, slice_get, slice_index_or, Option, Some, None, refl, sym, ap, ◌∙◌, arith}
use Rattle.std.specs.Borrow.{Bor}
use Rattle.std.specs.Slice.{IsItemAt}
use Rattle.std.proofs.lemmas.Option.{slice_get-get_or}
use Rattle.core_terms.specs.Values.{UnitV}
use Rattle.ideal_meaning.specs.Run.{local}
use Rattle.reference_run.specs.PlainValues.{plain_of, plains_of}
use Rattle.reference_run.specs.declared.values.Plain.{Plain}

pub found : {A : Type 0} (xs : List A) (n : ℕ) (x : A) → n < length xs → x ≡ slice_index_or xs n x → slice_get xs n ≡ Some x
found xs n x h e = slice_get-get_or xs n x h ∙ ap Some (sym e)

pub past : {A : Type 0} (xs : List A) (n : ℕ) → length xs ≤ n → slice_get xs n ≡ None
past [] zero h = refl
past [] (suc n) h = refl
past (x ∷ xs) zero h = absurd (omega (arith, h))
past (x ∷ xs) (suc n) h = let k : length xs ≤ n = omega (arith, h) in past xs n k

-- where `get` gave nothing
pub none_past : {A : Type 0} (xs : List A) (n : ℕ) (r : Option (Bor A)) → ((x : Bor A) → r ≡ Some x → ⊥) → IsItemAt xs n r → slice_get xs n ≡ None
none_past xs n None none h = past xs n h.3
none_past xs n (Some x) none h = absurd (none x refl)

pub local_there : (vs : List Plain) (i : ℕ) (v : Plain) → slice_get vs i ≡ Some v → plain_of v ≡ local (plains_of vs) i
local_there [] i v e = cc
local_there (w ∷ vs) zero v e = let same : v ≡ w = cc in ap plain_of same
local_there (w ∷ vs) (suc i) v e = local_there vs i v e

pub local_past : (vs : List Plain) (i : ℕ) → slice_get vs i ≡ None → UnitV ≡ local (plains_of vs) i
local_past [] i e = refl
local_past (w ∷ vs) zero e = cc
local_past (w ∷ vs) (suc i) e = local_past vs i e
