-- What is found under a name among others.
use Rattle.std.proofs.Common.{◌≡◌, ◌≢◌, List, ℕ, Bool, true, false, cond, bytes_eq, refl, ap, sym}
use Rattle.std.proofs.lemmas.Slice.Eq.{bytes_eq-Decides}

pub found_under : {A : Type 0} (name key : List ℕ) (here behind : A) → name ≡ key → here ≡ cond (bytes_eq name key) here behind
found_under name key here behind is = ap (λ b. cond b here behind) (sym ((bytes_eq-Decides name key).1 is))

pub found_behind : {A : Type 0} (name key : List ℕ) (found here behind : A) → name ≢ key → found ≡ behind → found ≡ cond (bytes_eq name key) here behind
found_behind name key found here behind other is = by (bytes_eq name key) refl
  where
    by : (b : Bool) → bytes_eq name key ≡ b → found ≡ cond b here behind
    by true same = absurd (other ((bytes_eq-Decides name key).0 same))
    by false same = is
