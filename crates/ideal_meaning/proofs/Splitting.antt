-- Two lists of pieces split at one place at most.
use Rattle.std.proofs.Common.{zero, suc, ◌∷◌, refl, ap}
use Rattle.ideal_meaning.specs.Laws.{OneSplit}

pub one_split : OneSplit
one_split digest (a ∷ xs) (b ∷ ys) zero zero s r = refl
one_split digest (a ∷ xs) (b ∷ ys) zero (suc j) s r = absurd (s.0 r.0)
one_split digest (a ∷ xs) (b ∷ ys) (suc i) zero s r = absurd (r.0 s.0)
one_split digest (a ∷ xs) (b ∷ ys) (suc i) (suc j) s r = ap (λ n. suc n) (one_split digest xs ys i j s.1 r.1)
one_split digest xs ys i j s r = elim s [ ]
