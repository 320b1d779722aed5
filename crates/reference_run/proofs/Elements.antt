-- The elements of arrays by number.
use Rattle.std.proofs.Common.{◌≡◌, ℕ, zero, suc, ◌≤◌, List, [], ◌∷◌, length, slice_set, refl, ap, arith}
use Rattle.core_terms.specs.Values.{AndV}
use Rattle.ideal_meaning.specs.Run.{replaced}
use Rattle.reference_run.specs.PlainValues.{plain_of, plains_of}
use Rattle.reference_run.specs.declared.values.Plain.{Plain}

pub replaced_there : (vs : List Plain) (i : ℕ) (v : Plain) → plains_of (slice_set vs i v) ≡ replaced (plains_of vs) i (plain_of v)
replaced_there [] i v = refl
replaced_there (w ∷ vs) zero v = refl
replaced_there (w ∷ vs) (suc i) v = ap (AndV (plain_of w)) (replaced_there vs i v)

pub replaced_past : (vs : List Plain) (i : ℕ) (v : Plain) → length vs ≤ i → plains_of vs ≡ replaced (plains_of vs) i (plain_of v)
replaced_past [] i v h = refl
replaced_past (w ∷ vs) zero v h = absurd (omega (arith, h))
replaced_past (w ∷ vs) (suc i) v h = let k : length vs ≤ i = omega (arith, h) in ap (AndV (plain_of w)) (replaced_past vs i v k)
