-- The operations on arrays do what the words of lists say.
use Rattle.std.proofs.Common.{◌≡◌, ◌≢◌, ℕ, zero, suc, ◌<◌, ◌∷◌, length, replicate, slice_get, Some, ℤ, pos, negsuc, refl, ap, arith, lt-ltb, le-ltb}
use Rattle.core_terms.specs.Values.{Value, Values, NoV, AndV}
use Rattle.ideal_meaning.specs.Run.{Run, Gives, Ends, Traps, Index, at_index, local, repeated, replaced}
use Rattle.ideal_meaning.specs.Arrays.{ArrayTable, IsOutside, IsWithAt, listed}

listed_repeated : (m : ℕ) (v : Value) → listed (repeated m v) ≡ replicate m v
listed_repeated zero v = refl
listed_repeated (suc m) v = ap (λ vs. v ∷ vs) (listed_repeated m v)

below : (vs : Values) (i : ℕ) (v : Value) → slice_get (listed vs) i ≡ Some v → i < length (listed vs)
below NoV i v e = absurd (cc)
below (AndV u vs) zero v e = omega arith
below (AndV u vs) (suc i) v e = omega (arith, below vs i v e)

local_is : (vs : Values) (i : ℕ) (v : Value) → slice_get (listed vs) i ≡ Some v → local vs i ≡ v
local_is NoV i v e = absurd (cc)
local_is (AndV u vs) zero v e = cc
local_is (AndV u vs) (suc i) v e = local_is vs i v e

with_at : (vs : Values) (i : ℕ) (v u : Value) → slice_get (listed vs) i ≡ Some v → IsWithAt i u (listed vs) (listed (replaced vs i u))
with_at NoV i v u e = absurd (cc)
with_at (AndV x vs) zero v u e = record { count = refl; there = refl; others = others }
  where
    others : (j : ℕ) → j ≢ 0 → slice_get (u ∷ listed vs) j ≡ slice_get (x ∷ listed vs) j
    others zero n = absurd (n refl)
    others (suc j) n = refl
with_at (AndV x vs) (suc i) v u e =
    let r = with_at vs i v u e in
    record { count = ap suc r.count; there = r.there; others = others r.others }
  where
    others : ((j : ℕ) → j ≢ i → slice_get (listed (replaced vs i u)) j ≡ slice_get (listed vs) j)
        → (j : ℕ) → j ≢ suc i → slice_get (x ∷ listed (replaced vs i u)) j ≡ slice_get (x ∷ listed vs) j
    others f zero n = refl
    others f (suc j) n = f j (λ e. n (ap suc e))

outside : {C W : Type 0} (m : ℕ) (z : ℤ) (f : ℕ → ℕ → W → Run C W Value) (k : ℕ) (w : W) → IsOutside z m → at_index m z f k w ≡ Ends (Traps Index) k w
outside m (pos i) f k w h = rw (le-ltb i m (h i refl)) refl
outside m (negsuc i) f k w h = refl

pub array_table : ArrayTable
array_table P n = record {
  filled = λ m t v k s. (repeated m v, listed_repeated m v, refl);
  element = λ t vs i v k s e. rw (lt-ltb i (length (listed vs)) (below vs i v e)) (ap (λ v. Gives v k s) (local_is vs i v e));
  no_element = λ t vs z k s h. outside (length (listed vs)) z _ k s h;
  replaced_there = λ t vs i v u k s e. (replaced vs i u, with_at vs i v u e, rw (lt-ltb i (length (listed vs)) (below vs i v e)) refl);
  not_replaced = λ t vs z u k s h. outside (length (listed vs)) z _ k s h;
}
