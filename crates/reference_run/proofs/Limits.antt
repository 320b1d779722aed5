-- When a new value is within the limits, by what the code counted.
use Rattle.std.proofs.Common.{◌≡◌, ℕ, ◌<◌, ◌≤◌, ◌^◌, List, nat_lt, true, false, refl, arith}
use Rattle.core_terms.specs.Types.{Ty, Table}
use Rattle.core_terms.specs.Formats.{depth_limit}
use Rattle.core_terms.specs.Values.{Value, size, depth}
use Rattle.ideal_meaning.specs.Run.{Gives, Ends, Traps, TooBig, TooDeep, limited}
use Rattle.ideal_meaning.specs.Ideal.{Opened}
use Rattle.reference_run.specs.Measured.{counted}

module _ (limit : ℕ) (types : Table) (t : Ty) (v : Value) (k : ℕ) (seen : List Opened) where
  pub limited_gives : nat_lt limit (size types t v) ≡ false → nat_lt depth_limit (depth types t v) ≡ false → limited {C = ⊥} limit types t v k seen ≡ Gives v k seen
  limited_gives e f = rw e (rw f refl)

  pub limited_big : nat_lt limit (size types t v) ≡ true → limited {C = ⊥} limit types t v k seen ≡ Ends (Traps TooBig) k seen
  limited_big e = rw e refl

  pub limited_deep : nat_lt limit (size types t v) ≡ false → nat_lt depth_limit (depth types t v) ≡ true → limited {C = ⊥} limit types t v k seen ≡ Ends (Traps TooDeep) k seen
  limited_deep e f = rw e (rw f refl)

-- what was counted is above a limit where the number is
pub above : (n m limit : ℕ) → m ≡ counted n → limit < m → limit < n
above n m limit e h = omega (arith, e, h)

pub below : (n m limit : ℕ) → m ≡ counted n → m ≤ limit → limit < 2 ^ 32 → n ≤ limit
below n m limit e h l = omega (arith, e, h, l)
