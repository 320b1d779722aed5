-- Integers of 64 bits, by their magnitudes.
use Rattle.std.proofs.Common.{◌≡◌, ◌<◌, ◌^◌, true, ℤ, pos, negsuc, lt-ltb, ltb-true}
use lib.Signed.{mag}
use Rattle.core_terms.specs.Values.{int_fits}

pub mag_of : (z : ℤ) → int_fits z ≡ true → mag z < 2 ^ 63
mag_of (pos n) e = ltb-true n (2 ^ 63) e
mag_of (negsuc n) e = ltb-true n (2 ^ 63) e

pub of_mag : (z : ℤ) → mag z < 2 ^ 63 → int_fits z ≡ true
of_mag (pos n) h = lt-ltb n (2 ^ 63) h
of_mag (negsuc n) h = lt-ltb n (2 ^ 63) h
