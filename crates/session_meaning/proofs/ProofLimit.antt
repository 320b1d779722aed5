-- The limit of a proof, at new pieces of 65,536 bytes.
use Rattle.std.proofs.Common.{◌≡◌, ℕ, zero, suc, ◌+◌, ◌*◌, true, false, List, length, replicate, refl, arith, length-append, le-leb}
use Rattle.std.proofs.lemmas.Bool.{lt-leb}
use Rattle.core_terms.specs.Formats.{message_limit}
use Rattle.ideal_meaning.specs.Frames.{New, frame_bytes}
use Rattle.session_meaning.specs.Server.{fits_message}
use Rattle.session_meaning.specs.ReplyLaws.{ProofsAreLimited}

length_of : (n : ℕ) (p : List ℕ) → length p ≡ 65536 → length (frame_bytes (replicate n (New p))) ≡ n * 65541
length_of zero p h = refl
length_of (suc n) p h = omega (arith, length_of n p h, h, length-append p (frame_bytes (replicate n (New p))))

under : (n : ℕ) (p : List ℕ) → length p ≡ 65536 → n ≡ 255 → (length (frame_bytes (replicate n (New p))) ≡ 16712955)
    × (fits_message (replicate n (New p)) ≡ true)
under n p h e = (
  omega (arith, length_of n p h, e),
  le-leb (3 + length (frame_bytes (replicate n (New p)))) message_limit (omega (arith, length_of n p h, e)),
)

over : (n : ℕ) (p : List ℕ) → length p ≡ 65536 → n ≡ 256 → fits_message (replicate n (New p)) ≡ false
over n p h e = lt-leb (3 + length (frame_bytes (replicate n (New p)))) message_limit (omega (arith, length_of n p h, e))

pub proofs_are_limited : ProofsAreLimited
proofs_are_limited p h = let fits = under 255 p h refl in (fits.0, fits.1, over 256 p h refl)
