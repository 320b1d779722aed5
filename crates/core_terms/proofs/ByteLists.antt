-- Lists of bytes.
use Rattle.std.proofs.Common.{◌<◌, ℕ, suc, List, [], ◌∷◌, get_or}
use Rattle.core_terms.specs.Spelling.{AreBytes}

-- items that are below 256 are bytes
pub are_bytes : (bytes : List ℕ) → ((i : ℕ) → get_or bytes i 0 < 256) → AreBytes bytes
are_bytes [] below = tt
are_bytes (b ∷ bytes) below = (below 0, are_bytes bytes (λ i. below (suc i)))
