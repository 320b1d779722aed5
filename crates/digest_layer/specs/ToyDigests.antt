-- A digest for tests, for which collisions are easily found.
use Rattle.std.specs.Prelude.{[], ◌∷◌, ◌++◌, fold, replicate, bit_xor}
use Rattle.core_terms.specs.Formats.{Hash}

-- 31 zero bytes, and the XOR of all bytes
abbrev pub toy_digest : Hash
toy_digest bytes = replicate 31 0 ++ fold bit_xor 0 bytes ∷ []
