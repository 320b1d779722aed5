-- The marks of the spellings of versions, as they are kept.
use Rattle.std.specs.Prelude.{◌≡◌, ℕ, ◌<◌, ◌++◌, List, length, take, drop, replicate, nat_lt, fold, bit_xor, Option, Some, None, slice_index_or, slice_set, if◌then◌else◌}
use Rattle.core_terms.specs.Formats.{Hash}
use Rattle.core_terms.specs.Terms.{Program}
use Rattle.core_terms.specs.Values.{Value}
use Rattle.session_meaning.specs.Server as meant
use Rattle.session_turns.specs.declared.marks.Mark.{Mark}
use Rattle.session_turns.specs.declared.marks.SpellingMarks.{SpellingMarks}

-- The mark of a spelling: its bytes and zeros behind them where they are fewer than 32 bytes, else the first 32, the last of which gives way to
-- the XOR of all.
abbrev pub mark_of : List ℕ → List ℕ
mark_of bytes =
    if nat_lt (length bytes) 32 then bytes ++ drop (length bytes) (replicate 32 0) else slice_set (take 32 bytes) 31 (fold bit_xor 0 bytes)

-- the mark of this version's spelling, where it is known
abbrev pub mark_in : SpellingMarks → ℕ → Option Mark
mark_in marks n = slice_index_or marks.known.items n None

-- What is known is the mark of the spelling of one of these versions.
abbrev pub AreMarks : Hash → Program → SpellingMarks → List Value → Type 0
AreMarks hash P marks versions = (n : ℕ) (m : Mark) → mark_in marks n ≡ Some m
    → (n < length versions) × (m.0 ≡ mark_of (meant.state_spelling hash P (meant.version_at versions n)))
