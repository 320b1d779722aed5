-- The law of places: what a reader may hold their definition to.
use Rattle.std.specs.Prelude.{◌≡◌, ℕ, ◌+◌, ◌==◌, List, length, count_by}
use Rattle.std.specs.List.{suffix_len}
use Rattle.lexemes.specs.Places.{start, behind}
use Rattle.lexemes.specs.Tokens.{is_in_line}

-- The place behind some bytes, at the beginning of a text: its offset is how many they are, its line is 1 and the number of 0a among
-- them, and its column is 1 and how many of them stand behind the last 0a.
abbrev pub PlacesAreCounted : Type 0
PlacesAreCounted =
    (bytes : List ℕ)
    → ((behind start bytes).offset ≡ length bytes)
    × ((behind start bytes).line ≡ 1 + count_by (λ b. b == 10) bytes)
    × ((behind start bytes).column ≡ 1 + suffix_len is_in_line bytes)
