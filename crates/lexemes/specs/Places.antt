-- Places in a text, all by bytes: how many stand before it (its offset), the number of its line from 1, and its column in that line
-- from 1. The byte 0a ends a line.
use Rattle.std.specs.Prelude.{ℕ, ◌+◌, ◌-◌, ◌^◌, ◌<◌, ◌≤◌, ◌==◌, List, [], ◌∷◌, if◌then◌else◌}
use Rattle.lexemes.specs.declared.place.Place.{Place}

-- the place of a text's first byte
abbrev pub start : Place
start = record { offset = 0; line = 1; column = 1 }

-- the place behind a byte, and behind some bytes
abbrev pub behind_byte : Place → ℕ → Place
behind_byte place b =
    if b == 10 then record { offset = place.offset + 1; line = place.line + 1; column = 1 }
    else record { offset = place.offset + 1; line = place.line; column = place.column + 1 }

abbrev pub behind : Place → List ℕ → Place
behind place [] = place
behind place (b ∷ bytes) = behind (behind_byte place b) bytes

-- so many bytes more can be counted from a place on: a line and a column are at most one more than what stands before them
abbrev pub HasRoom : Place → ℕ → Type 0
HasRoom place n = (place.offset + n < 2 ^ 64 - 1) × (place.line ≤ place.offset + 1) × (place.column ≤ place.offset + 1)
