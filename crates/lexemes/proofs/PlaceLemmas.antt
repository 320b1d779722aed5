-- Places behind bytes, and the room that is left to count them.
use Rattle.std.proofs.Common.{◌≡◌, ℕ, suc, ◌+◌, ◌<◌, Bool, true, false, cond, List, [], ◌∷◌, length, drop, get_or, arith}
use Rattle.std.proofs.lemmas.List.{at_drop_more}
use Rattle.std.specs.Prelude.{◌==◌}
use Rattle.lexemes.specs.Places.{behind_byte, behind, HasRoom}
use Rattle.lexemes.specs.declared.place.Place.{Place}

-- a byte takes the room of one
pub room_behind_byte : (place : Place) (b n : ℕ) → HasRoom place (suc n) → HasRoom (behind_byte place b) n
room_behind_byte place b n h = either (b == 10) where
  either : (ends_line : Bool)
      → HasRoom (cond ends_line (record { offset = place.offset + 1; line = place.line + 1; column = 1 }) (record { offset = place.offset + 1; line = place.line; column = place.column + 1 })) n
  either true = (omega arith, omega arith, omega arith)
  either false = (omega arith, omega arith, omega arith)

-- bytes take their room
pub room_behind : (place : Place) (bytes : List ℕ) (n : ℕ) → HasRoom place (length bytes + n) → HasRoom (behind place bytes) n
room_behind place [] n h = (omega arith, omega arith, omega arith)
room_behind place (b ∷ bytes) n h =
    room_behind (behind_byte place b) bytes n (room_behind_byte place b (length bytes + n) (omega arith, omega arith, omega arith))

-- one byte further
pub behind-drop : (place : Place) (bytes : List ℕ) (i : ℕ) → i < length bytes
    → behind place (drop i bytes) ≡ behind (behind_byte place (get_or bytes i 0)) (drop (i + 1) bytes)
behind-drop place bytes i h = at_drop_more (behind place) bytes i 0 h
