-- Numbers as a command line and a script write them.
use Rattle.std.specs.Prelude.{ℕ, List, length, nat_le, Bool, ◌&&◌, Option, Some, None, if◌then◌else◌}
use Rattle.std.specs.Str.{all_ascii_digits}
use Rattle.std.specs.Str.Parse.{digits_value}

-- a number has 1 to 20 decimal digits, and nothing else
abbrev pub is_number : List ℕ → Bool
is_number text = nat_le 1 (length text) && (nat_le (length text) 20 && all_ascii_digits text)

-- the number that a text tells, where it is at most the greatest
abbrev pub number_within : ℕ → List ℕ → Option ℕ
number_within most text = if is_number text && nat_le (digits_value 10 text) most then Some (digits_value 10 text) else None
