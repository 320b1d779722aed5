-- The arguments of a command that are numbers.
use Rattle.std.specs.Prelude.{ℕ, List, Option, Some, None, nat_le, if◌then◌else◌}
use Rattle.core_terms.specs.Limits.{most_fuel}
use Rattle.number_words.specs.Numbers.{number_within}

-- the greatest seed of a workload, 2^64 - 1, and the greatest number of its rounds
abbrev pub most_seed : ℕ
most_seed = 18446744073709551615

abbrev pub most_rounds : ℕ
most_rounds = 100000

-- the amount of fuel that a text tells
abbrev pub fuel_of : List ℕ → Option ℕ
fuel_of text = number_within most_fuel text

-- the port that is listened to, the number of links that are served, and the greatest number of calls of functions in a turn: each is 1 at
-- least
abbrev pub most_port : ℕ
most_port = 65535

abbrev pub most_links : ℕ
most_links = 1000

abbrev pub most_slice : ℕ
most_slice = 1000000

-- the number itself, where it is 1 at least
abbrev pub positive : Option ℕ → Option ℕ
positive None = None
positive (Some n) = if nat_le 1 n then Some n else None

-- the number that a text tells, where it is 1 at least and at most the greatest
abbrev pub positive_within : ℕ → List ℕ → Option ℕ
positive_within most text = positive (number_within most text)
