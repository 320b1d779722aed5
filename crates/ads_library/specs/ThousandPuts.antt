-- A row of `redblack` after 1,000 puts. It is a law, since so many puts are dear to compute.
use Rattle.std.specs.Prelude.{◌≡◌, ℕ, zero, suc, List, [], ◌∷◌, pos, Some}
use Rattle.core_terms.specs.Values.{Value, UnitV, IntV}
use Rattle.ideal_meaning.specs.Ideal.{Done, ideal, outcome}
use Rattle.ideal_meaning.specs.Headline.{call_values}
use Rattle.ads_library.specs.Entries.{Entry, entry}
use Rattle.ads_library.specs.Maps.{answer, IsAfter}
use Rattle.ads_library.specs.RedBlackTree.{empty_role, get_role, put_role}
use Rattle.ads_library.specs.RedBlackProgram.{redblack}

-- the puts of each number from 1 to n under itself, the newest first
abbrev pub counted : ℕ → List Entry
counted zero = []
counted (suc n) = entry (pos (suc n)) (pos (suc n)) ∷ counted n

-- on each state after 1,000 such puts a get finds 777 with fuel 1,000; that there is such a state, the law of the map says
abbrev pub FindsAmongThousand : Type 0
FindsAmongThousand = (state : Value) → IsAfter redblack empty_role put_role UnitV (counted 1000) state
    → outcome (ideal redblack get_role (call_values state (IntV (pos 777))) 1000) ≡ Done (answer (Some (pos 777)))
