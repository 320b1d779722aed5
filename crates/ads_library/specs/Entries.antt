-- Keys with their values in lists: what is put, and what a tree holds from left to right.
use Rattle.std.specs.Prelude.{◌≡◌, true, List, [], ◌∷◌, ℤ, ◌<ℤ◌, Option, Some, None, if◌then◌else◌}
use Rattle.std.specs.Ordering.{int_eq}
use Rattle.core_terms.specs.Values.{int_fits}

-- a value under a key
pub record Entry : Type 0 where
  pub key : ℤ
  pub value : ℤ

abbrev pub entry : (key value : ℤ) → Entry
entry key value = record { key = key; value = value }

-- z is an int of the language: from -2^63 to 2^63 - 1
abbrev pub IsInt : ℤ → Type 0
IsInt z = int_fits z ≡ true

abbrev pub HasInts : Entry → Type 0
HasInts e = IsInt e.key × IsInt e.value

abbrev pub AllHaveInts : List Entry → Type 0
AllHaveInts [] = Unit {0}
AllHaveInts (e ∷ es) = HasInts e × AllHaveInts es

-- the value of the first entry of a key; none where no entry has the key
abbrev pub lookup : List Entry → ℤ → Option ℤ
lookup [] key = None
lookup (e ∷ es) key = if int_eq key e.key then Some e.value else lookup es key

-- every key is above a
abbrev pub Above : ℤ → List Entry → Type 0
Above a [] = Unit {0}
Above a (e ∷ es) = (a <ℤ e.key) × Above a es

-- each key is below all those behind it
abbrev pub Ascending : List Entry → Type 0
Ascending [] = Unit {0}
Ascending (e ∷ es) = Above e.key es × Ascending es
