-- What checking a part of a program gives: what it stands for, or its first fault.
use Rattle.std.specs.Prelude.{ℕ, Bool, true, false, ◌||◌, List, [], ◌∷◌, length, bytes_eq, nat_lt, if◌then◌else◌}
use Rattle.lexemes.specs.declared.place.Place.{Place}
use Rattle.auth_syntax.specs.Syntax.{NameSyntax}
use Rattle.declared_types.specs.declared.fault.TypeKind.{TypeKind}
use Rattle.declared_types.specs.declared.fault.TypeKind.TheVariants.{Twice, Limit}
use Rattle.declared_types.specs.declared.fault.Limited.{Limited}

pub data Checking (A : Type 0) : Type 0 where
  Sound : (value : A) → Checking A
  FaultAt : (kind : TypeKind) (at : Place) → Checking A

-- goes on with what a part stands for
abbrev pub then_checked : {A B : Type 0} → Checking A → (A → Checking B) → Checking B
then_checked (Sound value) go = go value
then_checked (FaultAt kind at) go = FaultAt kind at

-- goes on where a rule holds, which else is broken at this place
abbrev pub unless_fault : {A : Type 0} → Bool → TypeKind → Place → Checking A → Checking A
unless_fault true kind at rest = rest
unless_fault false kind at rest = FaultAt kind at

-- a name is one of these
abbrev pub is_among : List ℕ → List (List ℕ) → Bool
is_among name [] = false
is_among name (other ∷ others) = bytes_eq other name || is_among name others

-- A name of a space in which these stand, the last one first: it is none of them, and they are fewer than the limit of their kind.
abbrev pub new_name : {A : Type 0} → List (List ℕ) → ℕ → Limited → NameSyntax → Checking A → Checking A
new_name before most thing name rest =
    if is_among name.name before then FaultAt Twice name.at else
    (if nat_lt (length before) most then rest else FaultAt (Limit thing) name.at)
