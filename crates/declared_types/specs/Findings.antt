-- What an answer of a pass says of what its definition finds. Where memory ran out nothing is said.
use Rattle.std.specs.Prelude.{◌≡◌, Result, Ok, Err, ⊤}
use Rattle.core_terms.specs.declared.fault.Fault.{Fault}
use Rattle.core_terms.specs.declared.fault.Fault.TheVariants.{At, NoMemory}
use Rattle.lexemes.specs.declared.place.Place.{Place}
use Rattle.declared_types.specs.Checking.{Checking, Sound, FaultAt}
use Rattle.declared_types.specs.declared.fault.TypeKind.{TypeKind}

-- why the code gives nothing
abbrev pub TypeFault : Type 0
TypeFault = Fault TypeKind Place

-- Ok gives what a part stands for, as `view` shows it; a refusal gives its first fault
abbrev pub Finds : {A B : Type 0} → (A → B) → Checking B → Result A TypeFault → Type 0
Finds view found (Ok value) = found ≡ Sound (view value)
Finds view found (Err (At kind at)) = found ≡ FaultAt kind at
Finds view found (Err NoMemory) = ⊤
