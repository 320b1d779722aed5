-- Faults with a place.
use Rattle.std.specs.Prelude.{◌≡◌, ⊤}
use Rattle.core_terms.specs.declared.fault.Fault.{Fault}
use Rattle.core_terms.specs.declared.fault.Fault.TheVariants.{At, NoMemory}

-- both say the same: the second one's kind is what the first one's gives, at the same place
abbrev pub IsSameFault : {K L P : Type 0} → (K → L → Type 0) → Fault K P → Fault L P → Type 0
IsSameFault gives (At kind place) (At other other_place) = gives kind other × (place ≡ other_place)
IsSameFault gives NoMemory NoMemory = ⊤
IsSameFault gives (At kind place) NoMemory = ⊥
IsSameFault gives NoMemory (At kind place) = ⊥
