-- The field types of a constructor that is there.
use Rattle.std.proofs.Common.{◌≡◌, List, Option, Some, None, refl}
use Rattle.core_terms.specs.Types.{Ty, OnFields}

pub on_fields : (o : Option (List Ty)) (Q : List Ty → Type 0) → OnFields o Q → (ts : List Ty) × (o ≡ Some ts) × Q ts
on_fields (Some ts) Q h = (ts, refl, h)
on_fields None Q h = elim h [ ]
