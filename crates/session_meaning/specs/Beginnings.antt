-- Lists that begin with the elements of another.
use Rattle.std.specs.Prelude.{◌≡◌, ◌+◌, List, ◌++◌}

-- the list begins with these
abbrev pub IsFront : {A : Type 0} → List A → List A → Type 0
IsFront {A = A} front whole = (more : List A) × (whole ≡ front ++ more)
