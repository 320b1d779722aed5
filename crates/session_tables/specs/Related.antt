-- Tables whose values are related, row by row.
use Rattle.std.specs.Prelude.{◌≡◌, List, [], ◌∷◌, Option, Some, None}
use Rattle.session_meaning.specs.Tables.{Numbered}

-- the rows have the same numbers, and their values are related
abbrev pub AreRows : {A B : Type 0} → (A → B → Type 0) → List (Numbered A) → List (Numbered B) → Type 0
AreRows R [] [] = Unit {0}
AreRows R (x ∷ xs) (y ∷ ys) = (x.number ≡ y.number) × R x.value y.value × AreRows R xs ys
AreRows R xs ys = ⊥

-- both are there and are related, or neither is
abbrev pub AreSame : {A B : Type 0} → (A → B → Type 0) → Option A → Option B → Type 0
AreSame R (Some a) (Some b) = R a b
AreSame R None None = Unit {0}
AreSame R a b = ⊥
