-- The names of the library's programs.
use Rattle.std.specs.Prelude.{ℕ, List, [], ◌∷◌, codes}

abbrev pub library_names : List (List ℕ)
library_names = codes "bst" ∷ codes "merkle" ∷ codes "redblack" ∷ codes "skiplist" ∷ []
