-- The pieces of a state, put into a mirror.
use Rattle.std.specs.Prelude.{ℕ, List, [], ◌∷◌, ◌++◌, map, unwrap_or}
use Rattle.core_terms.specs.Formats.{Hash}
use Rattle.core_terms.specs.Projection.{projection}
use Rattle.core_terms.specs.Spelling.{spelling}
use Rattle.core_terms.specs.Terms.{Program}
use Rattle.core_terms.specs.Types.{Ty}
use Rattle.core_terms.specs.Values.{Value}
use Rattle.images.specs.AuthOrders.{auth_entries}
use Rattle.images.specs.Images.{Entry}
use Rattle.piece_mirror.specs.Mirrors.{added}

module _ (hash : Hash) (P : Program) where
  -- The piece of a value: the spelling of its projection, behind the fingerprint that digests at its type tell, where they tell one.
  abbrev pub piece_of : Ty → Value → List ℕ
  piece_of t v = unwrap_or (P.format.print hash t) [] ++ spelling (projection hash P t v)

  abbrev pub pieces_of : List Entry → List (List ℕ)
  pieces_of entries = map (λ e. piece_of e.of_type e.value) entries

  -- the pieces of a state that a verifier may ask for, in the order of its image
  abbrev pub pieces_in : Value → List (List ℕ)
  pieces_in v = pieces_of (auth_entries P.types P.state v)

-- the pieces after these were put, one after another
abbrev pub all_added : List (List ℕ) → List (List ℕ) → List (List ℕ)
all_added pieces [] = pieces
all_added pieces (p ∷ ps) = all_added (added pieces p) ps
