-- The honest piece of each opening, in either form of pieces.
use Rattle.std.specs.Prelude.{ℕ, List, map}
use Rattle.core_terms.specs.Formats.{Hash}
use Rattle.core_terms.specs.Terms.{Program}
use Rattle.ideal_meaning.specs.Ideal.{Opened, Piece, honest_bytes}
use Rattle.ideal_meaning.specs.PieceForms.{PieceForm}

module _ (hash : Hash) (P : Program) (form : PieceForm) where
  -- the honest piece of an opened value, in this form, and the honest pieces so far
  abbrev pub honest_as : Opened → List ℕ
  honest_as x = form.piece x.ty (honest_bytes hash P x)

  abbrev pub honest_all_as : List Opened → List (List ℕ)
  honest_all_as seen = map honest_as seen

  abbrev pub honest_piece_as : Opened → Piece
  honest_piece_as x = record { ty = x.ty; bytes = honest_as x }
