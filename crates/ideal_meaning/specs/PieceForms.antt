-- How a piece stands for a spelling. A piece of a proof is the spelling itself. A piece that is fetched is asked for by its digest alone, of
-- someone who knows no types: it is all that the digest is of, the fingerprint of the type, where the format's digests tell one, and the
-- spelling behind it.
use Rattle.std.specs.Prelude.{◌≡◌, ℕ, ◌+◌, List, [], ◌∷◌, ◌++◌, unwrap_or, nat_eq, if◌then◌else◌}
use Rattle.core_terms.specs.Types.{Ty}
use Rattle.core_terms.specs.Formats.{Hash}
use Rattle.core_terms.specs.Values.{Value}
use Rattle.core_terms.specs.Reading.{Read, Good, BadAt}
use Rattle.core_terms.specs.Terms.{Program}
use Rattle.core_terms.specs.Projection.{digest_at, read_at}

pub record PieceForm : Type 0 where
  -- the digest by which a piece for the type is told
  pub digest : Ty → List ℕ → List ℕ
  -- the piece, read at the type; offsets are those in the piece
  pub reading : Ty → List ℕ → Read Value
  -- the piece of a spelling at the type
  pub piece : Ty → List ℕ → List ℕ

-- what is read n bytes further on
abbrev pub further : ℕ → Read Value → Read Value
further n (Good v rest end) = Good v rest (n + end)
further n (BadAt offset) = BadAt (n + offset)

-- These bytes are to stand in front of what is read. The first byte that is missing or another one is the fault.
abbrev pub read_behind : (front : List ℕ) → (List ℕ → Read Value) → List ℕ → Read Value
read_behind [] reading bytes = reading bytes
read_behind (c ∷ front) reading [] = BadAt 0
read_behind (c ∷ front) reading (b ∷ bytes) = if nat_eq c b then further 1 (read_behind front reading bytes) else BadAt 0

module _ (hash : Hash) (P : Program) where
  -- what is digested at a type in front of a spelling: the type's fingerprint, or nothing
  abbrev pub front_at : Ty → List ℕ
  front_at t = unwrap_or (P.format.print hash t) []

  -- a piece of a proof is the spelling
  abbrev pub as_spelled : PieceForm
  as_spelled = record { digest = digest_at hash P; reading = read_at P; piece = λ t bytes. bytes }

  -- a piece that is fetched is all that the digest is of
  abbrev pub as_whole : PieceForm
  as_whole = record {
    digest = λ t bytes. hash bytes;
    reading = λ t bytes. read_behind (front_at t) (read_at P t) bytes;
    piece = λ t bytes. front_at t ++ bytes;
  }

  -- The digest of a spelling is that of its whole piece. In both formats this holds by what they are.
  abbrev pub IsOfWhole : Type 0
  IsOfWhole = (t : Ty) (bytes : List ℕ) → digest_at hash P t bytes ≡ hash (front_at t ++ bytes)
