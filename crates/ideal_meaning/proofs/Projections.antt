-- What the laws of projections say of honest pieces, in the format of a program.
use Rattle.std.proofs.Common.{◌≡◌, length}
use Rattle.core_terms.specs.Types.{Ty}
use Rattle.core_terms.specs.Formats.{Hash, IsHash, IsFormat}
use Rattle.core_terms.specs.Values.{Value, IsIdeal, size}
use Rattle.core_terms.specs.Spelling.{spelling}
use Rattle.core_terms.specs.Terms.{Program}
use Rattle.core_terms.specs.Projection.{digest_at, projection}
use Rattle.core_terms.proofs.ReadBack
use Rattle.ideal_meaning.proofs.Opening.{ReadsBack}

pub reads_back : (hash : Hash) → IsHash hash → (P : Program) → IsFormat P.format → (t : Ty) (v : Value) → IsIdeal P.types t v → ReadsBack hash P t v
reads_back hash is_hash P format t v ideal =
    ReadBack.reads_back (digest_at hash P) (format.digest_length hash is_hash) P.types P.format.limit format.limit_fits t v ideal

-- the length of an honest piece is the size of the value
pub length_piece : (hash : Hash) → IsHash hash → (P : Program) → IsFormat P.format → (t : Ty) (v : Value) → IsIdeal P.types t v → length (spelling (projection hash P t v)) ≡ size P.types t v
length_piece hash is_hash P format t v ideal = ReadBack.length_piece (digest_at hash P) (format.digest_length hash is_hash) P.types t v ideal
