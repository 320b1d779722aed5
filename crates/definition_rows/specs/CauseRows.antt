-- What each end of the offered pieces is a cause of (`Checked`), and the digests of a wrong piece, as the code tells them (`Told`): the one that was
-- held first. Each equation holds by computing both sides.
use Rattle.std.specs.Prelude.{◌≡◌, ℕ, List}
use Rattle.core_terms.specs.declared.cause.Cause.TheVariants as cause
use Rattle.core_terms.specs.declared.digest.Digest.{Digest}
use Rattle.ideal_meaning.specs.Checked.{BadKind, BadUse, Broken, Cut, Missing, PieceLong, Short, WrongPiece, cause_of}
use Rattle.ideal_meaning.specs.Frames.{Breaks, IsCut, KindIs, Lacks, LongBy, NoByte, UseIs}
use Rattle.ideal_meaning.specs.Told.{cause_told}
use Rattle.ideal_meaning.specs.Wire.{Wire}

pub record CauseRows : Type 0 where
  pub cause_of_each_end : (want : List ℕ) (wire : Wire) → (cause_of NoByte 3 want ≡ Short 3) × (cause_of IsCut 3 want ≡ Cut 3) × (cause_of (KindIs 7) 3 want ≡ BadKind 3 7)
      × (cause_of (LongBy 70000) 3 want ≡ PieceLong 3 70000) × (cause_of (UseIs 2 1) 3 want ≡ BadUse 3 2 1) × (cause_of Lacks 3 want ≡ Missing 3 want)
      × (cause_of (Breaks wire) 3 want ≡ Broken 3 want wire)
  pub digests_are_told : (want found : Digest) → cause_told (cause.WrongPiece 3 want found) ≡ WrongPiece 3 want.0 found.0
