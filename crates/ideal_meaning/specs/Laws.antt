-- Laws of the meanings, by which a reader can judge the definitions.
use Rattle.std.specs.Prelude.{◌≡◌, ℕ, ◌≤◌, List, [], length, drop, Some, All}
use Rattle.core_terms.specs.Types.{Ty}
use Rattle.core_terms.specs.Formats.{Format, IsFormat}
use Rattle.core_terms.specs.Values.{Values}
use Rattle.core_terms.specs.Terms.{Program}
use Rattle.ideal_meaning.specs.Run.{Mode}
use Rattle.ideal_meaning.specs.Called.{call_within, call_from}
use Rattle.ideal_meaning.specs.Ideal.{Piece}
use Rattle.ideal_meaning.specs.Frames.{frames, offered, offered_pieces, header, proof_file}
use Rattle.ideal_meaning.specs.SplitPieces.{IsSplitAt}

-- Any bound on nested calls that isn't below the fuel gives the same run, in any mode.
abbrev pub BoundIsEnough : (C W : Type 0) → Type 0
BoundIsEnough C W = (P : Program) (mode : Mode C W) (nesting f : ℕ) (args : Values) (k : ℕ) (w : W) → k ≤ nesting
    → call_within P mode nesting f args k w ≡ call_from P mode f args k w

-- Two lists of pieces split at one place at most.
abbrev pub OneSplit : Type 0
OneSplit = (digest : Ty → List ℕ → List ℕ) (offered : List (List ℕ)) (honest : List Piece) (i j : ℕ)
    → IsSplitAt digest offered honest i → IsSplitAt digest offered honest j → i ≡ j

-- Any bound on the number of frames that isn't below the number of bytes offers the same pieces, and they end alike.
abbrev pub FrameBoundIsEnough : Type 0
FrameBoundIsEnough = (limit most n : ℕ) (recent : List (List ℕ)) (bytes : List ℕ) → length bytes ≤ most
    → frames limit most n recent bytes ≡ offered limit bytes n recent

-- The proof file of pieces within the limit has a good header and offers these pieces, with whatever ring size the format allows.
abbrev pub ProofFileIsReadBack : Type 0
ProofFileIsReadBack = (format : Format) → IsFormat format → (n : ℕ) → n ≤ format.most_kept → (pieces : List (List ℕ)) → All (λ piece. length piece ≤ format.limit) pieces
    → (header format (proof_file format n pieces) ≡ Some n) × (offered_pieces (offered format.limit (drop 6 (proof_file format n pieces)) n []) ≡ pieces)
