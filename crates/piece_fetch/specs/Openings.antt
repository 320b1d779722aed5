-- What a piece that was answered opens.
use Rattle.std.specs.Prelude.{◌≡◌, ℕ, List, Some, Result, Ok, Err, ⊤}
use Rattle.core_terms.specs.Terms.{Program}
use Rattle.core_terms.specs.Types.{Ty}
use Rattle.core_terms.specs.Values.{Value}
use Rattle.ideal_meaning.specs.Run.{Opening, Opens, Refuses}
use Rattle.ideal_meaning.specs.Checked.{Cause, Taking}
use Rattle.value_store.specs.Nodes.{Node}
use Rattle.value_store.specs.Standing.{StandsFor, VerifierNodes}
use Rattle.value_store.specs.declared.node.Ref.{Ref}
use Rattle.mode_vm.specs.declared.mode.Stop.{Stop}
use Rattle.mode_vm.specs.declared.mode.Stop.TheVariants as stop
use Rattle.piece_fetch.specs.declared.fetcher.FetcherFault.{FetcherFault}
use Rattle.piece_fetch.specs.declared.fetcher.FetcherFault.TheVariants.{Missing, Broken, WrongPiece, BadPiece, Failed}
use Rattle.piece_fetch.specs.Faults.{fault_cause}

-- What a piece gives: the value that it spells, with the verifier behind it, or the cause for which it is refused.
abbrev pub PieceOpens : Program → List Node → Ty → Opening Cause Taking → (behind : Taking) → Result Ref (Stop FetcherFault) → Type 0
PieceOpens P nodes t o behind (Ok r) = (v : Value) × (o ≡ Opens v behind) × StandsFor VerifierNodes P.types nodes r.0 t v
PieceOpens P nodes t o behind (Err (stop.Mode fault)) = (c : Cause) → fault_cause fault ≡ Some c → (after : Taking) × (o ≡ Refuses c after)
PieceOpens P nodes t o behind (Err stop.NoMemory) = Unit {0}

-- A piece is refused for its digest, which isn't the one held, or for its bytes, and then its digest is the one held.
abbrev pub RefusesPiece : (want found : List ℕ) → {R : Type 0} → Result R (Stop FetcherFault) → Type 0
RefusesPiece want found (Ok r) = found ≡ want
RefusesPiece want found (Err (stop.Mode (WrongPiece place held got))) = (held.0 ≡ want) × (got.0 ≡ found)
RefusesPiece want found (Err (stop.Mode (BadPiece place offset))) = found ≡ want
RefusesPiece want found (Err (stop.Mode (Missing place held))) = ⊥
RefusesPiece want found (Err (stop.Mode (Broken place held wire))) = ⊥
RefusesPiece want found (Err (stop.Mode Failed)) = ⊥
RefusesPiece want found (Err stop.NoMemory) = ⊤
