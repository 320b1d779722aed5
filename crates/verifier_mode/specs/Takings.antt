-- Where a verifier stands in a proof.
use Rattle.std.specs.Prelude.{◌≡◌, ℕ, suc, List, length, Option, Some, Result, Ok, Err}
use Rattle.core_terms.specs.Terms.{Program}
use Rattle.core_terms.specs.Types.{Ty}
use Rattle.core_terms.specs.Values.{Value}
use Rattle.ideal_meaning.specs.Run.{Opening, Opens, Refuses}
use Rattle.ideal_meaning.specs.Frames.{Offer, offered}
use Rattle.ideal_meaning.specs.Following.{after_bytes}
use Rattle.ideal_meaning.specs.Checked.{Cause, Taking}
use Rattle.value_store.specs.Nodes.{Node}
use Rattle.value_store.specs.Standing.{StandsFor, VerifierNodes}
use Rattle.value_store.specs.declared.node.Ref.{Ref}
use Rattle.reuse_buffer.specs.Kept.{Kept, kept}
use Rattle.mode_vm.specs.declared.mode.Stop.{Stop}
use Rattle.mode_vm.specs.declared.mode.Stop.TheVariants.{Mode, NoMemory}
use Rattle.verifier_mode.specs.declared.verifier.VerifierFault.{VerifierFault}
use Rattle.verifier_mode.specs.Faults.{fault_cause}

-- The verifier before the piece with this number, where these bytes are left, the last n of `recent` are kept, and `recent` came before.
abbrev pub taking : Program → (n : ℕ) → (recent : List (List ℕ)) → List ℕ → (place : ℕ) → Taking
taking P n recent bytes place = record { place = place; left = length bytes; more = offered P.format.limit bytes n recent }

-- the verifier behind the piece with this number
abbrev pub behind_piece : (place left : ℕ) → Offer → Taking
behind_piece place left more = record { place = suc place; left = left; more = more }

-- The verifier stands in state w: its source tells the bytes that are left, and its ring holds the last of the new pieces that came.
-- A source that tells nothing is followed nowhere.
pub record FollowsFrames (P : Program) (limit : ℕ) (ring : Kept) (place : ℕ) (left : Option (List ℕ)) (w : Taking) : Type 0 where
  pub bytes : List ℕ
  pub recent : List (List ℕ)
  pub within : limit ≡ P.format.limit
  pub told : left ≡ Some bytes
  pub holds : ring ≡ kept ring.size recent
  pub is : w ≡ taking P ring.size recent bytes place

-- The ring holds the last of the new pieces that came, and with those that the bytes left bring they are `all`.
pub record HasCome (limit : ℕ) (ring : Kept) (left : Option (List ℕ)) (all : List (List ℕ)) : Type 0 where
  pub bytes : List ℕ
  pub recent : List (List ℕ)
  pub told : left ≡ Some bytes
  pub holds : ring ≡ kept ring.size recent
  pub same : after_bytes limit bytes ring.size recent ≡ all

-- How a verifier and its source go on: the size of the ring stays, and so do all the new pieces, those that came and those to come.
pub record MovesOn (limit : ℕ) (ring : Kept) (left : Option (List ℕ)) (limit' : ℕ) (ring' : Kept) (left' : Option (List ℕ)) : Type 0 where
  pub within : limit' ≡ limit
  pub size : ring'.size ≡ ring.size
  pub come : (bytes : List ℕ) (recent : List (List ℕ)) → left ≡ Some bytes → ring ≡ kept ring.size recent → HasCome limit ring' left' (after_bytes limit bytes ring.size recent)

-- What a piece gives: the value that it spells, with the verifier behind it, or the cause for which it is refused.
abbrev pub PieceOpens : Program → List Node → Ty → Opening Cause Taking → (behind : Taking) → Result Ref (Stop VerifierFault) → Type 0
PieceOpens P nodes t o behind (Ok r) = (v : Value) × (o ≡ Opens v behind) × StandsFor VerifierNodes P.types nodes r.0 t v
PieceOpens P nodes t o behind (Err (Mode fault)) = (c : Cause) → fault_cause fault ≡ Some c → (after : Taking) × (o ≡ Refuses c after)
PieceOpens P nodes t o behind (Err NoMemory) = Unit {0}
