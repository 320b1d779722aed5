-- What a run of a verifier comes to.
use Rattle.std.proofs.Common.{◌≡◌, ℕ, List, Option, Some, Err, length, sym, ap, ap₂, ◌∙◌, subst}
use Rattle.core_terms.specs.Formats.{Hash}
use Rattle.core_terms.specs.Types.{Ty}
use Rattle.core_terms.specs.Terms.{Program}
use Rattle.core_terms.specs.declared.outcome.Outcome.{Outcome}
use Rattle.core_terms.specs.declared.outcome.Outcome.TheVariants.{Done, Trapped, Out}
use Rattle.ideal_meaning.specs.Checked.{Taking, before_all}
use Rattle.ideal_meaning.specs.Following.{after_bytes}
use Rattle.ideal_meaning.specs.Frames.{offered}
use Rattle.value_store.specs.Nodes.{Node}
use Rattle.value_store.specs.Markings.{VerifierMarking}
use Rattle.value_store.specs.declared.node.Ref.{Ref}
use Rattle.mode_vm.specs.Meanings.{RunOf}
use Rattle.mode_vm.specs.Runs.{OutcomeIs, StopIs}
use Rattle.mode_vm.specs.Runs as runs
use Rattle.mode_vm.specs.declared.mode.Stop.{Stop}
use Rattle.mode_vm.specs.declared.mode.Stop.TheVariants.{Mode, NoMemory}
use Rattle.reuse_buffer.specs.Kept.{Kept, kept}
use Rattle.verifier_mode.specs.declared.verifier.VerifierFault.{VerifierFault}
use Rattle.verifier_mode.specs.CheckedRuns.{CameTo, IsChecked, IsLeft}
use Rattle.verifier_mode.specs.Faults.{fault_cause}
use Rattle.verifier_mode.specs.Spelled.{OutcomeStands}
use Rattle.verifier_mode.specs.Takings.{FollowsFrames, HasCome, MovesOn, taking}

-- Q is the program by its types alone, by which the verifier is followed
module _ (hash : Hash) (P Q : Program) (z : Ty) (nodes : List Node) (limit : ℕ) (ring : Kept) (place : ℕ) (left : Option (List ℕ)) (k : ℕ) (run : RunOf (VerifierMarking hash)) where
  is_left : (w : Taking) → FollowsFrames Q limit ring place left w → IsLeft left w
  is_left w h = (h.bytes, h.told, ap (λ (w : Taking). w.left) h.is)

  pub came_to : (o : Outcome Ref) → OutcomeIs (VerifierMarking hash) P z fault_cause (FollowsFrames Q limit ring place left) nodes k o run → CameTo P nodes z left run o
  came_to (Done r) h = (h.0, k, h.1, is_left h.1 h.2, h.3, h.4)
  came_to (Trapped trap) h = (k, h.0, is_left h.0 h.1, h.2)
  came_to Out h = (k, h.0, is_left h.0 h.1, h.2)

  pub stopped_as : (size : ℕ) (all : List (List ℕ)) (s : Stop VerifierFault) → StopIs (VerifierMarking hash) P z fault_cause (FollowsFrames Q limit ring place left) nodes k s run
      → IsChecked P nodes z size left all run (Err s)
  stopped_as size all (Mode f) h = λ c e. (let a = h c e in (k, a.0, a.1))
  stopped_as size all NoMemory h = tt

-- the value of an outcome stands among the nodes
pub outcome_stands : (hash : Hash) (P : Program) (z : Ty) (nodes : List Node) (o : Outcome Ref) → runs.OutcomeStands (VerifierMarking hash) P z nodes o → OutcomeStands P nodes z o
outcome_stands hash P z nodes (Done r) h = h
outcome_stands hash P z nodes (Trapped trap) h = tt
outcome_stands hash P z nodes Out h = tt

-- the verifier that was made for a ring
module _ (P : Program) (ring : Kept) (left : Option (List ℕ)) (limit : ℕ) (used : Kept) (within : limit ≡ P.format.limit) (same : used ≡ ring)
    (bytes : List ℕ) (recent : List (List ℕ)) (told : left ≡ Some bytes) (holds : ring ≡ kept ring.size recent) where
  used_holds : used ≡ kept used.size recent
  used_holds = subst (λ (r : Kept). r ≡ kept r.size recent) (sym same) holds

  -- before its first piece
  pub starts : (place : ℕ) → place ≡ 0 → FollowsFrames P limit used place left (before_all (length bytes) (offered P.format.limit bytes ring.size recent))
  starts place first = record {
    bytes = bytes;
    recent = recent;
    within = within;
    told = told;
    holds = used_holds;
    is = ap₂ (λ (r : Kept) (place : ℕ). taking P r.size recent bytes place) (sym same) (sym first);
  }

  -- behind its last piece
  pub ends : (limit' : ℕ) (after out : Kept) (left' : Option (List ℕ)) → MovesOn limit used left limit' after left' → out ≡ after
      → (out.size ≡ ring.size) × HasCome P.format.limit out left' (after_bytes P.format.limit bytes ring.size recent)
  ends limit' after out left' moves is = (
    ap (λ (r : Kept). r.size) is ∙ moves.size ∙ ap (λ (r : Kept). r.size) same,
    subst (λ (r : Kept). HasCome P.format.limit r left' (after_bytes P.format.limit bytes ring.size recent)) (sym is)
        (subst (λ (r : Kept). HasCome P.format.limit after left' (after_bytes P.format.limit bytes r.size recent)) same
        (subst (λ limit. HasCome limit after left' (after_bytes limit bytes used.size recent)) within (moves.come bytes recent told used_holds))),
  )
