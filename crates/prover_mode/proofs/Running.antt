-- What a prover opens, and what its run comes to.
use Rattle.std.proofs.Common.{ℕ, List, [], ◌∷◌, ◌++◌, Option, sym, subst}
use Rattle.core_terms.specs.Formats.{Hash}
use Rattle.core_terms.specs.Terms.{Program}
use Rattle.core_terms.specs.Types.{Ty}
use Rattle.core_terms.specs.declared.program_types.Types.{Types}
use Rattle.core_terms.specs.declared.outcome.Outcome.{Outcome}
use Rattle.core_terms.specs.declared.outcome.Outcome.TheVariants as told
use Rattle.ideal_meaning.specs.Ideal as ideal
use Rattle.ideal_meaning.specs.Run.{state_of}
use Rattle.value_store.specs.Nodes.{Node}
use Rattle.value_store.specs.Markings.{ProverMarking}
use Rattle.value_store.specs.declared.node.Ref.{Ref}
use Rattle.mode_vm.specs.Meanings.{CauseOf, RunOf}
use Rattle.mode_vm.specs.Runs.{OutcomeIs}
use Rattle.prover_mode.specs.Seen.{AreSeen, IsSeen}
use Rattle.prover_mode.specs.declared.opened.Opened.{Opened}

module _ (hash : Hash) (types : Types) (nodes : List Node) where
  -- one more was opened
  pub seen_more : (os : List Opened) (seen : List ideal.Opened) (o : Opened) (s : ideal.Opened) → IsSeen hash types nodes o s → AreSeen hash types nodes os seen
      → AreSeen hash types nodes (os ++ o ∷ []) (seen ++ s ∷ [])
  seen_more [] [] o s h k = (h, tt)
  seen_more (a ∷ os) (b ∷ seen) o s h k = (k.0, seen_more os seen o s h k.1)
  seen_more [] (b ∷ seen) o s h k = elim k [ ]
  seen_more (a ∷ os) [] o s h k = elim k [ ]

  -- what was opened when a run came to an outcome
  pub seen_then : (P : Program) (z : Ty) {F : Type 0} (cause : F → Option (CauseOf (ProverMarking hash))) (opened : List Opened) (k : ℕ) (o : Outcome Ref) (run : RunOf (ProverMarking hash))
      → OutcomeIs (ProverMarking hash) P z cause (AreSeen hash types nodes opened) nodes k o run → AreSeen hash types nodes opened (state_of run)
  seen_then P z cause opened k (told.Done r) run h = subst (λ (run : RunOf (ProverMarking hash)). AreSeen hash types nodes opened (state_of run)) (sym h.4) h.2
  seen_then P z cause opened k (told.Trapped trap) run h = subst (λ (run : RunOf (ProverMarking hash)). AreSeen hash types nodes opened (state_of run)) (sym h.2) h.1
  seen_then P z cause opened k told.Out run h = subst (λ (run : RunOf (ProverMarking hash)). AreSeen hash types nodes opened (state_of run)) (sym h.2) h.1
