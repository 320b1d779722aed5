-- What a run in ideal mode comes to over nodes of a kind, as an outcome of the definitions.
use Rattle.std.proofs.Common.{ℕ, List, Option, ap}
use Rattle.core_terms.specs.Formats.{Hash}
use Rattle.core_terms.specs.Projection.{digest_at}
use Rattle.core_terms.specs.Types.{Ty}
use Rattle.core_terms.specs.Terms.{Program}
use Rattle.core_terms.specs.declared.outcome.Outcome.{Outcome}
use Rattle.core_terms.specs.declared.outcome.Outcome.TheVariants as told
use Rattle.ideal_meaning.specs.Ideal.{Opened, outcome}
use Rattle.value_store.specs.Nodes.{Node}
use Rattle.value_store.specs.Markings.{IdealMarking, ProverMarking}
use Rattle.value_store.specs.Standing.{IdealNodes, ProverNodes}
use Rattle.value_store.specs.declared.node.Ref.{Ref}
use Rattle.mode_vm.specs.Meanings.{CauseOf, RunOf}
use Rattle.mode_vm.specs.Runs.{OutcomeIs}
use Rattle.mode_vm.specs.IdealRuns.{IsOutcome}

module _ (P : Program) (z : Ty) {F : Type 0} where
  pub tells_outcome : (cause : F → Option (CauseOf IdealMarking)) (New : List Opened → Type 0) (nodes : List Node) (k : ℕ) (o : Outcome Ref) (run : RunOf IdealMarking)
      → OutcomeIs IdealMarking P z cause New nodes k o run → IsOutcome IdealNodes P.types nodes z o (outcome run)
  tells_outcome cause New nodes k (told.Done r) run h = (h.0, h.3, ap outcome h.4)
  tells_outcome cause New nodes k (told.Trapped trap) run h = ap outcome h.2
  tells_outcome cause New nodes k told.Out run h = ap outcome h.2

  pub tells_digested : (hash : Hash) (cause : F → Option (CauseOf (ProverMarking hash))) (New : List Opened → Type 0) (nodes : List Node) (k : ℕ) (o : Outcome Ref) (run : RunOf (ProverMarking hash))
      → OutcomeIs (ProverMarking hash) P z cause New nodes k o run → IsOutcome (ProverNodes (digest_at hash P)) P.types nodes z o (outcome run)
  tells_digested hash cause New nodes k (told.Done r) run h = (h.0, h.3, ap outcome h.4)
  tells_digested hash cause New nodes k (told.Trapped trap) run h = ap outcome h.2
  tells_digested hash cause New nodes k told.Out run h = ap outcome h.2
