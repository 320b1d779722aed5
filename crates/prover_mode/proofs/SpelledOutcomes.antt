-- The outcome of a call, with the spelling of the projection of its value.
use Rattle.std.proofs.Common.{◌≡◌, ℕ, List, ap, subst}
use Rattle.core_terms.specs.Formats.{Hash, IsHash}
use Rattle.core_terms.specs.ProgramTypes.{types_meaning}
use Rattle.core_terms.specs.Projection.{digest_at, projection}
use Rattle.core_terms.specs.Spelling.{spelling}
use Rattle.core_terms.specs.Types.{Ty}
use Rattle.core_terms.specs.Values.{Value}
use Rattle.core_terms.specs.declared.program_types.Types.{Types}
use Rattle.core_terms.specs.declared.outcome.Outcome.{Outcome}
use Rattle.core_terms.specs.declared.outcome.Outcome.TheVariants.{Done, Trapped, Out}
use Rattle.core_terms.specs.declared.outcome.Trap.{Trap}
use Rattle.ideal_meaning.specs.Ideal as ideal
use Rattle.value_store.specs.Nodes.{AreSound, Node}
use Rattle.value_store.specs.Standing.{ProverNodes, StandsFor, VerifierNodes}
use Rattle.value_store.specs.declared.node.Ref.{Ref}
use Rattle.value_store.proofs.ProverNodes.{shown_shallow}
use Rattle.value_store.proofs.StandingNodes.{within_stands}
use Rattle.value_store.proofs.TypedNodes.{shallow_stands}
use Rattle.mode_vm.specs.IdealRuns.{IsOutcome}
use Rattle.ideal_meaning.specs.SpelledOutcomes.{SpellsOutcome}

module _ (hash : Hash) (types : Types) (nodes : List Node) (t : Ty) (r : Outcome Ref) where
  abbrev Stands : ℕ → Value → Type 0
  Stands value v = StandsFor (ProverNodes (digest_at hash (types_meaning types))) (types_meaning types).types nodes value t v

  abbrev Ends : Outcome Ref → ideal.Outcome → Type 0
  Ends r o = IsOutcome (ProverNodes (digest_at hash (types_meaning types))) (types_meaning types).types nodes t r o

  abbrev Tells : ideal.Outcome → Outcome (List ℕ) → Type 0
  Tells o told = SpellsOutcome (types_meaning types) t (ideal.outcome_projection hash (types_meaning types) t o) told

  -- the projection of its value stands over the verifier's nodes
  pub done_shows : IsHash hash → (value : Ref) → r ≡ Done value → (o : ideal.Outcome) → Ends r o
      → (v : Value) × StandsFor VerifierNodes (types_meaning types).types nodes value.0 t v
  done_shows is_hash value is o h =
      let done = subst (λ r. Ends r o) is h in
      (_, shown_shallow (digest_at hash (types_meaning types)) (types_meaning types).types (λ t bytes. is_hash _) nodes t done.0 value.0 done.1)

  -- each way to end is told
  pub tells_done : IsHash hash → AreSound (types_meaning types).format.limit nodes → (value : Ref) (bytes : List ℕ) → r ≡ Done value
      → ((v : Value) → Stands value.0 v → bytes ≡ spelling (projection hash (types_meaning types) t v)) → (o : ideal.Outcome) → Ends r o → Tells o (Done bytes)
  tells_done is_hash sound value bytes is spelled o h =
      let P = types_meaning types in
      let done = subst (λ r. Ends r o) is h in
      let seen = projection hash P t done.0 in
      let shown = shown_shallow (digest_at hash P) P.types (λ t bytes. is_hash _) nodes t done.0 value.0 done.1 in (
        seen,
        ap (ideal.outcome_projection hash P t) done.2,
        record {
          shape = shallow_stands P.types nodes t seen value.0 shown;
          within = within_stands VerifierNodes P.types nodes t seen value.0 sound shown;
          is = spelled done.0 done.1;
        },
      )

  pub tells_trap : (trap : Trap) → r ≡ Trapped trap → (o : ideal.Outcome) → Ends r o → Tells o (Trapped trap)
  tells_trap trap is o h = ap (ideal.outcome_projection hash (types_meaning types) t) (subst (λ r. Ends r o) is h)

  pub tells_out : r ≡ Out → (o : ideal.Outcome) → Ends r o → Tells o Out
  tells_out is o h = ap (ideal.outcome_projection hash (types_meaning types) t) (subst (λ r. Ends r o) is h)
