-- What a journal gives is what a server may begin with: each version stands among nodes that are within the limits.
use Rattle.std.specs.List.{AllByRecursion}
use Rattle.std.proofs.Common.{◌≡◌, ◌≤◌, List, [], ◌∷◌, length, sym, ap, subst, arith}
use Rattle.core_terms.specs.Formats.{Hash}
use Rattle.core_terms.specs.Projection.{digest_at}
use Rattle.core_terms.specs.Terms.{Program}
use Rattle.core_terms.specs.Values.{Value}
use Rattle.session_meaning.specs.Begun.{IsBegun}
use Rattle.session_meaning.specs.Server as meant
use Rattle.session_meaning.specs.ServedHistories.{IsHistory}
use Rattle.session_meaning.specs.Within.{IsCallWithin, IsStateWithin}
use Rattle.session_turns.specs.Sharing.{Shares}
use Rattle.session_turns.specs.Versions.{AreVersions}
use Rattle.session_turns.specs.declared.shared.Shared.{Shared}
use Rattle.value_store.specs.Nodes.{AreSound, Node}
use Rattle.value_store.specs.Standing.{Kind, ProverNodes}
use Rattle.value_store.specs.Stores.{nodes_in}
use Rattle.value_store.specs.declared.node.Ref.{Ref}
use Rattle.value_store.proofs.DeepNodes.{standing_is_deep}
use Rattle.value_store.proofs.StandingNodes.{within_stands}
use Rattle.value_store.proofs.TypedNodes.{ideal_stands, prover_refers}
use Rattle.version_journal.specs.JournalLaws.{AreWritable}
use Rattle.version_journal.proofs.Stepping.{as_many}
use Rattle.version_journal.proofs.Survival.{writable_is_history}

module _ (hash : Hash) (P : Program) where
  abbrev kind : Kind
  kind = ProverNodes (digest_at hash P)

  versions_within : (nodes : List Node) → AreSound P.format.limit nodes → (rs : List Ref) (vs : List Value) → AreVersions hash P nodes rs vs → AllByRecursion (IsStateWithin P) vs
  versions_within nodes sound [] [] are = tt
  versions_within nodes sound (r ∷ rs) (v ∷ vs) are = (
    record {
      ideal = ideal_stands kind P.types (prover_refers (digest_at hash P) P.types) nodes P.state v r.0 are.0;
      fits = within_stands kind P.types nodes P.state v r.0 sound are.0;
      deep = standing_is_deep P.format.limit (digest_at hash P) P.types nodes r.0 P.state v sound are.0;
    },
    versions_within nodes sound rs vs are.1,
  )
  versions_within nodes sound rs vs are = elim are [ ]

  pub begun_so : (first : Value) (same : meant.Shared) (made : List Value) → same.versions ≡ first ∷ made → AreWritable P first same.commits made
      → AllByRecursion (IsCallWithin P) same.commits → length same.commits ≤ 4095 → (shared : Shared) → Shares hash P shared same → IsBegun P same
  begun_so first same made is written asked few shared shares = record {
    within = versions_within (nodes_in shared.store) (subst (λ n. AreSound n (nodes_in shared.store)) shares.limit.is shared.store.sound) shared.versions.items same.versions shares.versions;
    few = omega (arith, ap length is, as_many P first same.commits made written, few);
    made = subst (λ (vs : List Value). IsHistory P vs same.commits) (sym is) (writable_is_history P first same.commits made written);
    asked = asked;
  }
