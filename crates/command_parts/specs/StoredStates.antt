-- Ideal states in a store, over the prover's nodes: each authenticated value with its SHA-256 digest.
use Rattle.sha2.specs.Sha256.{sha256}
use Rattle.core_terms.specs.Projection.{digest_at}
use Rattle.core_terms.specs.Terms.{Program}
use Rattle.core_terms.specs.Values.{Value}
use Rattle.images.specs.declared.load.Loaded.{Loaded}
use Rattle.value_store.specs.Markings.{HasLimit}
use Rattle.value_store.specs.Standing.{ProverNodes, StandsFor}
use Rattle.value_store.specs.Stores.{nodes_in, store_lent}

-- the root that was loaded stands for this ideal state, in a store with the limit of the program's format
pub record IsStoredState (P : Program) (loaded : Loaded) (v : Value) : Type 0 where
  pub stands : StandsFor (ProverNodes (digest_at sha256 P)) P.types (nodes_in loaded.store) loaded.root.0 P.state v
  pub limit : HasLimit P (store_lent loaded.store)
