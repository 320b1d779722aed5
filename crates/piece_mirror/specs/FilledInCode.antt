-- Nodes of the prover that stand for a state whose pieces are put into a mirror.
use Rattle.std.specs.Prelude.{ℕ, List}
use Rattle.core_terms.specs.Formats.{Hash}
use Rattle.core_terms.specs.Projection.{digest_at}
use Rattle.core_terms.specs.Terms.{Program}
use Rattle.core_terms.specs.Types.{Ty}
use Rattle.core_terms.specs.Values.{Value}
use Rattle.value_store.specs.Nodes.{Node}
use Rattle.value_store.specs.Standing.{ProverNodes, StandsFor}

module _ (hash : Hash) (P : Program) where
  -- the node stands, over the prover's nodes, for this value of the type
  abbrev pub IsProverValue : List Node → ℕ → Ty → Value → Type 0
  IsProverValue nodes r t v = StandsFor (ProverNodes (digest_at hash P)) P.types nodes r t v

  -- for this value of the state's type
  abbrev pub IsProverState : List Node → ℕ → Value → Type 0
  IsProverState nodes root v = IsProverValue nodes root P.state v
