-- The versions of a server, as nodes of its store.
use Rattle.std.specs.Prelude.{List}
use Rattle.core_terms.specs.Formats.{Hash}
use Rattle.core_terms.specs.Projection.{digest_at}
use Rattle.core_terms.specs.Terms.{Program}
use Rattle.core_terms.specs.Values.{Value}
use Rattle.value_store.specs.Nodes.{Node}
use Rattle.value_store.specs.Standing.{ProverNodes, StandsFor}
use Rattle.value_store.specs.declared.node.Ref.{Ref}
use Rattle.session_turns.specs.Rows.{AreAlike}

module _ (hash : Hash) (P : Program) (nodes : List Node) where
  -- among the prover's nodes this one stands for a state of the program
  abbrev pub IsVersion : Ref → Value → Type 0
  IsVersion r v = StandsFor (ProverNodes (digest_at hash P)) P.types nodes r.0 P.state v

  abbrev pub AreVersions : List Ref → List Value → Type 0
  AreVersions = AreAlike IsVersion
