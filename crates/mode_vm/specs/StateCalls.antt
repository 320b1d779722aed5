-- Calls on a state and an argument, and how their outcomes are told.
use Rattle.std.specs.Prelude.{ℕ, List}
use Rattle.core_terms.specs.Formats.{Hash}
use Rattle.core_terms.specs.Projection.{digest_at}
use Rattle.core_terms.specs.Roles.{argument_type}
use Rattle.core_terms.specs.RoleTypes.{IsRole, ReadsState}
use Rattle.core_terms.specs.Terms.{Kind, Program}
use Rattle.core_terms.specs.Types.{Ty}
use Rattle.core_terms.specs.Values.{Value}
use Rattle.value_store.specs.Nodes.{Node}
use Rattle.value_store.specs.Standing.{ProverNodes, StandsFor}
use Rattle.value_store.specs.declared.node.Ref.{Ref}

-- Function f takes a state and an argument: it is a query or an update of the program.
abbrev pub TakesState : Program → ℕ → Type 0
TakesState P f = (kind : Kind) × (argument : Ty) × (answer : Ty) × IsRole P f kind argument answer × ReadsState kind

-- among the prover's nodes these two stand for a state and an argument of function f
pub record IsCalledOn (hash : Hash) (P : Program) (f : ℕ) (nodes : List Node) (state argument : Ref) (s a : Value) : Type 0 where
  pub state_stands : StandsFor (ProverNodes (digest_at hash P)) P.types nodes state.0 P.state s
  pub argument_stands : StandsFor (ProverNodes (digest_at hash P)) P.types nodes argument.0 (argument_type P f) a
