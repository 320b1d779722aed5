-- The state and the argument of a call, put into a store.
use Rattle.std.specs.Prelude.{◌≡◌, ℕ, List, [], ◌∷◌, Result, Ok, Err, ⊤}
use Rattle.core_terms.specs.Types.{Ty}
use Rattle.core_terms.specs.Values.{Value, NoV, AndV}
use Rattle.core_terms.specs.Reading.{Good, BadAt}
use Rattle.core_terms.specs.Terms.{Program}
use Rattle.core_terms.specs.Projection.{read_at}
use Rattle.value_store.specs.Nodes.{Node}
use Rattle.value_store.specs.Standing.{AllStandFor, VerifierNodes}
use Rattle.value_store.specs.CodeNodes.{numbers_of}
use Rattle.value_store.specs.declared.node.Ref.{Ref}
use Rattle.verifier_mode.specs.declared.verdict.CallFault.{CallFault}
use Rattle.verifier_mode.specs.declared.verdict.CallFault.TheVariants.{BadState, BadArgument, NoMemory}

-- the bytes spell this value
abbrev pub IsReadAs : Program → Ty → List ℕ → Value → Type 0
IsReadAs P t bytes v = (place : ℕ) × (read_at P t bytes ≡ Good v [] place)

-- The state of a call and its argument, which is of type t, were read, in this order, and stand among the nodes; or the first that is
-- no spelling is told.
abbrev pub ArePut : Program → List Node → (t : Ty) → (state argument : List ℕ) → Result (List Ref) CallFault → Type 0
ArePut P nodes t state argument (Ok refs) = (s : Value) × (a : Value) × IsReadAs P P.state state s × IsReadAs P t argument a
    × AllStandFor VerifierNodes P.types nodes (numbers_of refs) (P.state ∷ t ∷ []) (AndV s (AndV a NoV))
ArePut P nodes t state argument (Err (BadState offset)) = read_at P P.state state ≡ BadAt offset
ArePut P nodes t state argument (Err (BadArgument offset)) = (s : Value) × IsReadAs P P.state state s × (read_at P t argument ≡ BadAt offset)
ArePut P nodes t state argument (Err NoMemory) = ⊤
