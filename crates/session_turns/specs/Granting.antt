-- A call that is granted, and its argument.
use Rattle.std.specs.Prelude.{◌≡◌, ℕ, ◌<◌, List, ◌++◌, length, take, Result, Ok, Err, ⊤}
use Rattle.core_terms.specs.Formats.{Hash}
use Rattle.core_terms.specs.Projection.{digest_at}
use Rattle.core_terms.specs.Roles.{argument_type}
use Rattle.core_terms.specs.Terms.{Program}
use Rattle.core_terms.specs.Values.{Value}
use Rattle.mode_vm.specs.StateCalls.{TakesState}
use Rattle.session_meaning.specs.Calls.{role_in}
use Rattle.session_meaning.specs.Causes as cause
use Rattle.session_meaning.specs.Server as meant
use Rattle.value_store.specs.Nodes.{AreSound, Node}
use Rattle.value_store.specs.Overs.{own_nodes}
use Rattle.value_store.specs.Standing.{ProverNodes, StandsFor}
use Rattle.session_turns.specs.Refusals.{refusal_meant}
use Rattle.session_turns.specs.declared.grants.Granted.{Granted}
use Rattle.session_turns.specs.declared.refusal.Denial.{Denial}
use Rattle.session_turns.specs.declared.refusal.Denial.TheVariants.{Refused, NoMemory}

module _ (hash : Hash) (P : Program) where
  -- The function is that of the role, which takes a state, and the argument stands among own nodes behind those of the store.
  pub record HoldsCall (nodes : List Node) (granted : Granted) (role : ℕ) (a : Value) : Type 0 where
    pub of_role : granted.function.0 ≡ (role_in P role).function
    pub there : granted.function.0 < length P.functions
    pub takes : TakesState P granted.function.0
    pub all : granted.from ≡ length nodes
    pub sound : AreSound P.format.limit (take granted.from nodes ++ own_nodes granted.own)
    pub stands : StandsFor (ProverNodes (digest_at hash P)) P.types (take granted.from nodes ++ own_nodes granted.own) granted.argument.0 (argument_type P granted.function.0) a

  -- What is granted is held, and what is refused is refused for the same cause. Where memory is wanting nothing is said.
  abbrev pub IsGranted : meant.Session → (role fuel : ℕ) → List Node → Result Granted Denial → Result meant.Admitted cause.Refusal → Type 0
  IsGranted s role fuel nodes (Ok granted) tested =
      (a : Value) × (tested ≡ Ok (record { session = s; call = record { role = role; argument = a; fuel = fuel } })) × HoldsCall nodes granted role a
  IsGranted s role fuel nodes (Err (Refused refusal)) tested = tested ≡ Err (refusal_meant refusal)
  IsGranted s role fuel nodes (Err NoMemory) tested = ⊤
