-- Nodes of ints, as the state and the argument of a call.
use Rattle.std.proofs.Common.{◌≡◌, ◌∷◌, [], ℕ, ℤ, List, ap, slice_index_or, subst, sym}
use Rattle.core_terms.specs.Formats.{Hash}
use Rattle.core_terms.specs.Projection.{digest_at}
use Rattle.core_terms.specs.Roles.{argument_type}
use Rattle.core_terms.specs.Terms.{Program, function_at}
use Rattle.core_terms.specs.Types.{IntTy, UnitTy}
use Rattle.core_terms.specs.Values.{IntV}
use Rattle.value_store.specs.Nodes.{Node}
use Rattle.value_store.specs.Standing.{ProverNodes, StandsFor}
use Rattle.value_store.specs.declared.node.Ref.{Ref}
use Rattle.mode_vm.specs.StateCalls.{IsCalledOn}

module _ (hash : Hash) (P : Program) (f : ℕ) (nodes : List Node) (state argument : Ref) (z y : ℤ)
    (is_state : P.state ≡ IntTy) (parameters : (function_at P f).parameters ≡ IntTy ∷ IntTy ∷ [])
    (first : StandsFor (ProverNodes (digest_at hash P)) P.types nodes state.0 IntTy (IntV z))
    (second : StandsFor (ProverNodes (digest_at hash P)) P.types nodes argument.0 IntTy (IntV y)) where
  state_stands : StandsFor (ProverNodes (digest_at hash P)) P.types nodes state.0 P.state (IntV z)
  state_stands = subst (λ t. StandsFor (ProverNodes (digest_at hash P)) P.types nodes state.0 t (IntV z)) (sym is_state) first

  argument_stands : StandsFor (ProverNodes (digest_at hash P)) P.types nodes argument.0 (argument_type P f) (IntV y)
  argument_stands =
      subst (λ t. StandsFor (ProverNodes (digest_at hash P)) P.types nodes argument.0 t (IntV y))
      (sym (ap (λ ts. slice_index_or ts 1 UnitTy) parameters)) second

  pub called : IsCalledOn hash P f nodes state argument (IntV z) (IntV y)
  called = record { state_stands = state_stands; argument_stands = argument_stands }
