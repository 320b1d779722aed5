-- Calls on a state and an argument, which stand among the prover's nodes.
use Rattle.std.proofs.Common.{◌≡◌, ℕ, List, [], ◌∷◌, slice_index_or, sym, ap, ◌∙◌, subst}
use Rattle.core_terms.specs.Formats.{Hash, IsFormat}
use Rattle.core_terms.specs.Programs.{meaning}
use Rattle.core_terms.specs.Projection.{digest_at, Fits}
use Rattle.core_terms.specs.Roles.{argument_type}
use Rattle.core_terms.specs.Terms.{Program, function_at}
use Rattle.core_terms.specs.TypingRules.{IsTyped}
use Rattle.core_terms.specs.Types.{Ty, UnitTy}
use Rattle.core_terms.specs.Values.{Value, AuthWithin, IsIdeal}
use Rattle.core_terms.specs.declared.program.Program.{Program as Coded}
use Rattle.core_terms.proofs.CodePrograms.{every_format}
use Rattle.core_terms.proofs.LawProofs.{typing_test_is_exact}
use Rattle.ideal_meaning.specs.Headline.{call_values}
use Rattle.ideal_meaning.proofs.RoleCalls.{parameters_are}
use Rattle.value_store.specs.Nodes.{AreSound, Node}
use Rattle.value_store.specs.Standing.{AllStandFor, Kind, ProverNodes, StandsFor}
use Rattle.value_store.specs.declared.node.Ref.{Ref}
use Rattle.value_store.proofs.DeepNodes.{standing_is_deep}
use Rattle.value_store.proofs.StandingNodes.{within_stands}
use Rattle.value_store.proofs.TypedNodes.{ideal_stands, prover_refers}
use Rattle.mode_vm.specs.StateCalls.{IsCalledOn, TakesState}

-- a program of the code is well-typed, and its format is one that the laws speak of
pub is_typed : (p : Coded) → IsTyped (meaning p)
is_typed p = (typing_test_is_exact (meaning p)).0 p.typed

pub is_format : (p : Coded) → IsFormat (meaning p).format
is_format p = every_format p.types p.functions.items

module _ (P : Program) (f : ℕ) (takes : TakesState P f) where
  parameters : (function_at P f).parameters ≡ P.state ∷ takes.1 ∷ []
  parameters = parameters_are P f takes.0 takes.1 takes.2 takes.3 takes.4

  -- the argument's type is that of the role
  pub argument_is : argument_type P f ≡ takes.1
  argument_is = ap (λ ts. slice_index_or ts 1 UnitTy) parameters

  -- the parameters are the state and the argument
  pub parameters_of : (function_at P f).parameters ≡ P.state ∷ argument_type P f ∷ []
  parameters_of = parameters ∙ ap (λ (t : Ty). P.state ∷ t ∷ []) (sym argument_is)

  -- what stands for a state and an argument
  module _ (hash : Hash) (nodes : List Node) (state argument : Ref) (s a : Value) (call : IsCalledOn hash P f nodes state argument s a) where
    abbrev prover : Kind
    prover = ProverNodes (digest_at hash P)

    argument_stands : StandsFor prover P.types nodes argument.0 takes.1 a
    argument_stands = subst (λ t. StandsFor prover P.types nodes argument.0 t a) argument_is call.argument_stands

    -- stands for what the function takes
    pub both_stand : AllStandFor prover P.types nodes (state.0 ∷ argument.0 ∷ []) (function_at P f).parameters (call_values s a)
    both_stand = subst (λ ts. AllStandFor prover P.types nodes (state.0 ∷ argument.0 ∷ []) ts (call_values s a)) (sym parameters) (call.state_stands, (argument_stands, tt))

    -- is ideal
    pub state_ideal : IsIdeal P.types P.state s
    state_ideal = ideal_stands prover P.types (prover_refers (digest_at hash P) P.types) nodes P.state s state.0 call.state_stands

    pub argument_ideal : IsIdeal P.types takes.1 a
    argument_ideal = ideal_stands prover P.types (prover_refers (digest_at hash P) P.types) nodes takes.1 a argument.0 argument_stands

-- Of a program of the code they are within the limits, with all that is authenticated in the state.
module _ (hash : Hash) (p : Coded) (f : ℕ) (takes : TakesState (meaning p) f) (nodes : List Node) (sound : AreSound (meaning p).format.limit nodes) (state argument : Ref) (s a : Value)
    (call : IsCalledOn hash (meaning p) f nodes state argument s a) where
  abbrev P : Program
  P = meaning p

  pub state_fits : Fits P P.state s
  state_fits = within_stands (ProverNodes (digest_at hash P)) P.types nodes P.state s state.0 sound call.state_stands

  pub argument_fits : Fits P takes.1 a
  argument_fits = within_stands (ProverNodes (digest_at hash P)) P.types nodes takes.1 a argument.0 sound (argument_stands P f takes hash nodes state argument s a call)

  pub state_deep : AuthWithin P.format.limit P.types P.state s
  state_deep = standing_is_deep P.format.limit (digest_at hash P) P.types nodes state.0 P.state s sound call.state_stands
