-- The proof file of a call is accepted, by the headline's companion.
use Rattle.std.proofs.Common.{◌≡◌, ℕ, ◌≤◌, List, sym, subst}
use Rattle.core_terms.specs.Formats.{Hash, IsHash}
use Rattle.core_terms.specs.Programs.{meaning}
use Rattle.core_terms.specs.Projection.{projection}
use Rattle.core_terms.specs.RoleTypes.{role_result}
use Rattle.core_terms.specs.Spelling.{spelling}
use Rattle.core_terms.specs.Terms.{Program, function_at}
use Rattle.core_terms.specs.Types.{Ty}
use Rattle.core_terms.specs.Values.{Value}
use Rattle.core_terms.specs.declared.program.Program.{Program as Coded}
use Rattle.ideal_meaning.specs.Checked.{Accepted, verdict}
use Rattle.ideal_meaning.specs.Frames.{proof_file}
use Rattle.ideal_meaning.specs.Headline.{call_values}
use Rattle.ideal_meaning.specs.Ideal.{bytes_of, honest_pieces, ideal, outcome, outcome_projection}
use Rattle.ideal_meaning.proofs.Companion.{companion}
use Rattle.ideal_meaning.proofs.RoleCalls.{result_is}
use Rattle.value_store.specs.Nodes.{AreSound, Node}
use Rattle.value_store.specs.declared.node.Ref.{Ref}
use Rattle.mode_vm.specs.StateCalls.{IsCalledOn, TakesState}
use Rattle.mode_vm.proofs.StateCalls.{argument_fits, argument_ideal, argument_is, is_format, is_typed, state_deep, state_fits, state_ideal}
use Rattle.prover_mode.specs.Calls.{IsAccepted}

module _ (hash : Hash) (is_hash : IsHash hash) (p : Coded) (f : ℕ) (takes : TakesState (meaning p) f) (nodes : List Node) (sound : AreSound (meaning p).format.limit nodes) (state argument : Ref) (s a : Value)
    (call : IsCalledOn hash (meaning p) f nodes state argument s a) (k n : ℕ) (fits : n ≤ (meaning p).format.most_kept) where
  abbrev P : Program
  P = meaning p

  abbrev file : List ℕ
  file = proof_file P.format n (bytes_of (honest_pieces hash P f (call_values s a) k))

  -- by the argument's type and by that of the result
  abbrev Accepts : (t z : Ty) → Type 0
  Accepts t z =
      verdict hash P t f (spelling (projection hash P P.state s)) (spelling (projection hash P t a)) k file ≡ Accepted (outcome_projection hash P z (outcome (ideal P f (call_values s a) k)))

  accepts : Accepts takes.1 (role_result takes.0 P.state takes.2)
  accepts =
      companion hash is_hash P (is_format p) (is_typed p) f takes.0 takes.1 takes.2 takes.3 takes.4 s a (state_ideal P f takes hash nodes state argument s a call)
      (argument_ideal P f takes hash nodes state argument s a call) (state_fits hash p f takes nodes sound state argument s a call)
      (argument_fits hash p f takes nodes sound state argument s a call) (state_deep hash p f takes nodes sound state argument s a call) k n fits

  pub file_accepted : IsAccepted hash P f s a k file
  file_accepted =
      subst (λ t. Accepts t (function_at P f).result) (sym (argument_is P f takes)) (subst (λ z. Accepts takes.1 z) (sym (result_is P f takes.0 takes.1 takes.2 takes.3)) accepts)
