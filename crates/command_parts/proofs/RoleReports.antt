-- The line of a value that stands over the prover's nodes, and the state that a role makes.
use Rattle.std.proofs.Common.{◌≡◌, ℕ, ◌<◌, ◌≤◌, ◌^◌, List, length, refl, sym, ap, ◌∙◌, subst, arith}
use Rattle.sha2.specs.Sha256.{sha256}
use Rattle.sha2.proofs.Facts256.{length-sha256}
use Rattle.core_terms.specs.Programs.{constructor_names, meaning, types_of}
use Rattle.core_terms.specs.Projection.{digest_at, projection}
use Rattle.core_terms.specs.RoleViews.{role_kind_of}
use Rattle.core_terms.specs.Spelling.{spelling}
use Rattle.core_terms.specs.Terms as tree
use Rattle.core_terms.specs.TypeTables.{type_at}
use Rattle.core_terms.specs.Types.{PairTy, Ty}
use Rattle.core_terms.specs.Values.{IsIdeal, IsShallow, PairV, Value}
use Rattle.core_terms.specs.declared.program.Program.{Program}
use Rattle.core_terms.proofs.CodePrograms.{is_format}
use Rattle.ideal_meaning.proofs.Projections.{length_piece}
use Rattle.ideal_meaning.specs.Ideal.{Done}
use Rattle.printed_lines.specs.OutcomeLines.{named_done_line}
use Rattle.value_store.specs.Nodes.{AreSound, Node, greatest_limit}
use Rattle.value_store.specs.Standing.{StandsFor}
use Rattle.value_store.proofs.StandingNodes.{within_stands}
use Rattle.value_store.proofs.TypedNodes.{ideal_stands, prover_refers}
use Rattle.command_parts.specs.OutcomeAnswers.{outcome_told}
use Rattle.command_parts.specs.AnswerForms.{says}
use Rattle.command_parts.specs.RoleCalls.{kind_called, projection_called, result_called, state_made}
use Rattle.command_parts.specs.RolesCalled.{IsCalled, projection_line, prover_nodes, role_of}
use Rattle.command_parts.specs.declared.roles.CalledRole.{CalledRole}
use Rattle.command_parts.specs.declared.roles.Callee.{Callee}
use Rattle.command_parts.specs.declared.status.Status.TheVariants.{Done as DoneStatus}
use Rattle.command_parts.proofs.RoleShapes.{kind_is, result_is}
use Rattle.command_parts.proofs.StateOutputs.{is_shallow}

module _ (p : Program) (limit : ℕ) (fits : limit ≤ greatest_limit) (nodes : List Node) (sound : AreSound limit nodes) (t : Ty) (v : Value) (r : ℕ) (h : StandsFor (prover_nodes p) (meaning p).types nodes r t v) where
  ideal : IsIdeal (meaning p).types t v
  ideal = ideal_stands (prover_nodes p) (meaning p).types (prover_refers (digest_at sha256 (meaning p)) (meaning p).types) nodes t v r h

  short : length (spelling (projection sha256 (meaning p) t v)) < 2 ^ 32
  short =
      let within = within_stands (prover_nodes p) (meaning p).types nodes t v r sound h in
      omega (arith, length_piece sha256 length-sha256 (meaning p) (is_format p) t v ideal, within.size_fits, fits)

  -- what is printed of the spelling of its projection
  pub line_told : (bytes line : List ℕ) → bytes ≡ spelling (projection sha256 (meaning p) t v)
      → ((w : Value) → IsShallow (meaning p).types t w → length bytes < 2 ^ 32 → bytes ≡ spelling w → line ≡ named_done_line (meaning p).types (constructor_names p.types.named.items) t w)
      → line ≡ projection_line p t v
  line_told bytes line is told =
      told (projection sha256 (meaning p) t v) (is_shallow (meaning p) (is_format p) t v ideal) (subst (λ bytes. length bytes < 2 ^ 32) (sym is) short) is

module _ (wanted : Callee) (p : Program) (called : CalledRole) (is : IsCalled wanted p called) where
  abbrev kind : tree.Kind
  kind = role_kind_of called.kind

  abbrev argument : Ty
  argument = type_at (types_of p) called.argument

  -- the type of its function's result is that which the code holds
  pub result_type_is : type_at (types_of p) called.result ≡ result_called (role_of p called)
  result_type_is = is.result ∙ sym (result_is (meaning p) called.function.0 kind argument is.answer is.shape)

  pub done_told : (v : Value) (line : List ℕ) → line ≡ projection_line p (type_at (types_of p) called.result) v → outcome_told (role_of p called) (Done v) ≡ says DoneStatus line
  unfolding projection_called
  done_told v line told = ap (says DoneStatus) (sym (told ∙ ap (λ t. projection_line p t v) result_type_is))

  pub stands_as_told : (nodes : List Node) (r : ℕ) (v : Value) → StandsFor (prover_nodes p) (meaning p).types nodes r (result_called (role_of p called)) v
      → StandsFor (prover_nodes p) (meaning p).types nodes r (type_at (types_of p) called.result) v
  stands_as_told nodes r v h = subst (λ t. StandsFor (prover_nodes p) (meaning p).types nodes r t v) (sym result_type_is) h

  pub kind_told : kind_called (role_of p called) ≡ kind
  kind_told = kind_is (meaning p) called.function.0 kind argument is.answer is.shape

  -- an update's result is a pair, whose first component is the new state
  pub update_pair : kind ≡ tree.Update → result_called (role_of p called) ≡ PairTy (meaning p).state is.answer
  update_pair same = result_is (meaning p) called.function.0 kind argument is.answer is.shape ∙ rw same refl

  pub update_made : (nodes : List Node) (r first : ℕ) (v : Value) → kind ≡ tree.Update
      → ((x y : Value) → StandsFor (prover_nodes p) (meaning p).types nodes r (PairTy (meaning p).state is.answer) (PairV x y) → StandsFor (prover_nodes p) (meaning p).types nodes first (meaning p).state x)
      → StandsFor (prover_nodes p) (meaning p).types nodes r (result_called (role_of p called)) v
      → StandsFor (prover_nodes p) (meaning p).types nodes first (meaning p).state (state_made (kind_called (role_of p called)) v)
  update_made nodes r first v same shows h =
      subst (λ k. StandsFor (prover_nodes p) (meaning p).types nodes first (meaning p).state (state_made k v)) (sym (kind_told ∙ same))
      (by v (subst (λ t. StandsFor (prover_nodes p) (meaning p).types nodes r t v) (update_pair same) h))
    where
      by : (v : Value) → StandsFor (prover_nodes p) (meaning p).types nodes r (PairTy (meaning p).state is.answer) v
          → StandsFor (prover_nodes p) (meaning p).types nodes first (meaning p).state (state_made tree.Update v)
      by (PairV x y) h = shows x y h
      by v h = elim h [ ]

  -- an init's is the state
  pub init_made : (nodes : List Node) (r : ℕ) (v : Value) → kind ≡ tree.Init → StandsFor (prover_nodes p) (meaning p).types nodes r (result_called (role_of p called)) v
      → StandsFor (prover_nodes p) (meaning p).types nodes r (meaning p).state (state_made (kind_called (role_of p called)) v)
  init_made nodes r v same h =
      subst (λ k. StandsFor (prover_nodes p) (meaning p).types nodes r (meaning p).state (state_made k v)) (sym (kind_told ∙ same))
      (subst (λ t. StandsFor (prover_nodes p) (meaning p).types nodes r t v) (result_is (meaning p) called.function.0 kind argument is.answer is.shape ∙ rw same refl) h)
