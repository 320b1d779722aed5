-- The parameters of a query or an update: the state and the argument.
use Rattle.std.proofs.Common.{◌≡◌, ℕ, ◌<◌, List, [], ◌∷◌, length, map, slice_index_or, vec_len, Result, sym, ap, ◌∙◌, subst, arith}
use Rattle.std.proofs.lemmas.List.{length-map, get_or-map}
use Rattle.core_terms.specs.Types.{Ty, UnitTy}
use Rattle.core_terms.specs.Terms.{function_at}
use Rattle.core_terms.specs.Terms as tree
use Rattle.core_terms.specs.Values.{Values}
use Rattle.core_terms.specs.Roles.{argument_type}
use Rattle.core_terms.specs.Projection.{read_at}
use Rattle.core_terms.specs.Programs.{meaning, types_of}
use Rattle.core_terms.specs.ProgramTrees.{function_of}
use Rattle.core_terms.specs.TypeTables.{type_at}
use Rattle.core_terms.specs.declared.program.Program.{Program}
use Rattle.core_terms.specs.declared.term.Function.{Function}
use Rattle.core_terms.specs.declared.types.TyId.{TyId}
use Rattle.value_store.specs.Nodes.{Node}
use Rattle.value_store.specs.Standing.{AllStandFor, VerifierNodes}
use Rattle.value_store.specs.declared.node.Ref.{Ref}
use Rattle.shallow_codec.specs.Unspelled.{IsUnspelled}
use Rattle.shallow_codec.specs.declared.fault.UnspellFault.{UnspellFault}
use Rattle.mode_vm.specs.StateCalls.{TakesState}
use Rattle.mode_vm.proofs.StateCalls.{parameters_of}

-- what stands for a state and an argument stands for what the function takes
pub both_stand : (P : tree.Program) (f : ℕ) → TakesState P f → (nodes : List Node) (rs : List ℕ) (vs : Values) → AllStandFor VerifierNodes P.types nodes rs (P.state ∷ argument_type P f ∷ []) vs
    → AllStandFor VerifierNodes P.types nodes rs (function_at P f).parameters vs
both_stand P f takes nodes rs vs h = subst (λ ts. AllStandFor VerifierNodes P.types nodes rs ts vs) (sym (parameters_of P f takes)) h

module _ (p : Program) (f : ℕ) (fn : Function) (takes : TakesState (meaning p) f) (is : function_of (types_of p) fn ≡ function_at (meaning p) f) where
  in_code : map (type_at (types_of p)) fn.parameters.items ≡ (meaning p).state ∷ argument_type (meaning p) f ∷ []
  in_code = ap (λ (g : tree.Function). g.parameters) is ∙ parameters_of (meaning p) f takes

  pub two_parameters : 1 < vec_len fn.parameters
  two_parameters =
      let two : length fn.parameters.items ≡ 2 = sym (length-map fn.parameters.items (type_at (types_of p))) ∙ ap length in_code in
      omega (arith, two, fn.parameters.ok)

  -- the second of them is the argument's type
  pub second_type : (second none : TyId) → second ≡ slice_index_or fn.parameters.items 1 none → type_at (types_of p) second ≡ argument_type (meaning p) f
  second_type second none e =
      ap (type_at (types_of p)) e
      ∙ sym (get_or-map (type_at (types_of p)) fn.parameters.items 1 none UnitTy (omega (arith, two_parameters, fn.parameters.ok)))
      ∙ ap (λ ts. slice_index_or ts 1 UnitTy) in_code

-- what is read at a type by its number is read at the type
pub read_there : (P : tree.Program) (t u : Ty) (nodes : List Node) (bytes : List ℕ) (found : Result Ref UnspellFault) → t ≡ u
    → IsUnspelled P.types nodes t (read_at P t bytes) found → IsUnspelled P.types nodes u (read_at P u bytes) found
read_there P t u nodes bytes found e h = subst (λ t. IsUnspelled P.types nodes t (read_at P t bytes) found) e h
