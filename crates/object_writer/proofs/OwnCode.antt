-- The code of a written program's functions, by number.
use Rattle.std.proofs.Common.{◌≡◌, ◌<◌, ℕ, List, length, map, get_or, Some, None, option_map, slice_get, unwrap_or, sym, ap, ◌∙◌, subst}
use Rattle.std.specs.Prelude.{All}
use Rattle.std.proofs.lemmas.List.{get_or-map, length-map}
use Rattle.std.proofs.lemmas.List.Elements.{All-get_or}
use Rattle.std.proofs.lemmas.Option.{slice_get-get_or, slice_get-map}
use Rattle.core_terms.specs.Types.{Ty}
use Rattle.core_terms.specs.Terms as tree
use Rattle.core_terms.specs.Bodies.{FunctionCode, code_at, no_function_code}
use Rattle.core_terms.specs.InstructionViews.{instructions_of}
use Rattle.core_terms.specs.ProgramTrees.{function_of}
use Rattle.core_terms.specs.ProgramTypes.{named_table, types_by_number}
use Rattle.core_terms.specs.Programs.{meaning, types_of}
use Rattle.core_terms.specs.declared.instruction.Instruction.{Instruction}
use Rattle.core_terms.specs.declared.program.Program.{Program}
use Rattle.core_terms.specs.declared.program_types.Types.{Types}
use Rattle.core_terms.specs.declared.term.Function.{Function}
use Rattle.core_terms.specs.GeneratedCode.{codes_as, function_code, generated}
use Rattle.object_meaning.specs.WrittenObjects.{codes_in}

module _ (P : tree.Program) (types : List Ty) (functions : List Function) (i : ℕ) (f : Function) (same : map (function_of types) functions ≡ P.functions) (inside : i < length functions)
    (at : f ≡ get_or functions i f) where
  pub own_code : P.code ≡ None → (code_at (generated P) i).code ≡ (function_code P.types (function_of types f)).code
  own_code written =
      let there : slice_get functions i ≡ Some f = slice_get-get_or functions i f inside ∙ ap Some (sym at) in
      ap (λ o. (unwrap_or (slice_get (codes_as P o) i) no_function_code).code) written
      ∙ ap (λ fs. (unwrap_or (slice_get (map (function_code P.types) fs) i) no_function_code).code) (sym same)
      ∙ ap (λ o. (unwrap_or o no_function_code).code)
      (slice_get-map (function_code P.types) (map (function_of types) functions) i
      ∙ ap (option_map (function_code P.types)) (slice_get-map (function_of types) functions i ∙ ap (option_map (function_of types)) there))

  -- what all code has, this has
  pub own_fact : (Q : FunctionCode → Type 0) → All Q (codes_in P) → Q (function_code P.types (function_of types f))
  own_fact Q all =
      let code = function_code P.types in
      let d = code (function_of types f) in
      let listed : All Q (map code (map (function_of types) functions)) = subst (λ fs. All Q (map code fs)) (sym same) all in
      let long : i < length (map code (map (function_of types) functions)) =
      subst (λ k. i < k) (sym (length-map (map (function_of types) functions) code ∙ length-map functions (function_of types))) inside in
      let each : i < length (map (function_of types) functions) = subst (λ k. i < k) (sym (length-map functions (function_of types))) inside in
      subst Q
      (get_or-map code (map (function_of types) functions) i (function_of types f) d each ∙ ap code (get_or-map (function_of types) functions i f (function_of types f) inside ∙ ap (function_of types) (sym at)))
      (All-get_or Q (map code (map (function_of types) functions)) i d long listed)

-- the functions of the same program
pub functions_are : (p q : Program) → q ≡ p → (functions : List Function) → map (function_of (types_of q)) functions ≡ (meaning q).functions → map (function_of (types_of p)) functions ≡ (meaning p).functions
functions_are p q e functions same = subst (λ q. map (function_of (types_of q)) functions ≡ (meaning q).functions) e same

-- the same over the types of the program, however these are named
module _ (p : Program) (types : Types) (is : types ≡ p.types) (functions : List Function) (i : ℕ) (f : Function) (same : map (function_of (types_of p)) functions ≡ (meaning p).functions)
    (inside : i < length functions) (at : f ≡ get_or functions i f) where
  abbrev code : Types → FunctionCode
  code t = function_code (named_table t) (function_of (types_by_number t) f)

  pub code_of_types : (meaning p).code ≡ None → (instructions : List Instruction) → instructions_of (types_of p) instructions ≡ (code_at (generated (meaning p)) i).code
      → instructions_of (types_by_number types) instructions ≡ (code types).code
  code_of_types written instructions e =
      ap (λ (t : Types). instructions_of (types_by_number t) instructions) is ∙ e ∙ own_code (meaning p) (types_of p) functions i f same inside at written
      ∙ ap (λ (t : Types). (code t).code) (sym is)

  pub fact_of_types : (Q : FunctionCode → Type 0) → All Q (codes_in (meaning p)) → Q (code types)
  fact_of_types Q all = subst (λ (t : Types). Q (code t)) (sym is) (own_fact (meaning p) (types_of p) functions i f same inside at Q all)
