-- The compiled program means the one of the definitions.
use Rattle.std.proofs.Common.{◌≡◌, ◌≤◌, ◌&&◌, ℕ, List, [], ◌∷◌, Some, None, Vec, true, nat_lt, length, sym, ap, ap₂, ◌∙◌, subst, arith, Global}
use Rattle.std.specs.Prelude.{All}
use Rattle.std.proofs.lemmas.List.Elements.{All-nil, All-cons}
use Rattle.core_terms.specs.Types.{Ty, IntTy}
use Rattle.core_terms.specs.Instructions as meant
use Rattle.core_terms.specs.Terms as tree
use Rattle.core_terms.specs.InstructionViews.{instructions_of}
use Rattle.core_terms.specs.ProgramFormats.{format_with}
use Rattle.core_terms.specs.ProgramLimits.{IsName, most_constructors, most_fields}
use Rattle.core_terms.specs.ProgramSizes.{IsFunctionWithin, IsWithinLimits}
use Rattle.core_terms.specs.ProgramParts.{compiled_program}
use Rattle.core_terms.specs.ProgramTrees.{declared_text, function_of, has_types_below, is_within}
use Rattle.core_terms.specs.Programs.{types_in}
use Rattle.core_terms.specs.TypeTables.{type_at}
use Rattle.core_terms.specs.Typing.{is_typed}
use Rattle.core_terms.specs.declared.instruction.Instruction.{Instruction}
use Rattle.core_terms.specs.declared.term.Function.{Function}
use Rattle.core_terms.specs.declared.term.NamedType.{NamedType}
use Rattle.core_terms.specs.declared.types.TyId.{TyId}
use Rattle.core_terms.specs.declared.types.TyTable.{TyTable}
use Rattle.term_stage.specs.Compiled.{sum_code, sum_function, sum_program}

module _ (types : TyTable) (int : TyId) (g : Function) (c : Vec Instruction Global) (name : List ℕ) (ints : types_in types ≡ IntTy ∷ []) (first : int.0 ≡ 0)
    (is_function : function_of (IntTy ∷ []) g ≡ sum_function name) (is_code : instructions_of (IntTy ∷ []) c.items ≡ sum_code) where
  abbrev P : tree.Program
  P = sum_program (format_with types.format (declared_text (types_in types) [])) name

  abbrev of_parts : Ty → tree.Function → List meant.Instruction → tree.Program
  of_parts t f code = record { format = format_with types.format (declared_text (types_in types) []); types = []; state = t; functions = f ∷ []; code = Some (code ∷ []) }

  pub sum_meaning : compiled_program types [] int (g ∷ []) (c ∷ []) ≡ P
  sum_meaning =
      ap (λ ts. of_parts (type_at ts int) (function_of ts g) (instructions_of ts c.items)) ints
      ∙ ap (λ (n : ℕ). of_parts (type_at (IntTy ∷ []) (record { 0 = n })) (function_of (IntTy ∷ []) g) (instructions_of (IntTy ∷ []) c.items)) first
      ∙ ap₂ (of_parts IntTy) is_function is_code

  pub sum_typed : (named : List NamedType) (functions : List Function) (codes : List (Vec Instruction Global)) → named ≡ [] → functions ≡ g ∷ [] → codes ≡ c ∷ []
      → is_typed (compiled_program types named int functions codes) ≡ true
  sum_typed named functions codes none one coded =
      ap (λ named. is_typed (compiled_program types named int functions codes)) none ∙ ap₂ (λ functions codes. is_typed (compiled_program types [] int functions codes)) one coded ∙ ap is_typed sum_meaning

  coded_not_written : Some (sum_code ∷ []) ≡ None → ⊥
  coded_not_written e = cc

  sum_within_limits : IsName name → IsWithinLimits P
  sum_within_limits is = record {
    types = omega arith;
    constructors = All-nil (λ (constructors : List (List Ty)). length constructors ≤ most_constructors);
    fields = All-nil (λ (constructors : List (List Ty)). All (λ (fields : List Ty). length fields ≤ most_fields) constructors);
    functions = omega arith;
    each = All-cons IsFunctionWithin (sum_function name) [] (record { name = is; parameters = omega arith }) (All-nil IsFunctionWithin);
    written = λ none. absurd (coded_not_written none);
    short = omega arith;
  }

  pub sum_limits : IsName name → (named : List NamedType) (functions : List Function) (codes : List (Vec Instruction Global)) → named ≡ [] → functions ≡ g ∷ [] → codes ≡ c ∷ []
      → IsWithinLimits (compiled_program types named int functions codes)
  sum_limits is named functions codes none one coded =
      subst (λ named. IsWithinLimits (compiled_program types named int functions codes)) (sym none)
      (subst (λ functions. IsWithinLimits (compiled_program types [] int functions codes)) (sym one)
      (subst (λ codes. IsWithinLimits (compiled_program types [] int (g ∷ []) codes)) (sym coded)
      (subst IsWithinLimits (sym sum_meaning) (sum_within_limits is))))

  pub sum_within : has_types_below 1 g ≡ true → is_within types.forms.keys [] int (g ∷ []) ≡ true
  sum_within below =
      ap (λ ts. nat_lt int.0 (length ts) && (true && (has_types_below (length ts) g && true))) ints
      ∙ ap₂ (λ n b. nat_lt n 1 && (true && (b && true))) first below
