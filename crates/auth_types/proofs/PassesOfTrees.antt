-- The passes on a tree, one after another: the first that finds a fault ends them, and where none does they give the program.
use Rattle.std.proofs.Common.{◌≡◌, ℕ, List, Result, Ok, Err, refl, sym, ap, ◌∙◌, subst, None}
use Rattle.core_terms.specs.Types.{Ty}
use Rattle.core_terms.specs.declared.format.Format.{Format}
use Rattle.core_terms.specs.Terms as tree
use Rattle.core_terms.specs.declared.program.Program.{Program as CodeProgram}
use Rattle.core_terms.specs.Programs.{meaning, types_in}
use Rattle.core_terms.specs.declared.types.TyTable.{TyTable}
use Rattle.core_terms.specs.declared.types.TyId.{TyId}
use Rattle.auth_syntax.specs.Syntax.{Program}
use Rattle.auth_types.specs.Bodies.{checked_functions}
use Rattle.declared_types.specs.Signatures.{Scope}
use Rattle.declared_types.specs.Checking.{Checking, Sound, FaultAt, then_checked}
use Rattle.auth_types.specs.CheckedPrograms.{all_passes, as_checked, fourth_pass, program_format}
use Rattle.declared_types.specs.DeclaredPrograms.{format_of, names_of, scope_of, state_of, table_of_program, third_pass}
use Rattle.declared_types.specs.Declarations.{first_pass}
use Rattle.auth_types.specs.Outcomes.{Checks}
use Rattle.declared_types.specs.Findings.{Finds, TypeFault}
use Rattle.declared_types.specs.Passes.{TableStandsFor, names_known}
use Rattle.declared_types.specs.Scopes.{AreHeadsOf, functions_meant, scope_meant}
use Rattle.declared_types.specs.WrittenTypes.{second_pass}
use Rattle.core_terms.specs.declared.fault.Fault.TheVariants.{At, NoMemory}
use Rattle.declared_types.specs.declared.scope.Scope.{Scope as CodeScope}
use Rattle.declared_types.proofs.FirstPasses.{IsRefused, heads_signed, then_refused}

same_refused : {B : Type 0} (found other : Checking B) (fault : TypeFault) → found ≡ other → IsRefused other fault → IsRefused found fault
same_refused found other fault same refused = subst (λ found. IsRefused found fault) (sym same) refused

-- the parts of the program that four passes give
abbrev as_program : Program → List tree.Function → tree.Program
as_program program functions = record { format = program_format program; types = table_of_program program; state = state_of program; functions = functions; code = None }

module _ (program : Program) where
  -- the passes behind those that found no fault
  abbrev behind_third : Checking tree.Program
  behind_third = then_checked (fourth_pass program) (λ functions. Sound (as_program program functions))

  abbrev behind_names : Checking tree.Program
  behind_names = then_checked (third_pass program) (λ _. behind_third)

  names_first : all_passes program ≡ then_checked (names_known program) (λ _. behind_names)
  names_first = by (first_pass program) (second_pass program)
    where
      by : (first second : Checking (Unit {0})) → then_checked first (λ _. then_checked second (λ _. behind_names)) ≡ then_checked
          (then_checked first (λ _. second)) (λ _. behind_names)
      by (Sound u) second = refl
      by (FaultAt kind at) second = refl

  pub names_fault : (fault : TypeFault) → IsRefused (names_known program) fault → IsRefused (all_passes program) fault
  names_fault fault refused =
      same_refused (all_passes program) (then_checked (names_known program) (λ _. behind_names)) fault names_first
      (then_refused (names_known program) (λ _. behind_names) fault refused)

  module _ (known : names_known program ≡ Sound tt) where
    after_names : all_passes program ≡ behind_names
    after_names = names_first ∙ ap (λ found. then_checked found (λ _. behind_names)) known

    module _ (third : third_pass program ≡ Sound tt) where
      after_third : all_passes program ≡ behind_third
      after_third = after_names ∙ ap (λ found. then_checked found (λ _. behind_third)) third

      pub fourth_fault : (fault : TypeFault) → IsRefused (fourth_pass program) fault → IsRefused (all_passes program) fault
      fourth_fault fault refused =
          same_refused (all_passes program) behind_third fault after_third
          (then_refused (fourth_pass program) (λ functions. Sound (as_program program functions)) fault refused)

      pub passes_end : (functions : List tree.Function) → fourth_pass program ≡ Sound functions
          → all_passes program ≡ Sound (as_program program functions)
      passes_end functions fourth = after_third ∙ ap (λ found. then_checked found (λ functions. Sound (as_program program functions))) fourth

-- the fourth pass over the parts that the code passes on
module _ (program : Program) (types : List Ty) (scope : CodeScope) (state : TyId) (stands : TableStandsFor program types scope state) where
  pub fourth_is : checked_functions (names_of program) (scope_meant (format_of program) types scope) (functions_meant scope) ≡ fourth_pass program
  fourth_is = ap (λ (s : Scope). checked_functions (names_of program) s (functions_meant scope)) stands.scope
      ∙ ap (checked_functions (names_of program) (scope_of program)) stands.functions

  pub fourth_told : (told : Checking (List tree.Function) → Type 0) (table : TyTable) (lent : CodeScope) → table.format ≡ format_of program
      → types_in table ≡ types → lent ≡ scope
      → ((names : List (List ℕ)) → AreHeadsOf table.format names (types_in table) lent
      → told (checked_functions names (scope_meant table.format (types_in table) lent) (functions_meant lent))) → told (fourth_pass program)
  fourth_told told table lent format same same' says =
      let Says : Format → List Ty → CodeScope → Type 0 = λ format types lent.
      (names : List (List ℕ)) → AreHeadsOf format names types lent → told (checked_functions names (scope_meant format types lent) (functions_meant lent)) in
      subst told fourth_is (subst (Says (format_of program) types) same' (subst (λ types. Says (format_of program) types lent) same
      (subst (λ format. Says format (types_in table) lent) format says)) (names_of program)
      (heads_signed program types scope state stands))

-- what the passes find, as it is told
pub checks_found : (found : Checking tree.Program) (r : Result CodeProgram TypeFault) → Finds meaning found r → Checks (as_checked found) r
checks_found found (Ok p) h = ap as_checked h
checks_found found (Err (At kind at)) h = ap as_checked h
checks_found found (Err NoMemory) h = tt
