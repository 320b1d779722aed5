-- The fields of a function behind its role, one after the other.
use Rattle.std.proofs.Common.{◌≡◌, ℕ, List, [], ◌∷◌, ◌++◌, Bor, Option, Result, Ok, Err, IfOk, length, nat_lt, sym, ap, subst, ◌∙◌}
use Rattle.core_terms.specs.Terms.{Kind}
use Rattle.object_meaning.specs.Objects.{ListedFunction, ListedType}
use Rattle.object_meaning.specs.Readers.{Took, then_take, times, u32}
use Rattle.object_meaning.specs.ReadObjects.{behind_count, behind_parameters, behind_result}
use Rattle.object_reader.specs.Cursors.{Faults}
use Rattle.object_reader.specs.declared.fault.ReadFault.{ReadFault}
use Rattle.object_reader.specs.NamesRead.{names_in}
use Rattle.object_reader.specs.ObjectViews.{function_of}
use Rattle.object_reader.specs.RolesBefore.{IsNamedBefore, own_name}
use Rattle.object_reader.specs.declared.object.ListedFunction as read
use Rattle.object_reader.specs.declared.object.ListedRole.{ListedRole}
use Rattle.object_reader.proofs.RolesTaken.{named_more}
use Rattle.object_reader.proofs.Rows.{faults_first}

module _ (types : List ListedType) (functions : ℕ) (kind : Kind) (name : List ℕ) (limit : ℕ) (is : limit ≡ length types) (bytes : List ℕ) (place : ℕ) where
  pub parameters_taken : (number : ℕ) (parameters rest : List ℕ) (behind : ℕ) → times number (u32 (λ t. nat_lt t limit)) bytes place ≡ Took parameters rest behind
      → behind_count types functions kind name number bytes place ≡ behind_parameters types functions kind name parameters rest behind
  parameters_taken number parameters rest behind e =
      ap (λ t. then_take t (behind_parameters types functions kind name)) (subst (λ n. times number (u32 (λ t. nat_lt t n)) bytes place ≡ Took parameters rest behind) is e)

  pub parameters_fault : (number : ℕ) (fault : ReadFault) → Faults (times number (u32 (λ t. nat_lt t limit)) bytes place) fault → Faults (behind_count types functions kind name number bytes place) fault
  parameters_fault number fault e =
      faults_first _ (behind_parameters types functions kind name) fault (subst (λ n. Faults (times number (u32 (λ t. nat_lt t n)) bytes place) fault) is e)

  pub result_taken : (parameters : List ℕ) (result : ℕ) (rest : List ℕ) (behind : ℕ) → u32 (λ t. nat_lt t limit) bytes place ≡ Took result rest behind
      → behind_parameters types functions kind name parameters bytes place ≡ behind_result types functions kind name parameters result rest behind
  result_taken parameters result rest behind e =
      ap (λ t. then_take t (behind_result types functions kind name parameters)) (subst (λ n. u32 (λ t. nat_lt t n) bytes place ≡ Took result rest behind) is e)

  pub result_fault : (parameters : List ℕ) (fault : ReadFault) → Faults (u32 (λ t. nat_lt t limit) bytes place) fault → Faults (behind_parameters types functions kind name parameters bytes place) fault
  result_fault parameters fault e = faults_first _ (behind_result types functions kind name parameters) fault (subst (λ n. Faults (u32 (λ t. nat_lt t n) bytes place) fault) is e)

-- the names of roles with that of one function more
pub named_function : (r : Result read.ListedFunction ReadFault) (role : Option ListedRole) (keys keys' : List (Bor (List ℕ))) (before : List ListedFunction) → IsNamedBefore keys before
    → names_in keys' ≡ names_in keys ++ own_name role → IfOk r (λ f. f.role ≡ role) → IfOk r (λ f. IsNamedBefore keys' (before ++ function_of f ∷ []))
named_function (Ok f) role keys keys' before known more same =
    named_more keys keys' before f known (more ∙ ap (λ r. names_in keys ++ own_name r) (sym same))
named_function (Err e) role keys keys' before known more same = tt
