-- The outcome of a put.
use Rattle.std.proofs.Common.{ℕ, List, subst, sym}
use Rattle.core_terms.specs.RoleTypes.{IsRole}
use Rattle.core_terms.specs.Terms.{Program, Update, function_at}
use Rattle.core_terms.specs.Types.{PairTy, Table, Ty}
use Rattle.core_terms.specs.Values.{PairV, Value}
use Rattle.core_terms.specs.declared.outcome.Outcome.{Outcome}
use Rattle.core_terms.specs.declared.outcome.Outcome.TheVariants as told
use Rattle.ideal_meaning.specs.Ideal as ideal
use Rattle.ideal_meaning.specs.Run.{first_in}
use Rattle.ideal_meaning.proofs.RoleCalls.{result_is}
use Rattle.value_store.specs.Nodes.{Node}
use Rattle.value_store.specs.Standing.{Kind, StandsFor}
use Rattle.value_store.specs.declared.node.Ref.{Ref}
use Rattle.mode_vm.specs.IdealRuns.{IsOutcome}
use Rattle.workloads.specs.Workloads.{state_behind}

-- the value of an update, if it has one, is a pair of a state and an answer
pub update_ends : (P : Program) (f : ℕ) (t answer : Ty) → IsRole P f Update t answer → (kind : Kind) (nodes : List Node) (r : Outcome Ref) (o : ideal.Outcome)
    → IsOutcome kind P.types nodes (function_at P f).result r o → IsOutcome kind P.types nodes (PairTy P.state answer) r o
update_ends P f t answer role kind nodes r o ends = subst (λ z. IsOutcome kind P.types nodes z r o) (result_is P f Update t answer role) ends

-- the state behind a put that made one: what the first component of its value stands for
module _ (kind : Kind) (types : Table) (nodes : List Node) (value first : Ref) (a b : Ty)
    (shows : (x y : Value) → StandsFor kind types nodes value.0 (PairTy a b) (PairV x y) → StandsFor kind types nodes first.0 a x) where
  first_stands : (v : Value) → StandsFor kind types nodes value.0 (PairTy a b) v → StandsFor kind types nodes first.0 a (first_in v)
  first_stands (PairV x y) h = shows x y h
  first_stands v h = elim h [ ]

  pub behind_put : (o : ideal.Outcome) (s : Value) → IsOutcome kind types nodes (PairTy a b) (told.Done value) o → StandsFor kind types nodes first.0 a (state_behind s o)
  behind_put o s h = subst (λ (o : ideal.Outcome). StandsFor kind types nodes first.0 a (state_behind s o)) (sym h.2) (first_stands h.0 h.1)
