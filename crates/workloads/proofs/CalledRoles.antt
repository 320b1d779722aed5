-- The roles that a workload calls, and what stands for their arguments.
use Rattle.std.proofs.Common.{ℕ, ℤ, ◌<◌, List, FitsSigned, length, of_z, sym, subst, to_z, w64}
use Rattle.std.proofs.lemmas.Int.{to_z-of_z}
use Rattle.std.proofs.lemmas.Option.{slice_get_within}
use Rattle.core_terms.specs.Formats.{Hash}
use Rattle.core_terms.specs.Projection.{digest_at}
use Rattle.core_terms.specs.RoleTypes.{IsRole, ReadsState}
use Rattle.core_terms.specs.Terms.{Kind, Program}
use Rattle.core_terms.specs.Types.{IntTy, PairTy, Table, Ty}
use Rattle.core_terms.specs.Values.{IntV, PairV, Value}
use Rattle.value_store.specs.Nodes.{Node}
use Rattle.value_store.specs.Standing.{Kind as NodeKind, Keeps, ProverNodes, StandsFor}
use Rattle.value_store.specs.declared.node.Ref.{Ref}
use Rattle.mode_vm.specs.StateCalls.{IsCalledOn, TakesState}
use Rattle.mode_vm.proofs.StateCalls.{argument_is}

module _ (P : Program) (f : ℕ) (kind : Kind) (t answer : Ty) (role : IsRole P f kind t answer) (reads : ReadsState kind) where
  abbrev pub takes : TakesState P f
  takes = (kind, t, answer, role, reads)

  pub there : f < length P.functions
  there = slice_get_within P.functions f role.function role.there

  -- what stands for its argument at its type
  pub called_on : (hash : Hash) (nodes : List Node) (state argument : Ref) (s a : Value)
      → StandsFor (ProverNodes (digest_at hash P)) P.types nodes state.0 P.state s → StandsFor (ProverNodes (digest_at hash P)) P.types nodes argument.0 t a
      → IsCalledOn hash P f nodes state argument s a
  called_on hash nodes state argument s a stands given = record {
    state_stands = stands;
    argument_stands = subst (λ u. StandsFor (ProverNodes (digest_at hash P)) P.types nodes argument.0 u a) (sym (argument_is P f takes)) given;
  }

-- an int that is put stands, as the number that was passed
pub int_stands : (kind : NodeKind) (types : Table) (nodes : List Node) (r : ℕ) (z : ℤ) → FitsSigned w64 z
    → ((kind : NodeKind) (types : Table) → StandsFor kind types nodes r IntTy (IntV (to_z w64 (of_z w64 z)))) → StandsFor kind types nodes r IntTy (IntV z)
int_stands kind types nodes r z fits put = subst (λ n. StandsFor kind types nodes r IntTy (IntV n)) (to_z-of_z w64 z fits) (put kind types)

-- the pair of two ints that were put one behind the other
pub pair_stands : (kind : NodeKind) (types : Table) (one two three : List Node) (first second pair : ℕ) (x y : ℤ) → FitsSigned w64 x → FitsSigned w64 y
    → ((kind : NodeKind) (types : Table) → StandsFor kind types one first IntTy (IntV (to_z w64 (of_z w64 x)))) → Keeps one two
    → ((kind : NodeKind) (types : Table) → StandsFor kind types two second IntTy (IntV (to_z w64 (of_z w64 y))))
    → ((kind : NodeKind) (types : Table) (a b : Ty) (v w : Value) → StandsFor kind types two first a v → StandsFor kind types two second b w
    → StandsFor kind types three pair (PairTy a b) (PairV v w))
    → StandsFor kind types three pair (PairTy IntTy IntTy) (PairV (IntV x) (IntV y))
pair_stands kind types one two three first second pair x y x_fits y_fits put_x keeps put_y put =
    put kind types IntTy IntTy (IntV x) (IntV y) (keeps kind types first IntTy (IntV x) (int_stands kind types one first x x_fits put_x))
    (int_stands kind types two second y y_fits put_y)
