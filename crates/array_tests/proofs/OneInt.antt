-- An int as the one argument of a function.
use Rattle.std.proofs.Common.{◌≡◌, ℕ, ℤ, List, [], ◌∷◌, subst, sym}
use Rattle.core_terms.specs.Types.{Ty, IntTy, Table}
use Rattle.core_terms.specs.Values.{Values, IntV, NoV, AndV}
use Rattle.value_store.specs.Nodes.{Node}
use Rattle.value_store.specs.Standing.{Kind, StandsFor, AllStandFor}

abbrev pub one_int : ℤ → Values
one_int z = AndV (IntV z) NoV

-- a node that stands for an int stands for it as the one argument of a function of one int
pub stands_alone : (kind : Kind) (types : Table) (nodes : List Node) (r : ℕ) (z : ℤ) (ts : List Ty) → ts ≡ IntTy ∷ []
    → StandsFor kind types nodes r IntTy (IntV z) → AllStandFor kind types nodes (r ∷ []) ts (one_int z)
stands_alone kind types nodes r z ts is stands =
    subst (λ us. AllStandFor kind types nodes (r ∷ []) us (one_int z)) (sym is) (stands, tt)
