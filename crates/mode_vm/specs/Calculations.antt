-- What a calculation of the code gives.
use Rattle.std.specs.Prelude.{◌≡◌, ℕ, ℤ, List, Result, Ok, Err}
use Rattle.core_terms.specs.Types.{Ty, Table}
use Rattle.core_terms.specs.Values.{Value, IntV}
use Rattle.core_terms.specs.declared.outcome.Trap.{Trap}
use Rattle.ideal_meaning.specs.Run.{Run, Gives, Ends, Traps}
use Rattle.ideal_meaning.specs.Told.{trap_told}
use Rattle.value_store.specs.Nodes.{Node}
use Rattle.value_store.specs.Standing.{Kind}
use Rattle.value_store.specs.Markings.{Marking}
use Rattle.mode_vm.specs.Operands.{IsHeld}
use Rattle.mode_vm.specs.declared.operand.Operand.{Operand}
use Rattle.mode_vm.specs.Meanings.{CauseOf, StateOf}

abbrev pub calculation_of : {C W : Type 0} → Result ℤ Trap → ℕ → W → Run C W Value
calculation_of (Ok z) k w = Gives (IntV z) k w
calculation_of (Err trap) k w = Ends (Traps (trap_told trap)) k w

-- What was made is what a run gives, a value of type t, or the trap that ends it.
module _ (m : Marking) (kind : Kind) (types : Table) (nodes : List Node) (t : Ty) where
  abbrev pub Makes : (ℕ → StateOf m → Run (CauseOf m) (StateOf m) Value) → Result Operand Trap → Type 0
  Makes run (Ok o) = (v : Value) × IsHeld kind types nodes o t v × ((k : ℕ) (w : StateOf m) → run k w ≡ Gives v k w)
  Makes run (Err trap) = (k : ℕ) (w : StateOf m) → run k w ≡ Ends (Traps (trap_told trap)) k w
