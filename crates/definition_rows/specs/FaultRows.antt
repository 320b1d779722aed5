-- Which faults with a place are the same (`Faults`): those of the same kind at the same place; and the want of memory apart.
use Rattle.std.specs.Prelude.{◌≡◌, ℕ}
use Rattle.core_terms.specs.Faults.{IsSameFault}
use Rattle.core_terms.specs.declared.fault.Fault.{Fault}
use Rattle.core_terms.specs.declared.fault.Fault.TheVariants.{At, NoMemory}

abbrev pub IsSame : Fault ℕ ℕ → Fault ℕ ℕ → Type 0
IsSame = IsSameFault (λ k l. k ≡ l)

pub record FaultRows : Type 0 where
  pub same_fault : IsSame (At 5 1) (At 5 1)
  pub want_of_memory_is_the_same : IsSame NoMemory NoMemory
  pub fault_at_another_place : IsSame (At 5 1) (At 5 2) → ⊥
  pub fault_of_another_kind : IsSame (At 5 1) (At 6 1) → ⊥
  pub want_of_memory_is_no_fault : (IsSame (At 5 1) NoMemory → ⊥) × (IsSame NoMemory (At 5 1) → ⊥)
