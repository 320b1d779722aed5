-- The rows of `specs/FaultRows` hold.
use Rattle.std.specs.Prelude.{nat_eq, T, refl}
use Rattle.std.proofs.Common.{subst}
use Rattle.definition_rows.specs.FaultRows.{FaultRows}

pub fault_rows : FaultRows
fault_rows = record {
  same_fault = (refl, refl);
  want_of_memory_is_the_same = tt;
  fault_at_another_place = λ h. subst (λ n. T (nat_eq n 1)) h.1 tt;
  fault_of_another_kind = λ h. subst (λ n. T (nat_eq n 5)) h.0 tt;
  want_of_memory_is_no_fault = ((λ h. h), (λ h. h));
}
