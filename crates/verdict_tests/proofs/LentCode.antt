-- A function that was found in code that is lent reads the state of the same code when it is lent again.
use Rattle.std.proofs.Common.{◌≡◌, ◌∙◌, ℕ, sym, ap, subst}
use Rattle.core_terms.specs.Programs.{meaning}
use Rattle.core_terms.specs.declared.program.Program.{Program}
use Rattle.code_gen.specs.Programs.{program_in}
use Rattle.code_gen.specs.declared.code.Code.{Code}
use Rattle.mode_vm.specs.Meanings.{program_of}
use Rattle.mode_vm.specs.StateCalls.{TakesState}

pub reads_state : (p : Program) (lent again code : Code) (f : ℕ) → p ≡ program_in lent → lent ≡ code → again ≡ code → TakesState (meaning p) f → TakesState (program_of again) f
reads_state p lent again code f is first second h =
    subst (λ (p : Program). TakesState (meaning p) f) (is ∙ ap program_in (first ∙ sym second)) h
