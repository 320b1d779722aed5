use Rattle.core_terms.specs.Types.{Ty}
use Rattle.value_store.specs.Markings.{HasLimit, IdealMarking}
use Rattle.value_store.specs.Stores.{nodes_in, store_lent}
use Rattle.mode_vm.specs.Machines.{OpensFew}
use Rattle.mode_vm.specs.Meanings.{program_of}
use Rattle.mode_vm.specs.Runs.{Ready}
use Rattle.machine_tests.proofs.stage.run_in_slices.Given as goal

-- the machine can go on, over a store with the limit of the program's format
abbrev pub invariant-loop-pauses : goal.invariant-loop-pauses
invariant-loop-pauses l = record {
  ready : (z : Ty) × Ready IdealMarking (program_of l.code) z (nodes_in l.store) l.machine.state;
  few : OpensFew 0 (program_of l.code) l.machine.state;
  limit : HasLimit (program_of l.code) (store_lent l.store);
}
