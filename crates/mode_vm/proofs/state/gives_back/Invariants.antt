use Rattle.std.proofs.Common.{length, ◌-◌, ◌≡◌}
use Rattle.core_terms.specs.Bodies.{code_at}
use Rattle.core_terms.specs.GeneratedCode.{generated}
use Rattle.core_terms.specs.InstructionViews.{instructions_of}
use Rattle.code_gen.specs.Programs.{program_in}
use Rattle.core_terms.specs.Programs.{types_of}
use Rattle.mode_vm.specs.Machines.{GivesBack}
use Rattle.mode_vm.specs.Meanings.{program_of}
use Rattle.mode_vm.proofs.state.gives_back.Given as goal

abbrev pub invariant-loop-at : goal.invariant-loop-at
invariant-loop-at l = record {
  back : GivesBack (code_at (generated (program_of l.code)) l.fn.function.0).code l.at → GivesBack (code_at (generated (program_of l.code)) l.fn.function.0).code l.place;
  code : instructions_of (types_of (program_in l.code)) l.instructions ≡ (code_at (generated (program_of l.code)) l.fn.function.0).code;
}

abbrev pub decreases-loop-at : goal.decreases-loop-at
decreases-loop-at l = length l.instructions - l.at
