use Rattle.std.proofs.Common.{Some, ap, sym, subst, ◌∙◌}
use Rattle.core_terms.specs.Programs.{types_of}
use Rattle.core_terms.specs.Bodies.{code_at}
use Rattle.core_terms.specs.GeneratedCode.{generated}
use Rattle.core_terms.specs.InstructionViews.{instruction_of}
use Rattle.code_gen.specs.Programs.{program_in}
use Rattle.mode_vm.specs.Machines.{GivesBack}
use Rattle.mode_vm.specs.Meanings.{program_of}
use Rattle.mode_vm.proofs.LastCalls.{behind_jump, behind_unbind, returns_there, stands_there}
use Rattle.mode_vm.proofs.state.gives_back.Goals as goal

pub returns-in-Return : goal.returns-in-Return
returns-in-Return c =
    let types = types_of (program_in c.args.code.now) in
    let code = (code_at (generated (program_of c.args.code.now)) c.args.function.0).code in
    λ yes. c.loop-at.invariant.back (returns_there code c.loop-at.at
    (stands_there types c.instructions-instructions.result.now code c.loop-at.at _ c.loop-at.invariant.code c.loop-at-test.true
    ∙ ap (λ i. Some (instruction_of types i)) (sym c.index-instructions-at.is ∙ c.in-Return.is)))

pub loop-at-preserved-in-Unbind : goal.loop-at-preserved-in-Unbind
loop-at-preserved-in-Unbind c =
    let types = types_of (program_in c.args.code.now) in
    let code = (code_at (generated (program_of c.args.code.now)) c.args.function.0).code in
    record {
      back = λ h. c.loop-at.invariant.back (behind_unbind code c.loop-at.at _
          (stands_there types c.instructions-instructions.result.now code c.loop-at.at _ c.loop-at.invariant.code c.loop-at-test.true
          ∙ ap (λ i. Some (instruction_of types i)) (sym c.index-instructions-at.is ∙ c.in-Unbind.is)) h);
      code = c.loop-at.invariant.code;
    }

pub loop-at-preserved : goal.loop-at-preserved
loop-at-preserved c =
    let types = types_of (program_in c.args.code.now) in
    let code = (code_at (generated (program_of c.args.code.now)) c.args.function.0).code in
    record {
      back = λ h. c.loop-at.invariant.back (behind_jump code c.loop-at.at c.in-Jump.skip
          (stands_there types c.instructions-instructions.result.now code c.loop-at.at _ c.loop-at.invariant.code c.loop-at-test.true
          ∙ ap (λ i. Some (instruction_of types i)) (sym c.index-instructions-at.is ∙ c.in-Jump.is)) (subst (GivesBack code) c.in-Some.ensures.1 h));
      code = c.loop-at.invariant.code;
    }
