use Rattle.std.proofs.Common.{Ok, Err}
use Rattle.core_terms.specs.Programs.{meaning}
use Rattle.ideal_meaning.specs.Ideal.{ideal}
use Rattle.reference_run.specs.Telling.{row_values}
use Rattle.reference_run.proofs.Outcomes.{called_ideally, done, out, plain_held, trapped}
use Rattle.reference_run.proofs.calls.metered_run.Goals as goal

pub returns-in-Ok-clause-outcome : goal.returns-in-Ok-clause-outcome
returns-in-Ok-clause-outcome c = λ written.
    let run = ideal (meaning c.args.program.now) c.args.function.0 (row_values c.args.arguments) c.args.fuel.now in
    (done c.in-Ok.value c.call.new.fuel run (called_ideally c.new-evaluator.result c.args.program.now c.args.function.0 c.args.arguments c.args.fuel.now c.call.new.fuel (Ok c.in-Ok.value)
    c.new-evaluator.ensures.program c.new-evaluator.ensures.functions c.in-Ok.ensures.value written)).0

pub returns-in-Ok-clause-left : goal.returns-in-Ok-clause-left
returns-in-Ok-clause-left c = λ written.
    let run = ideal (meaning c.args.program.now) c.args.function.0 (row_values c.args.arguments) c.args.fuel.now in
    (done c.in-Ok.value c.call.new.fuel run (called_ideally c.new-evaluator.result c.args.program.now c.args.function.0 c.args.arguments c.args.fuel.now c.call.new.fuel (Ok c.in-Ok.value)
    c.new-evaluator.ensures.program c.new-evaluator.ensures.functions c.in-Ok.ensures.value written)).1

pub returns-in-Ok-clause-ideal : goal.returns-in-Ok-clause-ideal
returns-in-Ok-clause-ideal c = λ written arguments.
    plain_held c.args.program.now c.args.function.0 (row_values c.args.arguments) c.args.fuel.now c.call.new.fuel c.in-Ok.value
    (called_ideally c.new-evaluator.result c.args.program.now c.args.function.0 c.args.arguments c.args.fuel.now c.call.new.fuel (Ok c.in-Ok.value)
    c.new-evaluator.ensures.program c.new-evaluator.ensures.functions c.in-Ok.ensures.value written) written arguments

pub returns-in-Err-Trapped-clause-outcome : goal.returns-in-Err-Trapped-clause-outcome
returns-in-Err-Trapped-clause-outcome c = λ written.
    let run = ideal (meaning c.args.program.now) c.args.function.0 (row_values c.args.arguments) c.args.fuel.now in
    (trapped c.in-Err-Trapped.field-0 c.in-Err-Trapped.trap c.call.new.fuel run c.in-Err-Trapped.field-0-is
    (called_ideally c.new-evaluator.result c.args.program.now c.args.function.0 c.args.arguments c.args.fuel.now c.call.new.fuel (Err c.in-Err-Trapped.field-0)
    c.new-evaluator.ensures.program c.new-evaluator.ensures.functions c.in-Err-Trapped.ensures.value written)).0

pub returns-in-Err-Trapped-clause-left : goal.returns-in-Err-Trapped-clause-left
returns-in-Err-Trapped-clause-left c = λ written.
    let run = ideal (meaning c.args.program.now) c.args.function.0 (row_values c.args.arguments) c.args.fuel.now in
    (trapped c.in-Err-Trapped.field-0 c.in-Err-Trapped.trap c.call.new.fuel run c.in-Err-Trapped.field-0-is
    (called_ideally c.new-evaluator.result c.args.program.now c.args.function.0 c.args.arguments c.args.fuel.now c.call.new.fuel (Err c.in-Err-Trapped.field-0)
    c.new-evaluator.ensures.program c.new-evaluator.ensures.functions c.in-Err-Trapped.ensures.value written)).1

pub returns-in-Err-Out-clause-outcome : goal.returns-in-Err-Out-clause-outcome
returns-in-Err-Out-clause-outcome c = λ written.
    let run = ideal (meaning c.args.program.now) c.args.function.0 (row_values c.args.arguments) c.args.fuel.now in
    (out c.in-Err-Out.field-0 c.call.new.fuel run c.in-Err-Out.field-0-is
    (called_ideally c.new-evaluator.result c.args.program.now c.args.function.0 c.args.arguments c.args.fuel.now c.call.new.fuel (Err c.in-Err-Out.field-0)
    c.new-evaluator.ensures.program c.new-evaluator.ensures.functions c.in-Err-Out.ensures.value written)).0

pub returns-in-Err-Out-clause-left : goal.returns-in-Err-Out-clause-left
returns-in-Err-Out-clause-left c = λ written.
    let run = ideal (meaning c.args.program.now) c.args.function.0 (row_values c.args.arguments) c.args.fuel.now in
    (out c.in-Err-Out.field-0 c.call.new.fuel run c.in-Err-Out.field-0-is
    (called_ideally c.new-evaluator.result c.args.program.now c.args.function.0 c.args.arguments c.args.fuel.now c.call.new.fuel (Err c.in-Err-Out.field-0)
    c.new-evaluator.ensures.program c.new-evaluator.ensures.functions c.in-Err-Out.ensures.value written)).1
