use Rattle.std.proofs.Common.{◌≡◌, subst}
use Rattle.std.proofs.lemmas.Result.{err_from_is_err_and}
use Rattle.command_parts.specs.RoleInputs.{with_ended_call}
use Rattle.command_parts.specs.CallsInStores.{HoldsCall, HoldsSome}
use Rattle.command_parts.specs.Halting.{StepGivesFor}
use Rattle.command_parts.specs.IdealCalls.{ended_call}
use Rattle.command_parts.specs.ReadPrograms.{named_of}
use Rattle.command_parts.specs.ReachingInCode.{FaultsAtReached}
use Rattle.command_parts.specs.RolesCalled.{IsEnded}
use Rattle.command_parts.proofs.RoleSteps.{halts_for, same_reached}
use Rattle.command_parts.proofs.machine_calls.call_role.Goals as goal

pub returns-in_err-call-clause-goes : goal.returns-in_err-call-clause-goes
returns-in_err-call-clause-goes g c = λ told known.
    let words = c.args.words.now in
    let callee = c.args.callee in
    let err = err_from_is_err_and c.from_residual.result c.from_residual.ensures.1 in
    subst (λ p. StepGivesFor (with_ended_call callee (named_of p) words.role.now c.args.image.now words.argument.now words.fuel.now told) (IsEnded callee p) c.from_residual.result) c.program.ensures
    (halts_for (with_ended_call callee (named_of c.program.result.now) words.role.now c.args.image.now words.argument.now words.fuel.now told) (IsEnded callee c.program.result.now)
    c.from_residual.result _ (cc) (λ go. c.in_err-call.ensures.goes told known (λ call. go (ended_call call))))

pub returns-in_err-call-clause-reached : goal.returns-in_err-call-clause-reached
returns-in_err-call-clause-reached g c = λ go.
    let words = c.args.words.now in
    let callee = c.args.callee in
    let err = err_from_is_err_and c.from_residual.result c.from_residual.ensures.1 in
    subst (λ p. FaultsAtReached (λ told. with_ended_call callee (named_of p) words.role.now c.args.image.now words.argument.now words.fuel.now told go) (g.F.Files.contents c.args.files.now) (g.F.Files.asked c.read_named_call.new.files) c.from_residual.result) c.program.ensures
    (same_reached (λ told. with_ended_call callee (named_of c.program.result.now) words.role.now c.args.image.now words.argument.now words.fuel.now told go) _ _ _ c.from_residual.result (cc)
    (c.in_err-call.ensures.reached (λ files call. go (ended_call call))))

pub run_call-requires : goal.run_call-requires
run_call-requires g c = (c.args.callee, c.requires, subst (λ p. HoldsSome c.args.callee p c.in_ok-call.call) c.program.ensures c.in_ok-call.ensures.holds)

pub returns-clause-goes : goal.returns-clause-goes
returns-clause-goes g c = λ told known.
    let words = c.args.words.now in
    let callee = c.args.callee in
    let call = c.in_ok-call.ensures.goes told known in
    let holds = subst (λ p. HoldsCall callee p c.in_ok-call.call call.0) c.program.ensures call.2 in (
      ended_call call.0,
      (λ go. subst (λ p. with_ended_call callee (named_of p) words.role.now c.args.image.now words.argument.now words.fuel.now told go ≡ go (ended_call call.0)) c.program.ensures
          (call.1 (λ call. go (ended_call call)))),
      c.in_ok-run_call.ensures callee call.0 c.requires holds,
    )

pub returns-clause-ended : goal.returns-clause-ended
returns-clause-ended g c =
    let holds = subst (λ p. HoldsSome c.args.callee p c.in_ok-call.call) c.program.ensures c.in_ok-call.ensures.holds in
    let ended = c.in_ok-run_call.ensures c.args.callee holds.0 c.requires holds.1 in
    ((ended_call holds.0).outcome, ended.1)
