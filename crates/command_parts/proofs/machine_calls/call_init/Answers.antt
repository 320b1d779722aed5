use Rattle.std.proofs.Common.{◌≡◌, Option, subst}
use Rattle.std.proofs.lemmas.Result.{err_from_is_err_and}
use Rattle.core_terms.specs.Values.{AndV, NoV}
use Rattle.code_gen.specs.Programs.{program_in}
use Rattle.command_parts.specs.RoleInputs.{with_ended_init, with_fueled_role, with_passed}
use Rattle.command_parts.specs.AnswerForms.{Answer}
use Rattle.command_parts.specs.FueledRoles.{FueledRole}
use Rattle.command_parts.specs.Halting.{StepGivesFor, InHand}
use Rattle.command_parts.specs.ReadPrograms.{named_of}
use Rattle.command_parts.specs.RoleCalls.{ended_with}
use Rattle.command_parts.specs.RolesCalled.{IsCalled, IsEnded, role_of}
use Rattle.command_parts.specs.declared.roles.Callee.TheVariants.{Init}
use Rattle.command_parts.proofs.RoleSteps.{hand_first, same_in_hand}
use Rattle.command_parts.proofs.machine_calls.call_init.Goals as goal

pub returns-in_err-called : goal.returns-in_err-called
returns-in_err-called c =
    let words = c.args.words.now in
    let err = err_from_is_err_and c.from_residual.result c.from_residual.ensures.1 in
    subst (λ p. InHand (StepGivesFor (with_ended_init (named_of p) words.role.now words.argument.now words.fuel.now) (IsEnded Init p)) c.from_residual.result) c.program-program.ensures
    (hand_first (with_fueled_role Init (named_of c.program-program.result.now) words.role.now words.fuel.now) (λ r go. with_passed r words.argument.now (λ a. go (ended_with r (AndV a NoV))))
    (role_of c.program-program.result.now) (IsEnded Init c.program-program.result.now) c.from_residual.result _ (cc) c.in_err-called.ensures.goes)

pub run_init-requires : goal.run_init-requires
run_init-requires c = subst (λ p. IsCalled Init p c.in_ok-called.called) c.program-program.ensures c.in_ok-called.ensures.valid

pub returns : goal.returns
returns c =
    let words = c.args.words.now in
    let p = program_in c.args.code.now in
    let goes = subst (λ p. (go : FueledRole → Option Answer) → with_fueled_role Init (named_of p) words.role.now words.fuel.now go ≡ go (role_of p c.in_ok-called.called)) c.program-program.ensures c.in_ok-called.ensures.goes in
    same_in_hand (λ go. with_passed (role_of p c.in_ok-called.called) words.argument.now (λ a. go (ended_with (role_of p c.in_ok-called.called) (AndV a NoV)))) (IsEnded Init p)
    (with_ended_init (named_of p) words.role.now words.argument.now words.fuel.now)
    (λ go. goes (λ r. with_passed r words.argument.now (λ a. go (ended_with r (AndV a NoV))))) c.run_init.result c.run_init.ensures
