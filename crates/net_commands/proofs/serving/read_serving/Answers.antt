use Rattle.std.proofs.Common.{None, Err, ap, sym, subst, ◌∙◌}
use Rattle.std.proofs.lemmas.Result.{err_from_is_err_and}
use Rattle.code_gen.specs.Programs.{program_in}
use Rattle.command_parts.specs.Answer.{Serving}
use Rattle.command_parts.specs.UnansweredInCode.{unserved_answer}
use Rattle.command_parts.specs.FileInputs.{with_program_file}
use Rattle.command_parts.specs.AnswerForms.{Answer}
use Rattle.net_commands.specs.PreparedServers.{IsPrepared, with_beginning}
use Rattle.net_commands.specs.ToldNumbers.{TellNumbers}
use Rattle.command_parts.specs.ReadPrograms.{digested_of, named_of}
use Rattle.command_parts.specs.Reaching.{without}
use Rattle.net_commands.specs.declared.serving.Beginning.{Beginning}
use Rattle.command_parts.proofs.Reached.{faults_reached, is_missing}
use Rattle.command_parts.proofs.RoleSteps.{program_reached}
use Rattle.command_parts.proofs.Steps.{halts_behind, halts_first_for}
use Rattle.net_commands.proofs.ServeRuns.{same_numbers}
use Rattle.net_commands.proofs.serving.read_serving.Goals as goal

pub returns-in_err-code-clause-goes : goal.returns-in_err-code-clause-goes
returns-in_err-code-clause-goes g c = λ told known.
    let words = c.args.words.now in
    let err = err_from_is_err_and c.from_residual.result c.from_residual.ensures.1 in
    halts_first_for (with_program_file (told words.program.now)) (λ p go. with_beginning p.digested words.image.now words.port.now words.connections.now words.slice.now told go) (λ server s. IsPrepared server.value s)
    c.from_residual.result _ (cc) (c.in_err-code.ensures.goes told known)

pub returns-in_err-code-clause-reached : goal.returns-in_err-code-clause-reached
returns-in_err-code-clause-reached g c =
    let words = c.args.words.now in
    let program = words.program.now in
    let err = err_from_is_err_and c.from_residual.result c.from_residual.ensures.1 in
    faults_reached (unserved_answer program words.image.now words.port.now words.connections.now words.slice.now) program _ _ _ c.from_residual.result (cc)
    (λ files known. ap (λ file. with_program_file file (λ p. with_beginning p.digested words.image.now words.port.now words.connections.now words.slice.now (without program files) (λ s. None)))
    (is_missing program files)) c.in_err-code.ensures.asked

pub returns-in_ok-prepare-in-Ok-clause-goes : goal.returns-in_ok-prepare-in-Ok-clause-goes
returns-in_ok-prepare-in-Ok-clause-goes g c = λ told known.
    let words = c.args.words.now in
    let begins = c.in-Ok.ensures.goes told (c.in_ok-code.ensures.contents ∙ known) in (
      begins.0,
      (λ go. c.in_ok-code.ensures.goes told known (λ p. with_beginning p.digested words.image.now words.port.now words.connections.now words.slice.now told go) ∙ begins.1 go),
      subst (IsPrepared c.in_ok-prepare-in-Ok.field-0.value) (sym begins.2.is) (c.in_ok-prepare-in-Ok.ensures begins.2.state begins.2.stands),
    )

pub returns-in_ok-prepare-in-Ok-clause-numbers : goal.returns-in_ok-prepare-in-Ok-clause-numbers
returns-in_ok-prepare-in-Ok-clause-numbers g c =
    let words = c.args.words.now in
    let stands = c.in-Ok.ensures.stands in
    let prepared = c.in_ok-prepare-in-Ok.ensures stands.0 stands.1 in
    subst (TellNumbers words.port.now words.connections.now words.slice.now) (sym (same_numbers c.in_ok-prepare-in-Ok.field-0.value _ prepared)) c.in-Ok.ensures.numbers

pub returns-in-Err-clause-goes : goal.returns-in-Err-clause-goes
returns-in-Err-clause-goes g c = λ told known go.
    let words = c.args.words.now in
    halts_behind _ _ c.in-Err.halt (c.in_ok-code.ensures.goes told known (λ p. with_beginning p.digested words.image.now words.port.now words.connections.now words.slice.now told go))
    (c.in-Err.ensures.goes told (c.in_ok-code.ensures.contents ∙ known) go)

pub returns-in-Err-clause-reached : goal.returns-in-Err-clause-reached
returns-in-Err-clause-reached g c =
    let words = c.args.words.now in
    program_reached words.program.now (λ p told. with_beginning p.digested words.image.now words.port.now words.connections.now words.slice.now told (λ s. None)) _ _
    (named_of (program_in c.in_ok-code.code)) c.in_ok-code.ensures.goes {T = Beginning} _ (Err c.in-Err.halt) c.in_ok-code.ensures.contents c.in-Err.ensures.reached

pub returns-in_ok-prepare-in-Ok-clause-prepared : goal.returns-in_ok-prepare-in-Ok-clause-prepared
returns-in_ok-prepare-in-Ok-clause-prepared g c = let stands = c.in-Ok.ensures.stands in (_, c.in_ok-prepare-in-Ok.ensures stands.0 stands.1)
