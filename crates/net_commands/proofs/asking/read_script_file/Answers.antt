use Rattle.std.proofs.Common.{map, sym, ap, ◌∙◌}
use Rattle.std.proofs.lemmas.Result.{err_from_is_err_and}
use Rattle.core_terms.specs.Limits.{most_file_bytes}
use Rattle.ask_script.specs.ScriptAnswers.{step_meant}
use Rattle.printed_lines.specs.declared.refusal.Argument.TheVariants.{Script}
use Rattle.command_parts.specs.Answer.{with_script}
use Rattle.command_parts.specs.FileInputs.{with_file}
use Rattle.command_parts.specs.ReadPrograms.{named_of}
use Rattle.net_commands.proofs.AskReading.{goes_on_behind}
use Rattle.command_parts.proofs.Steps.{halts_first}
use Rattle.net_commands.proofs.asking.read_script_file.Goals as goal

pub returns-in_err-text-clause-goes : goal.returns-in_err-text-clause-goes
returns-in_err-text-clause-goes g c = λ told known.
    let halted = err_from_is_err_and c.from_residual.result c.from_residual.ensures.1 in
    halts_first (with_file most_file_bytes Script (told c.args.name.now)) (with_script (named_of c.args.program.now)) (λ steps. map step_meant steps.items) c.from_residual.result _ (cc)
    (c.in_err-text.ensures.goes told known)

pub returns-clause-goes : goal.returns-clause-goes
returns-clause-goes g c = λ told known.
    goes_on_behind (with_file most_file_bytes Script (told c.args.name.now)) c.deref.result.now (with_script (named_of c.args.program.now)) (λ steps. map step_meant steps.items) c.steps_in.result
    (λ go. c.in_ok-text.ensures.goes told known go ∙ ap go (sym c.deref.ensures.value)) c.steps_in.ensures.goes
