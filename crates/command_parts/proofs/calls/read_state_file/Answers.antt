use Rattle.std.proofs.lemmas.Result.{err_from_is_err_and}
use Rattle.core_terms.specs.Limits.{most_file_bytes}
use Rattle.core_terms.specs.Programs.{meaning}
use Rattle.printed_lines.specs.declared.refusal.Argument.TheVariants.{State}
use Rattle.command_parts.specs.FileInputs.{with_file, with_state}
use Rattle.command_parts.proofs.Steps.{halts_first}
use Rattle.command_parts.proofs.calls.read_state_file.Goals as goal

pub returns-in_err-state-clause-goes : goal.returns-in_err-state-clause-goes
returns-in_err-state-clause-goes g c = λ told known.
    let P = meaning c.args.program.now in
    let halted = err_from_is_err_and c.from_residual.result c.from_residual.ensures.1 in
    halts_first (with_file most_file_bytes State (told c.args.name.now)) (with_state P) (λ bytes. bytes.items) c.from_residual.result _ (cc) (c.in_err-state.ensures.goes told known)
