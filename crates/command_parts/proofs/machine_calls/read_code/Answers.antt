use Rattle.std.proofs.Common.{sym, subst}
use Rattle.std.proofs.lemmas.Result.{err_from_is_err_and}
use Rattle.core_terms.specs.Programs.{meaning}
use Rattle.core_terms.specs.declared.program.Program.{Program}
use Rattle.code_gen.specs.Programs.{program_in}
use Rattle.command_parts.specs.FileInputs.{with_program_file}
use Rattle.command_parts.specs.ReadPrograms.{named_of}
use Rattle.command_parts.specs.FilePrograms.{IsOfTextOrObject}
use Rattle.command_parts.proofs.Steps.{halted}
use Rattle.command_parts.proofs.machine_calls.read_code.Goals as goal

pub returns-in_err-program-clause-goes : goal.returns-in_err-program-clause-goes
returns-in_err-program-clause-goes g c = λ told known.
    let err = err_from_is_err_and c.from_residual.result c.from_residual.ensures.1 in
    halted (with_program_file (told c.args.name.now)) (λ code. named_of (program_in code)) c.from_residual.result _ (cc) (c.in_err-program.ensures.goes told known)

pub returns-clause-source : goal.returns-clause-source
returns-clause-source g c = subst (λ (p : Program). IsOfTextOrObject (meaning p)) (sym c.in_ok-generate.ensures) c.in_ok-program.ensures.source
