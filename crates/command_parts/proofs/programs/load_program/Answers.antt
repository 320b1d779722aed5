use Rattle.std.proofs.Common.{ℕ, Vec}
use Rattle.std.specs.declared.alloc.Global.{Global}
use Rattle.std.proofs.lemmas.Result.{err_from_is_err_and}
use Rattle.command_parts.specs.FileInputs.{with_program_bytes}
use Rattle.command_parts.proofs.FileReadings.{halts_within}
use Rattle.command_parts.proofs.Steps.{halted}
use Rattle.command_parts.proofs.programs.load_program.Goals as goal

pub returns-in_err-bytes-clause-goes : goal.returns-in_err-bytes-clause-goes
returns-in_err-bytes-clause-goes g c = λ told known.
    let err = err_from_is_err_and c.from_residual.result c.from_residual.ensures.1 in
    halted (with_program_bytes (told c.args.name.now)) (λ (bytes : Vec ℕ Global). bytes.items) c.from_residual.result _ (cc)
    (halts_within (told c.args.name.now) _ (c.in_err-bytes.ensures.goes told known))
