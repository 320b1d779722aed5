use Rattle.std.proofs.Common.{refl}
use Rattle.code_gen.specs.Programs.{program_in}
use Rattle.file_commands.proofs.WrittenOutputs.{object_halts, object_told}
use Rattle.file_commands.proofs.emit_object.write_output.Goals as goal

pub returns-in_err-object-clause-finds : goal.returns-in_err-object-clause-finds
returns-in_err-object-clause-finds c = λ name.
    object_halts c.args.program (program_in c.in_ok-code.code) c.in_ok-code.ensures c.in_err-object.field-0.0 c.from_residual-in_err-object.result c.from_residual-in_err-object.ensures.1
    c.in_err-object.ensures name

pub returns-clause-finds : goal.returns-clause-finds
returns-clause-finds c = λ name.
    object_told c.args.program (program_in c.in_ok-code.code) c.in_ok-code.ensures _ c.in_ok-object.object refl c.new.ensures.items c.in_ok-object.ensures name
