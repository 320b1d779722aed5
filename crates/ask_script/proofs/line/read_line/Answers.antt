use Rattle.std.proofs.Common.{sym}
use Rattle.core_terms.specs.Programs.{constructor_names, meaning}
use Rattle.ask_script.proofs.Lines.{line_told, line_refused}
use Rattle.ask_script.proofs.line.read_line.Goals as goal

pub returns-in-Ok : goal.returns-in-Ok
returns-in-Ok c =
    line_told (meaning c.args.program.now) (constructor_names c.args.program.now.types.named.items) c.args.line.now c.in-Ok.text.now
    c.in-Ok.ensures.cases.0 c.in-Ok.ensures.cases.1 c.read_words.result c.read_words.ensures

pub returns-in-Err : goal.returns-in-Err
returns-in-Err c =
    sym (line_refused (meaning c.args.program.now) (constructor_names c.args.program.now.types.named.items) c.args.line.now c.in-Err.ensures.cases.0)
