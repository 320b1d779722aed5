use Rattle.command_parts.proofs.StatesRead.{passed_goes, passed_refused}
use Rattle.command_parts.proofs.calls.read_passed.Goals as goal

pub returns-in_err-parse_literal : goal.returns-in_err-parse_literal
returns-in_err-parse_literal c =
    passed_refused c.requires.0 c.args.program.now c.args.called.now c.requires.1 c.args.text.now _ c.in_err-parse_literal.field-0.0 c.from_residual.result c.from_residual.ensures.1 c.in_err-parse_literal.ensures

pub returns : goal.returns
returns c = passed_goes c.requires.0 c.args.program.now c.args.called.now c.requires.1 c.args.text.now c.in_ok-parse_literal.field-0 c.in_ok-parse_literal.ensures
