use Rattle.net_commands.proofs.AskReading.{script_goes, script_refused}
use Rattle.net_commands.proofs.asking.steps_in.Goals as goal

pub returns-in_err-read_script-clause-goes : goal.returns-in_err-read_script-clause-goes
returns-in_err-read_script-clause-goes c =
    script_refused c.args.program.now c.args.text.now _ c.in_err-read_script.field-0.0 c.from_residual.result c.from_residual.ensures.1 c.in_err-read_script.ensures.script

pub returns-clause-script : goal.returns-clause-script
returns-clause-script c = (c.args.text.now, c.in_ok-read_script.ensures.script)

pub returns-clause-goes : goal.returns-clause-goes
returns-clause-goes c = script_goes c.args.program.now c.args.text.now c.in_ok-read_script.field-0 c.in_ok-read_script.ensures.script
