use Rattle.std.proofs.Common.{◌∙◌, Some, ap, sym}
use Rattle.ask_script.specs.Scripts.{spelled}
use Rattle.ask_script.proofs.calls.read_argument.Goals as goal

pub returns-in-Ok : goal.returns-in-Ok
returns-in-Ok c =
    let (v, is, bytes) = c.in-Ok.ensures in
    sym (ap spelled is ∙ ap (λ spelling. Some spelling) bytes)

pub returns-in-Err-At : goal.returns-in-Err-At
returns-in-Err-At c =
    let refused = rw c.in-Err-At.field-0-is at c.in-Err-At.ensures in
    sym (ap spelled refused)
