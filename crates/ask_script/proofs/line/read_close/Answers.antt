use Rattle.std.proofs.Common.{◌∙◌, ap, option_map, sym}
use Rattle.ask_script.specs.Scripts.{Closes}
use Rattle.ask_script.specs.ScriptAnswers.{step_meant}
use Rattle.ask_script.proofs.Forms.{close_form}
use Rattle.ask_script.proofs.line.read_close.Goals as goal

pub returns-in_err-session : goal.returns-in_err-session
returns-in_err-session c = λ P names.
    ap (option_map step_meant) c.from_residual.ensures
    ∙ ap (option_map Closes) (sym c.in_err-session.was ∙ c.read_session.ensures)
    ∙ sym (close_form P names c.args.words.now)

pub returns : goal.returns
returns c = λ P names. ap (option_map Closes) (sym c.in_ok-session.was ∙ c.read_session.ensures) ∙ sym (close_form P names c.args.words.now)
