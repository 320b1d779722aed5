use Rattle.std.proofs.Common.{◌≡◌, ◌∙◌, ap, None, Some, option_map, rules, sym}
use Rattle.core_terms.specs.Programs.{meaning}
use Rattle.ask_script.specs.ScriptAnswers.{step_meant}
use Rattle.ask_script.proofs.Forms.{opened}
use Rattle.ask_script.proofs.line.read_open.Goals as goal

pub returns-in_err-kept : goal.returns-in_err-kept
returns-in_err-kept c = λ names.
    let most : c.from.result ≡ (meaning c.args.program.now).format.most_kept = search rules in
    ap (option_map step_meant) c.from_residual-in_err-kept.ensures
    ∙ opened (meaning c.args.program.now) names c.args.words.now c.in_ok-session.session.now c.in_ok-session.kept.now c.from.result
    (Some c.in_ok-session-2.session) None c.in_ok-session.ensures.cut (sym c.in_ok-session-2.was ∙ c.read_session.ensures) (sym c.in_err-kept.was ∙ c.read_number.ensures) most

pub returns : goal.returns
returns c = λ names.
    let most : c.from.result ≡ (meaning c.args.program.now).format.most_kept = search rules in
    opened (meaning c.args.program.now) names c.args.words.now c.in_ok-session.session.now c.in_ok-session.kept.now c.from.result
    (Some c.in_ok-session-2.session) (Some c.in_ok-kept.kept) c.in_ok-session.ensures.cut (sym c.in_ok-session-2.was ∙ c.read_session.ensures) (sym c.in_ok-kept.was ∙ c.read_number.ensures) most
