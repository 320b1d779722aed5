use Rattle.std.proofs.Common.{ap, ◌∙◌}
use Rattle.core_terms.specs.Programs.{constructor_names, meaning, types_of}
use Rattle.printed_lines.specs.SessionLines.{session_line}
use Rattle.script_play.proofs.Steps.{ok_map}
use Rattle.script_play.proofs.Told.{outcome_told}
use Rattle.script_play.proofs.lines.told_line.Goals as goal

pub returns-in_ok-line-in-Outcome : goal.returns-in_ok-line-in-Outcome
returns-in_ok-line-in-Outcome c =
    let p = c.args.program.now in
    ok_map c.session_line.result c.session_line.ensures (λ line is found answer called answered.
    outcome_told (meaning p) (constructor_names p.types.named.items) (types_of p) c.args.session found c.args.called answer c.args.told.now c.in-Outcome.outcome
    c.in_ok-line-in-Outcome.line.items line.items c.in-Outcome.is c.requires called answered c.in_ok-line-in-Outcome.ensures
    (is ∙ ap (λ l. session_line c.args.session l) c.deref.ensures.value))
