use Rattle.std.proofs.Common.{◌≡◌, IfOk, sym, subst}
use Rattle.core_terms.specs.Programs.{constructor_names, meaning, types_of}
use Rattle.script_play.specs.DeedLines.{answer_line}
use Rattle.script_play.specs.Tellings.{OfAnswer}
use Rattle.script_play.proofs.lines.answer_line.Goals as goal

pub returns-in-Ok-clause-line : goal.returns-in-Ok-clause-line
returns-in-Ok-clause-line c =
    let p = c.args.program.now in
    subst (λ told. IfOk c.told_line.result (λ line. OfAnswer (types_of p) (meaning p) c.args.called told
    (λ role answer. line.items ≡ answer_line (meaning p) (constructor_names p.types.named.items) c.args.session role answer))) (sym c.in-Ok.is) c.told_line.ensures
