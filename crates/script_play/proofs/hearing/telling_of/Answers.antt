use Rattle.std.proofs.Common.{◌≡◌, ◌∙◌, ap, subst}
use Rattle.code_gen.specs.Programs.{program_in}
use Rattle.core_terms.specs.Programs.{constructor_names, meaning, types_of}
use Rattle.core_terms.specs.declared.program.Program.{Program}
use Rattle.script_play.specs.DeedLines.{answer_line}
use Rattle.script_play.specs.Tellings.{OfAnswer}
use Rattle.script_play.proofs.hearing.telling_of.Goals as goal

pub returns-clause-line : goal.returns-clause-line
returns-clause-line g c =
    subst (λ (p : Program). OfAnswer (types_of p) (meaning p) c.args.called c.args.told.now
    (λ role answer. c.in_ok-line.line.items ≡ answer_line (meaning p) (constructor_names p.types.named.items) c.args.session role answer))
    (c.program.ensures ∙ ap program_in c.code.ensures) c.in_ok-line.ensures.line
