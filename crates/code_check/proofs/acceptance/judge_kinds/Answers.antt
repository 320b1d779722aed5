use Rattle.std.proofs.Common.{ap, ◌∙◌}
use Rattle.std.specs.Prelude.{option_map}
use Rattle.object_meaning.specs.Accepting.{kinds_judged}
use Rattle.code_check.specs.ObjectParts.{parts_program, spot_of}
use Rattle.code_check.proofs.ReadObjects.{kinds_told}
use Rattle.code_check.proofs.acceptance.judge_kinds.Goals as goal

pub returns-in-Some : goal.returns-in-Some
returns-in-Some c = λ o is.
    kinds_told o (parts_program c.args.parts.now) is c.in_ok-spot.field-0 c.in_ok-spot.ensures ∙ ap (λ k. kinds_judged o (option_map spot_of k)) c.in-Some.is

pub returns-in-None : goal.returns-in-None
returns-in-None c = λ o is.
    kinds_told o (parts_program c.args.parts.now) is c.in_ok-spot.field-0 c.in_ok-spot.ensures ∙ ap (λ k. kinds_judged o (option_map spot_of k)) c.in-None.is
