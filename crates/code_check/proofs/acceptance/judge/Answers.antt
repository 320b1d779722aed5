use Rattle.code_check.specs.ObjectParts.{parts_program}
use Rattle.code_check.proofs.ReadObjects.{kinds_left}
use Rattle.code_check.proofs.acceptance.judge.Goals as goal

pub returns-in-None : goal.returns-in-None
returns-in-None c = λ o is.
    kinds_left o (parts_program c.args.parts.now) is c.in_ok-function.field-0 c.in_ok-function.ensures c.in-None.is c.judge_kinds.result (c.judge_kinds.ensures o is)
