use Rattle.core_terms.specs.Programs.{types_in}
use Rattle.code_check.proofs.SteppedFrames.{bound_next}
use Rattle.code_check.proofs.steps.bound.Goals as goal

pub returns-clause-next : goal.returns-clause-next
returns-clause-next c = λ B z s h.
    bound_next B z (types_in c.args.lists.now.types) (types_in c.with_top.new.lists.types) c.args.at c.in-Some.top c.in_ok-locals.locals s c.in_ok-locals.ensures.grows h
    (c.in-Some.ensures.top s.operands h.1) c.in_ok-locals.ensures.list
