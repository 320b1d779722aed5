use Rattle.core_terms.specs.Programs.{types_in}
use Rattle.code_check.proofs.SteppedFrames.{paired_next}
use Rattle.code_check.proofs.steps.paired.Goals as goal

pub returns-clause-next : goal.returns-clause-next
returns-clause-next c = λ B z s h.
    paired_next B z (types_in c.args.lists.now.types) (types_in c.interned.new.lists.types) (types_in c.with_top.new.lists.types) c.args.at c.in-Some.second c.in-Some-top_of.first c.in_ok-pair.pair
    c.in_ok-operands.operands s c.in_ok-pair.ensures.grows c.in_ok-operands.ensures.grows h (c.in-Some.ensures.top s.operands h.1) c.in-Some-top_of.ensures.top c.in_ok-pair.ensures.ty
    c.in_ok-operands.ensures.list
