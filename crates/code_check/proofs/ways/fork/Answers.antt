use Rattle.std.proofs.Common.{subst, sym}
use Rattle.core_terms.specs.Instructions as meant
use Rattle.core_terms.specs.Kinds.{ways}
use Rattle.core_terms.specs.Programs.{types_in}
use Rattle.code_check.specs.KindSteps.{IsGone}
use Rattle.code_check.proofs.GoneWays.{branched, not_both, IsWent}
use Rattle.code_check.proofs.SteppedFrames.{frame}
use Rattle.code_check.proofs.ways.fork.Goals as goal

pub returns-then-reach-clause-behind : goal.returns-then-reach-clause-behind
returns-then-reach-clause-behind c = λ B z.
    branched B z (types_in c.args.lists.now.types) (types_in c.without_plain.new.lists.types) c.args.at c.in-Some.operands c.args.behind.now c.reach.new.behind c.reach-then-reach.new.behind c.args.passed
    c.reach-then-reach.result c.in_ok-operands.ensures.grows (rw c.in-Some.is at c.in_ok-operands.ensures.left)
    (subst (IsWent (types_in c.without_plain.new.lists.types) c.args.behind.now 0 (frame c.args.at.locals c.in-Some.operands) c.reach.new.behind) c.if-reach.true c.reach.ensures)
    c.reach-then-reach.ensures

pub returns-else-reach-clause-behind : goal.returns-else-reach-clause-behind
returns-else-reach-clause-behind c = λ B z.
    subst (IsGone (types_in c.args.lists.now.types) c.args.at c.args.behind.now (λ s. ways B z (meant.Branch c.args.passed) s.locals s.operands) (types_in c.without_plain.new.lists.types) c.reach.new.behind)
    (sym c.if-reach.false)
    (not_both B z (types_in c.args.lists.now.types) (types_in c.without_plain.new.lists.types) c.args.at c.in-Some.operands c.args.behind.now c.reach.new.behind c.reach.new.behind c.args.passed
    c.in_ok-operands.ensures.grows (rw c.in-Some.is at c.in_ok-operands.ensures.left)
    (subst (IsWent (types_in c.without_plain.new.lists.types) c.args.behind.now 0 (frame c.args.at.locals c.in-Some.operands) c.reach.new.behind) c.if-reach.false c.reach.ensures))
