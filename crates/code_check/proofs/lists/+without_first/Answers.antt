use Rattle.std.proofs.Common.{arith}
use Rattle.core_terms.specs.Programs.{types_in}
use Rattle.code_check.proofs.ListsOfTypes.{more_off}
use Rattle.code_check.proofs.SpansOfTypes.{left_behind}
use Rattle.code_check.proofs.lists.+without_first.Goals as goal

pub returns-then-span-count-clause-left : goal.returns-then-span-count-clause-left
returns-then-span-count-clause-left t c = λ ts h.
    left_behind (types_in c.args.lists.now.types) c.args.list c.span_in-span.result c.args.count ts c.without_first.result c.span_in-span.ensures c.if-span-gt0.true c.if-span-count.true h
    c.without_first.ensures.left

pub returns-clause-left : goal.returns-clause-left
returns-clause-left t c = λ ts h.
    more_off (types_in c.args.lists.now.types) c.args.count ts c.in_ok-top.top c.without_first-2.result (λ e. omega arith) (c.in_ok-top.ensures.top ts h) c.without_first-2.ensures.left
