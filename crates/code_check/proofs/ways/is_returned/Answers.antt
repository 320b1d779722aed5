use Rattle.core_terms.specs.Programs.{types_in}
use Rattle.core_terms.specs.TypeTables.{type_at}
use Rattle.code_check.proofs.SteppedFrames.{returned}
use Rattle.code_check.proofs.ways.is_returned.Goals as goal

pub returns-then-is_none : goal.returns-then-is_none
returns-then-is_none c = λ os h.
    returned (types_in c.args.lists.now.types) (type_at (types_in c.args.lists.now.types) c.args.result_type) os c.in-Some.top c.top_of-in-Some.result c.is_same.result
    (c.in-Some.ensures.top os h) c.top_of-in-Some.ensures.top c.if-is_none.ensures c.is_same.ensures
