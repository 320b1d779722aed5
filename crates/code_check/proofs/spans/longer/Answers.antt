use Rattle.core_terms.specs.Programs.{types_in}
use Rattle.code_check.proofs.SpansOfTypes.{both_over, one_over}
use Rattle.code_check.proofs.spans.longer.Goals as goal

pub returns-then-under-far : goal.returns-then-under-far
returns-then-under-far c =
    both_over (types_in c.args.types.now) c.args.others c.span_at-under.result c.span_at-far.result c.requires.others (c.span_at-under.ensures (types_in c.args.types.now) c.requires.spans)
    (c.span_at-far.ensures (types_in c.args.types.now) c.requires.spans) c.if-under-gt0.true c.if-under-far.true

pub returns-else-under-gt0 : goal.returns-else-under-gt0
returns-else-under-gt0 c =
    one_over (types_in c.args.types.now) c.args.others c.span_at-under.result c.requires.others (c.span_at-under.ensures (types_in c.args.types.now) c.requires.spans)
