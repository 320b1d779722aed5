use Rattle.core_terms.specs.Programs.{types_in}
use Rattle.code_check.proofs.SpansOfTypes.{counted_by}
use Rattle.code_check.proofs.lists.count.Goals as goal

pub returns : goal.returns
returns c = λ ts h. counted_by (types_in c.args.lists.now.types) c.args.list c.span_in.result ts c.span_in.ensures h
