use Rattle.printed_syntax.proofs.CountedFronts.{digest_counted}
use Rattle.printed_syntax.proofs.printing.leaf_lengths.digest_length.Goals as goal

pub returns-clause-counted : goal.returns-clause-counted
returns-clause-counted c = digest_counted c.args.bytes.now c.in-Some.left.now c.in-Some.ensures.cases.1
