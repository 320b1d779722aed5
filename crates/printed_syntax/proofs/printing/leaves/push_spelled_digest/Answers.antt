use Rattle.printed_syntax.proofs.PrintedFronts.{digest_taken}
use Rattle.printed_syntax.proofs.printing.leaves.push_spelled_digest.Goals as goal

pub returns-clause-printed : goal.returns-clause-printed
returns-clause-printed c =
    let cut = c.in-Some.ensures.cases in
    digest_taken c.args.bytes.now c.args.text.now.items _ _ _ c.in_ok-push_digest.ensures cut.0 cut.1
