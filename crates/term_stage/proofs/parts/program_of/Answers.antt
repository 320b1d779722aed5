use Rattle.std.proofs.Common.{rules}
use Rattle.term_stage.proofs.FittingParts.{parts_limited, parts_same}
use Rattle.term_stage.proofs.parts.program_of.Goals as goal

pub new-requires-clause-limits : goal.new-requires-clause-limits
new-requires-clause-limits c =
    parts_limited c.args.types c.args.named.items c.args.state c.args.functions.items
    (parts_same c.args.types c.deref.result.now c.args.named.items c.args.state c.deref-2.result.now c.args.functions.items c.deref.ensures.value c.deref-2.ensures.value
    (c.if-not-are_parts.ensures (search rules)))
