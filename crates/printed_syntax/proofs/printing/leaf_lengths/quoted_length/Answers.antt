use Rattle.printed_syntax.proofs.PrintedTexts.{length_of_escaped_more}
use Rattle.printed_syntax.proofs.printing.leaf_lengths.quoted_length.Goals as goal

pub loop-byte-preserved : goal.loop-byte-preserved
loop-byte-preserved c =
    length_of_escaped_more c.args.content.now c.loop-byte.byte-index c.loop-byte.length c.escaped_length.result c.saturating_add-length.result c.loop-byte-test.true c.loop-byte.invariant
    c.escaped_length.ensures c.saturating_add-length.ensures
