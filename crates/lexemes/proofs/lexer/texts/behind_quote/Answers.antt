use Rattle.std.proofs.Common.{◌+◌, sym, subst}
use Rattle.lexemes.proofs.TextLemmas.{IsReadSoFar, read_so_far-byte, read-fault, read-end}
use Rattle.lexemes.proofs.lexer.texts.behind_quote.Goals as goal

pub loop-bytes-preserved : goal.loop-bytes-preserved
loop-bytes-preserved c =
    let text = c.args.text.now in
    let done = c.loop-bytes.done in
    subst (λ items. IsReadSoFar text items (done + c.in-Byte.size)) (sym c.in_ok-push-in-Byte.ensures.items)
    (read_so_far-byte text c.loop-bytes.bytes.items done c.in-Byte.byte c.in-Byte.size c.loop-bytes.invariant c.in-Byte.ensures)

pub returns-in-Fault : goal.returns-in-Fault
returns-in-Fault c = read-fault c.args.text.now c.loop-bytes.bytes.items c.loop-bytes.done c.in-Fault.kind c.loop-bytes.invariant c.in-Fault.ensures

pub returns-in-End : goal.returns-in-End
returns-in-End c = read-end c.args.text.now c.loop-bytes.bytes.items c.loop-bytes.done c.loop-bytes.invariant c.in-End.ensures
