use Rattle.std.proofs.Common.{◌+◌, ◌∙◌, length, ap, sym}
use Rattle.object_writer.proofs.NumberedTypes.{length-listed}
use Rattle.object_writer.proofs.numbering.Numbering.len.Goals as goal

pub returns : goal.returns
returns c =
    let n = c.args.self.now in
    ap (λ k. length c.named_types.result.now + k) (c.len.ensures ∙ n.order.ok.0) ∙ ap (λ l. length l + length n.order.items) c.named_types.ensures.named ∙ sym (length-listed c.args.types.now n)
