use Rattle.std.proofs.Common.{rules}
use Rattle.wire_form.proofs.OnlyMessages.{is_reply}
use Rattle.wire_form.specs.MessageViews.{reply_meant}
use Rattle.wire_form.proofs.reading.reply_in.Goals as goal

pub returns-in-Ok-clause-message : goal.returns-in-Ok-clause-message
returns-in-Ok-clause-message c =
    is_reply c.args.body.now (reply_meant c.in-Ok.reply) c.requires (λ i. (c.type_inv.body i).fits)
    (search rules)
