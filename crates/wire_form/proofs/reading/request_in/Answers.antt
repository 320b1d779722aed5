use Rattle.std.proofs.Common.{rules}
use Rattle.wire_form.proofs.OnlyMessages.{has_argument, is_request}
use Rattle.wire_form.specs.MessageViews.{request_meant}
use Rattle.wire_form.proofs.reading.request_in.Goals as goal

pub returns-in-Ok-clause-message : goal.returns-in-Ok-clause-message
returns-in-Ok-clause-message c =
    is_request c.args.body.now (request_meant c.in-Ok.request) c.requires (λ i. (c.type_inv.body i).fits)
    (search rules)

pub returns-in-Ok-clause-argument : goal.returns-in-Ok-clause-argument
returns-in-Ok-clause-argument c =
    has_argument c.args.body.now (request_meant c.in-Ok.request) c.requires (λ i. (c.type_inv.body i).fits)
    (search rules)
