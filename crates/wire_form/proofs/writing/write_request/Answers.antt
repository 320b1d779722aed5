use Rattle.std.proofs.Common.{◌∙◌}
use Rattle.wire_form.proofs.Sending.{request_is_sent}
use Rattle.wire_form.specs.MessageViews.{request_meant}
use Rattle.wire_form.proofs.writing.write_request.Goals as goal

pub returns-clause-sends : goal.returns-clause-sends
returns-clause-sends g c =
    request_is_sent (request_meant c.args.message.now) _ _ _ _ _ (c.deref.ensures.value ∙ c.in_ok-fields.ensures) c.tail_of_request.ensures c.write_message.ensures.sends
