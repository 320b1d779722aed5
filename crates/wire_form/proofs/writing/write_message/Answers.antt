use Rattle.std.proofs.Common.{◌∙◌}
use Rattle.std.proofs.lemmas.List.{take_rest}
use Rattle.wire_form.proofs.Sending.{front_and_rest, part_of_head, part_of_tail}
use Rattle.wire_form.proofs.writing.write_message.Goals as goal

pub returns-in_err-send_all-clause-sends : goal.returns-in_err-send_all-clause-sends
returns-in_err-send_all-clause-sends g c =
    part_of_head _ c.deref.result.now _ _ _ _ _ c.from_residual-in_err-send_all.ensures.1
    (front_and_rest c.args.fields.now c.args.tail.now c.deref.result.now _ (c.deref.ensures.value ∙ c.in_ok-front.ensures)) c.in_err-send_all.ensures.part

pub returns-in_err-send_all-2-clause-sends : goal.returns-in_err-send_all-2-clause-sends
returns-in_err-send_all-2-clause-sends g c =
    let part = rw take_rest at c.in_err-send_all-2.ensures.part in
    part_of_tail _ c.deref.result.now _ _ _ _ _ _ c.from_residual-in_err-send_all-2.ensures.1
    (front_and_rest c.args.fields.now c.args.tail.now c.deref.result.now _ (c.deref.ensures.value ∙ c.in_ok-front.ensures)) c.in_ok-send_all.ensures.all part
