use Rattle.wire_form.proofs.Coming.{reads_short, reads_whole}
use Rattle.session_meaning.specs.Messages as meant
use Rattle.wire_form.specs.MessageViews.{reply_meant}
use Rattle.wire_form.proofs.reading.read_reply.Goals as goal

pub returns-clause-reads : goal.returns-clause-reads
returns-clause-reads g c = λ bytes told.
    reads_whole reply_meant meant.reply_of bytes c.in_ok-body.body.items _ _ _ c.deref.ensures.value (c.in_ok-body.ensures.came bytes told) c.reply_in.ensures.says

pub returns-in_err-body-clause-reads : goal.returns-in_err-body-clause-reads
returns-in_err-body-clause-reads g c = λ bytes told.
    reads_short reply_meant meant.reply_of bytes _ _ _ c.from_residual.ensures.1 (c.in_err-body.ensures.came bytes told)
