use Rattle.session_meaning.specs.Messages.{BadMessage, TooLong}
use Rattle.script_play.proofs.Told.{bad_stop, long_stop}
use Rattle.script_play.proofs.lines.stop_line.Goals as goal

pub returns-in_ok-bad_message_line-in-BadMessage : goal.returns-in_ok-bad_message_line-in-BadMessage
returns-in_ok-bad_message_line-in-BadMessage c =
    (BadMessage c.in-BadMessage.kind c.in-BadMessage.offset, bad_stop c.args.stop c.in-BadMessage.kind c.in-BadMessage.offset c.in-BadMessage.is, c.in_ok-bad_message_line-in-BadMessage.ensures)

pub returns-in_ok-long_message_line-in-TooLong : goal.returns-in_ok-long_message_line-in-TooLong
returns-in_ok-long_message_line-in-TooLong c =
    (TooLong c.in-TooLong.len, long_stop c.args.stop c.in-TooLong.len c.in-TooLong.is, c.in_ok-long_message_line-in-TooLong.ensures)
