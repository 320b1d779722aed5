use Rattle.std.proofs.Common.{sym}
use Rattle.number_words.proofs.Numbers.{number_unread}
use Rattle.number_words.proofs.read_number.Goals as goal

pub returns-in_default : goal.returns-in_default
returns-in_default c =
    sym (number_unread c.args.most c.ranges.most.fits c.args.text.now c.parse.result c.in_default.field-0 c.parse.ensures.value.0 c.in_default.is (sym c.if-not-is_number.ensures))
