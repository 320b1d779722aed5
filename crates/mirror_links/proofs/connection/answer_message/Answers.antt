use Rattle.std.proofs.Common.{ap}
use Rattle.piece_mirror.specs.Answers.{answer_of, given_by}
use Rattle.piece_mirror.specs.Tables.{bytes_of}
use Rattle.mirror_links.proofs.Answering.{answered_part, found_fits, unread}
use Rattle.mirror_links.proofs.connection.answer_message.Goals as goal

pub returns-in_err-digest-clause-answered : goal.returns-in_err-digest-clause-answered
returns-in_err-digest-clause-answered g c = λ bytes told.
    unread (given_by g.H.Hash32.hash (bytes_of c.args.mirror.now.pieces)) bytes (g.L.Source.left c.next_asked.new.link) (g.L.Source.sent c.args.link.now) (g.L.Source.sent c.next_asked.new.link)
    c.in_err-digest.field-0.0 c.from_residual.result c.from_residual.ensures.1 c.next_asked.ensures.sent (c.in_err-digest.ensures.asks bytes told)

pub answer-requires : goal.answer-requires
answer-requires g c = found_fits g.H.Hash32.hash c.in-Some.digest.0 (bytes_of c.args.mirror.now.pieces) _ c.args.mirror.now.short c.get.ensures

pub returns-in_err-answer-in-Some-clause-answered : goal.returns-in_err-answer-in-Some-clause-answered
returns-in_err-answer-in-Some-clause-answered g c = λ bytes told.
    answered_part (given_by g.H.Hash32.hash (bytes_of c.args.mirror.now.pieces)) bytes (g.L.Source.left c.next_asked.new.link) (g.L.Source.left c.answer.new.link)
    (g.L.Source.sent c.args.link.now) (g.L.Source.sent c.next_asked.new.link) (g.L.Source.sent c.answer.new.link) c.in_ok-digest.field-0 c.in-Some.digest _
    c.in_err-answer-in-Some.field-0.0 c.from_residual-in_err-answer-in-Some.result c.from_residual-in_err-answer-in-Some.ensures.1 c.in-Some.is (ap answer_of c.get.ensures)
    c.next_asked.ensures.sent c.answer.ensures.left (c.in_ok-digest.ensures.asks bytes told) c.in_err-answer-in-Some.ensures.sends
