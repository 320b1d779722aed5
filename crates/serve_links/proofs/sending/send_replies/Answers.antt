use Rattle.serve_links.proofs.SentReplies.{reply_at, sent_part}
use Rattle.serve_links.proofs.sending.send_replies.Goals as goal

pub write_reply-requires : goal.write_reply-requires
write_reply-requires g c =
    reply_at c.args.replies.now c.loop-reply.reply-index c.reply-item.result c.reply-item.is c.requires c.loop-reply-test.true

pub returns-in_err-write_reply-clause-sends : goal.returns-in_err-write_reply-clause-sends
returns-in_err-write_reply-clause-sends g c =
    sent_part c.args.replies.now c.loop-reply.reply-index c.reply-item.result (g.L.Source.sent c.args.link.now) (g.L.Source.sent c.loop-reply.link)
    (g.L.Source.sent c.write_reply.new.link) c.from_residual.result c.in_err-write_reply.field-0.0 c.from_residual.ensures.1 c.reply-item.is c.loop-reply-test.true
    c.loop-reply.invariant.sent c.in_err-write_reply.ensures.sends
