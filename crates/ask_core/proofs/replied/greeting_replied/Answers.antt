use Rattle.std.proofs.Common.{refl, sym, ap, subst}
use Rattle.session_meaning.specs.Messages as message
use Rattle.wire_form.specs.MessageViews.{reply_meant}
use Rattle.ask_core.specs.Replies.{IsReplied}
use Rattle.ask_core.specs.declared.standing.Standing.TheVariants.{Greeting}
use Rattle.ask_core.proofs.Following.{greeting_refused, greeting_wrong, welcomed}
use Rattle.ask_core.proofs.replied.greeting_replied.Goals as goal

pub returns-in-Welcome : goal.returns-in-Welcome
returns-in-Welcome c hash P =
    subst (λ r. IsReplied hash P (Greeting c.args.known) r c.idle.result) (sym (ap reply_meant c.in-Welcome.is))
    (welcomed hash P c.args.known c.idle.result c.in-Welcome.session c.idle.ensures.standing c.idle.ensures.told)

pub returns-in-Proof : goal.returns-in-Proof
returns-in-Proof c hash P =
    subst (λ r. IsReplied hash P (Greeting c.args.known) r c.wrong.result) (sym (ap reply_meant c.in-Proof.is))
    (greeting_wrong hash P c.args.known c.wrong.result (message.Proof c.in-Proof.session c.in-Proof.frames) 0x82 (λ c k. refl) c.wrong.ensures.standing c.wrong.ensures.told)

pub returns-in-Stale : goal.returns-in-Stale
returns-in-Stale c hash P =
    subst (λ r. IsReplied hash P (Greeting c.args.known) r c.wrong-in-Stale.result) (sym (ap reply_meant c.in-Stale.is))
    (greeting_wrong hash P c.args.known c.wrong-in-Stale.result (message.Stale c.in-Stale.session c.in-Stale.state) 0x83 (λ c k. refl)
    c.wrong-in-Stale.ensures.standing c.wrong-in-Stale.ensures.told)

pub returns-in-Refused : goal.returns-in-Refused
returns-in-Refused c hash P =
    subst (λ r. IsReplied hash P (Greeting c.args.known) r c.absent.result) (sym (ap reply_meant c.in-Refused.is))
    (greeting_refused hash P c.args.known c.absent.result c.in-Refused.session c.in-Refused.cause c.absent.ensures.standing c.absent.ensures.told)

pub returns-in-Closed : goal.returns-in-Closed
returns-in-Closed c hash P =
    subst (λ r. IsReplied hash P (Greeting c.args.known) r c.wrong-in-Closed.result) (sym (ap reply_meant c.in-Closed.is))
    (greeting_wrong hash P c.args.known c.wrong-in-Closed.result (message.Closed c.in-Closed.session c.in-Closed.cause) 0x85 (λ c k. refl)
    c.wrong-in-Closed.ensures.standing c.wrong-in-Closed.ensures.told)
