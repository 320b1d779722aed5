use Rattle.std.proofs.Common.{refl, sym, ap, subst}
use Rattle.session_meaning.specs.Messages as message
use Rattle.wire_form.specs.MessageViews.{reply_meant}
use Rattle.ask_core.specs.Replies.{IsReplied}
use Rattle.ask_core.specs.declared.standing.Standing.TheVariants.{Leaving}
use Rattle.ask_core.proofs.Following.{leaving_wrong, left}
use Rattle.ask_core.proofs.replied.leaving_replied.Goals as goal

pub returns : goal.returns
returns c hash P known =
    subst (λ r. IsReplied hash P (Leaving known) r c.absent.result) (sym (ap reply_meant c.in-Closed.is))
    (left hash P known c.absent.result c.in-Closed.session c.in-Closed.cause c.absent.ensures.standing c.absent.ensures.told)

pub returns-in-Welcome : goal.returns-in-Welcome
returns-in-Welcome c hash P known =
    subst (λ r. IsReplied hash P (Leaving known) r c.wrong.result) (sym (ap reply_meant c.in-Welcome.is))
    (leaving_wrong hash P known c.wrong.result (message.Welcome c.in-Welcome.session) 0x81 (λ c k. refl) c.wrong.ensures.standing c.wrong.ensures.told)

pub returns-in-Proof : goal.returns-in-Proof
returns-in-Proof c hash P known =
    subst (λ r. IsReplied hash P (Leaving known) r c.wrong-in-Proof.result) (sym (ap reply_meant c.in-Proof.is))
    (leaving_wrong hash P known c.wrong-in-Proof.result (message.Proof c.in-Proof.session c.in-Proof.frames) 0x82 (λ c k. refl) c.wrong-in-Proof.ensures.standing c.wrong-in-Proof.ensures.told)

pub returns-in-Stale : goal.returns-in-Stale
returns-in-Stale c hash P known =
    subst (λ r. IsReplied hash P (Leaving known) r c.wrong-in-Stale.result) (sym (ap reply_meant c.in-Stale.is))
    (leaving_wrong hash P known c.wrong-in-Stale.result (message.Stale c.in-Stale.session c.in-Stale.state) 0x83 (λ c k. refl) c.wrong-in-Stale.ensures.standing c.wrong-in-Stale.ensures.told)

pub returns-in-Refused : goal.returns-in-Refused
returns-in-Refused c hash P known =
    subst (λ r. IsReplied hash P (Leaving known) r c.wrong-in-Refused.result) (sym (ap reply_meant c.in-Refused.is))
    (leaving_wrong hash P known c.wrong-in-Refused.result (message.Refused c.in-Refused.session c.in-Refused.cause) 0x84 (λ c k. refl)
    c.wrong-in-Refused.ensures.standing c.wrong-in-Refused.ensures.told)
