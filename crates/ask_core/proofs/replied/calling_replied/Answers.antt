use Rattle.std.proofs.Common.{refl, sym, ap, subst}
use Rattle.core_terms.specs.Programs.{meaning}
use Rattle.core_terms.specs.declared.program.Program.{Program}
use Rattle.mode_vm.specs.Meanings.{program_of}
use Rattle.session_meaning.specs.Messages as message
use Rattle.wire_form.specs.MessageViews.{reply_meant}
use Rattle.ask_core.specs.Replies.{IsReplied}
use Rattle.ask_core.specs.declared.standing.Standing.TheVariants.{Calling}
use Rattle.ask_core.proofs.Following.{calling_wrong}
use Rattle.ask_core.proofs.replied.calling_replied.Goals as goal

pub returns-in-Welcome : goal.returns-in-Welcome
returns-in-Welcome g c =
    let hash = g.H.Hash32.hash in
    let P = program_of c.args.code.now in
    subst (λ r. IsReplied hash P (Calling c.args.known c.args.asked) r c.wrong.result) (sym (ap reply_meant c.in-Welcome.is))
    (calling_wrong hash P c.args.known c.args.asked c.wrong.result (message.Welcome c.in-Welcome.session) 0x81 (λ c k a is. refl) c.wrong.ensures.standing c.wrong.ensures.told)

pub returns-in-Closed : goal.returns-in-Closed
returns-in-Closed g c =
    let hash = g.H.Hash32.hash in
    let P = program_of c.args.code.now in
    subst (λ r. IsReplied hash P (Calling c.args.known c.args.asked) r c.wrong-in-Closed.result) (sym (ap reply_meant c.in-Closed.is))
    (calling_wrong hash P c.args.known c.args.asked c.wrong-in-Closed.result (message.Closed c.in-Closed.session c.in-Closed.cause) 0x85 (λ c k a is. refl)
    c.wrong-in-Closed.ensures.standing c.wrong-in-Closed.ensures.told)

pub returns-in-Stale : goal.returns-in-Stale
returns-in-Stale g c =
    let hash = g.H.Hash32.hash in
    let P = program_of c.args.code.now in
    let stale = message.Stale c.in-Stale.session c.in-Stale.state in
    subst (λ r. IsReplied hash P (Calling c.args.known c.args.asked) r c.stale_replied.result) (sym (ap reply_meant c.in-Stale.is))
    (subst (λ (p : Program). IsReplied hash (meaning p) (Calling c.args.known c.args.asked) stale c.stale_replied.result) c.program.ensures
    (c.stale_replied.ensures hash c.args.known c.args.asked c.in-Stale.session refl))
