use Rattle.std.proofs.Common.{◌≡◌, inr, Some, None, refl, sym, ap, ◌∙◌, subst, Vec, Global}
use Rattle.mode_vm.specs.Meanings.{program_of}
use Rattle.session_meaning.specs.Server as meant
use Rattle.wire_form.specs.declared.message.Reply.{Reply}
use Rattle.session_turns.specs.Sharing.{Shares}
use Rattle.session_turns.proofs.RoundSoFar.{on_err, entry_turned, with_reply}
use Rattle.session_turns.proofs.shared.Shared.settle_turn.Goals as goal
use Rattle.session_turns.proofs.shared.Shared.settle_turn.Goals.{in-Some+in_ok-push, in_default}

pub returns-in_err-push-clause-refused : goal.returns-in_err-push-clause-refused
returns-in_err-push-clause-refused g c =
    let hash = g.H.Hash32.hash in
    let P = program_of c.args.code.now in
    on_err c.from_residual-in_err-push.result _ (λ slice m x shares is.
    let turned = c.in_ok-session.ensures.turned slice m x.value shares is.session in
    (_, inr refl, subst (λ n. Shares hash P c.settle.new.shared (meant.turn hash P (meant.last_turn slice) n x.value m).shared) is.number turned.shares))

pub returns-in-Some-session-clause-turned : goal.returns-in-Some-session-clause-turned
returns-in-Some-session-clause-turned g c slice m x shares is =
    let before = c.args.replies.now.items in
    let replied : with_reply before c.in_ok-session.field-0.reply ≡ c.match-reply.replies.items = elim c.match-reply.branch [
      | in-Some+in_ok-push w ↦ ap (with_reply before) w.in-Some.is ∙ sym w.in_ok-push.ensures.items ∙ sym (ap (λ (v : Vec Reply Global). v.items) w.replies-is)
      | in_default w ↦ ap (with_reply before) w.in_default.is ∙ sym (ap (λ (v : Vec Reply Global). v.items) w.replies-is)
    ] in
    entry_turned g.H.Hash32.hash c.args.code.now slice c.settle.new.shared c.args.entry.number c.in_ok-session.field-0 x m (Some c.in-Some-session.value) before
    c.match-reply.replies.items is.number c.in-Some-session.is replied (c.in_ok-session.ensures.turned slice m x.value shares is.session)

pub returns-in-None-clause-turned : goal.returns-in-None-clause-turned
returns-in-None-clause-turned g c slice m x shares is =
    let before = c.args.replies.now.items in
    let replied : with_reply before c.in_ok-session.field-0.reply ≡ c.match-reply.replies.items = elim c.match-reply.branch [
      | in-Some+in_ok-push w ↦ ap (with_reply before) w.in-Some.is ∙ sym w.in_ok-push.ensures.items ∙ sym (ap (λ (v : Vec Reply Global). v.items) w.replies-is)
      | in_default w ↦ ap (with_reply before) w.in_default.is ∙ sym (ap (λ (v : Vec Reply Global). v.items) w.replies-is)
    ] in
    entry_turned g.H.Hash32.hash c.args.code.now slice c.settle.new.shared c.args.entry.number c.in_ok-session.field-0 x m None before
    c.match-reply.replies.items is.number c.in-None.is replied (c.in_ok-session.ensures.turned slice m x.value shares is.session)
