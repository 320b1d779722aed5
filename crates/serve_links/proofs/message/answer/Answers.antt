use Rattle.std.proofs.Common.{Err, [], map, refl, inr, sym, ap, subst, ◌∙◌}
use Rattle.std.specs.List.{AllByRecursion}
use Rattle.core_terms.specs.Formats.{IsHash}
use Rattle.code_gen.specs.declared.code.Code.{Code}
use Rattle.mode_vm.specs.Meanings.{program_of}
use Rattle.session_meaning.specs.MessageFields.{IsReply}
use Rattle.session_turns.specs.Keepers.{AreKeepable, KeepsBetween}
use Rattle.session_turns.specs.Sharing.{Shares}
use Rattle.session_turns.specs.declared.shared.Shared.{Shared}
use Rattle.wire_form.specs.MessageViews.{reply_meant}
use Rattle.wire_form.specs.WrittenMessages.{Sends}
use Rattle.serve_core.specs.Serving.{heard_meant}
use Rattle.serve_core.proofs.Steps.{without_sessions}
use Rattle.serve_core.proofs.StoppedBehind.{stopped_behind}
use Rattle.serve_links.specs.Connections.{bytes_of}
use Rattle.serve_links.specs.HistoriesInCode.{own_digest, program_served, step_of, turns_of}
use Rattle.serve_links.proofs.Answering.{part_sent, stops}
use Rattle.serve_links.proofs.Growing.{stopped_grows}
use Rattle.serve_links.proofs.Keepable.{commits_fit}
use Rattle.serve_links.proofs.KeptBehind.{all_now, front_now, some_now}
use Rattle.serve_links.proofs.KeptCommits.{all_kept, old_kept, still_kept}
use Rattle.serve_links.proofs.Serving.{begun_now, history_more, replies_fit}
use Rattle.serve_links.proofs.message.answer.Goals as goal

pub send_replies-requires : goal.send_replies-requires
send_replies-requires g c =
    let is_hash : IsHash g.H.Hash32.hash = (g.met.H.Hash32 g.world.𝓛 g.world.𝓜 g.world.𝓡 ((λ s x. x), (λ x. x), (λ x. x), (λ x. x))).digest_length in
    let core = c.args.core.now in
    let server = c.requires.history.server in
    let handles = c.in_ok-replies.ensures.handled server c.requires.history.serves in
    let shown = ap (map reply_meant) c.deref.ensures.value ∙ handles.list in
    subst (AllByRecursion IsReply) (sym shown)
    (replies_fit g.H.Hash32.hash is_hash core.code (own_digest core) (turns_of core) server (heard_meant c.args.heard) c.requires.history.history c.requires.message)

-- memory was wanting to handle it
pub returns-in_err-replies-clause-answers : goal.returns-in_err-replies-clause-answers
returns-in_err-replies-clause-answers g c = λ server place serves keeps.
    let hash = g.H.Hash32.hash in
    let core = c.args.core.now in
    let m = heard_meant c.args.heard in
    let sent = g.L.Source.sent c.args.link.now in
    let at = c.in_err-replies.ensures.stopped server serves in
    let grows = stopped_grows hash (program_served core) (own_digest core) (turns_of core) server m at.0 at.1 in
    let kept = old_kept (g.K.Keeper.keeps c.args.keeper.now place) core.shared.commits.items server.shared.commits at.0.shared.commits serves.shares.commits grows keeps in
    stops hash (KeepsBetween (g.K.Keeper.keeps c.args.keeper.now place)) core c.handle.new.self server sent sent m c.from_residual.result c.from_residual.ensures.1
    (refl, (at.0, at.1, at.2, kept))

pub keep-requires-clause-fit : goal.keep-requires-clause-fit
keep-requires-clause-fit g c =
    let hash = g.H.Hash32.hash in
    let is_hash : IsHash hash = (g.met.H.Hash32 g.world.𝓛 g.world.𝓜 g.world.𝓡 ((λ s x. x), (λ x. x), (λ x. x), (λ x. x))).digest_length in
    let core = c.args.core.now in
    let server = c.requires.history.server in
    let m = heard_meant c.args.heard in
    let step = step_of hash core server m in
    let handles = c.in_ok-replies.ensures.handled server c.requires.history.serves in
    let more = history_more hash (program_served core) (own_digest core) (turns_of core) server m c.requires.history.history c.requires.message in
    let begun = begun_now hash is_hash core.code (own_digest core) (turns_of core) step.server more in
    subst AreKeepable (sym c.commits.ensures)
    (commits_fit hash is_hash core.code step.server.shared c.handle.new.self.shared.commits.items begun handles.serves.shares.commits)

pub keep-requires-clause-more : goal.keep-requires-clause-more
keep-requires-clause-more g c =
    let hash = g.H.Hash32.hash in
    let core = c.args.core.now in
    let server = c.requires.history.server in
    let handles = c.in_ok-replies.ensures.handled server c.requires.history.serves in (
      c.requires.kept.0,
      core.shared.commits.items,
      c.requires.kept.1,
      front_now hash core c.handle.new.self server (heard_meant c.args.heard) c.commits.result.now c.commits.ensures c.requires.history.serves handles.serves,
    )

-- the commits were not kept
pub returns-then-is_err-clause-answers : goal.returns-then-is_err-clause-answers
returns-then-is_err-clause-answers g c = λ server place serves keeps.
    let hash = g.H.Hash32.hash in
    let core = c.args.core.now in
    let handled = c.handle.new.self in
    let new = c.end_sessions.new.self in
    let m = heard_meant c.args.heard in
    let step = step_of hash core server m in
    let now = c.commits.result.now in
    let handles = c.in_ok-replies.ensures.handled server serves in
    let on = c.keep.ensures.kept place core.shared.commits.items keeps (front_now hash core handled server m now c.commits.ensures serves handles.serves) in
    let kept = some_now hash core handled server m now c.commits.ensures serves handles.serves (g.K.Keeper.keeps c.keep.new.self place) c.keep.result on
    (sym c.is_err.ensures.value ∙ c.if-is_err.true) in
    let shares : Shares hash (program_of new.code) new.shared step.server.shared =
    subst (λ (code : Code). Shares hash (program_of code) new.shared step.server.shared) (sym c.end_sessions.ensures.code)
    (subst (λ (s : Shared). Shares hash (program_of handled.code) s step.server.shared) (sym c.end_sessions.ensures.shared) handles.serves.shares) in
    inr (
      refl,
      (
        record { shared = step.server.shared; heard = 0; sessions = [] },
        stopped_behind hash (program_served core) (turns_of core) (own_digest core) server m,
        without_sessions hash new step.server.shared shares c.end_sessions.ensures.sessions c.end_sessions.ensures.heard,
        kept,
      ),
    )

-- a front of the replies was sent
pub returns-in_err-send_replies-clause-answers : goal.returns-in_err-send_replies-clause-answers
returns-in_err-send_replies-clause-answers g c = λ server place serves keeps.
    let hash = g.H.Hash32.hash in
    let core = c.args.core.now in
    let handled = c.handle.new.self in
    let m = heard_meant c.args.heard in
    let now = c.commits.result.now in
    let before = g.L.Source.sent c.args.link.now in
    let behind = g.L.Source.sent c.send_replies.new.link in
    let Keeps = g.K.Keeper.keeps c.keep.new.self place in
    let handles = c.in_ok-replies.ensures.handled server serves in
    let on = c.keep.ensures.kept place core.shared.commits.items keeps (front_now hash core handled server m now c.commits.ensures serves handles.serves) in
    let all = all_now hash core handled server m now c.commits.ensures serves handles.serves Keeps c.keep.result on (sym c.is_err.ensures.value ∙ c.if-is_err.false) in
    let shown = ap (map reply_meant) c.deref.ensures.value ∙ handles.list in
    let sends = subst (λ rs. Sends (bytes_of rs) before behind (Err c.in_err-send_replies.field-0.0)) shown c.in_err-send_replies.ensures.sends in
    part_sent hash (KeepsBetween Keeps) core handled server before behind m c.in_err-send_replies.field-0.0 c.from_residual-in_err-send_replies.result
    c.from_residual-in_err-send_replies.ensures.1 sends handles.serves
    (all_kept Keeps handled.shared.commits.items (step_of hash core server m).server.shared.commits handles.serves.shares.commits all)

pub returns-in_err-send_replies-clause-kept : goal.returns-in_err-send_replies-clause-kept
returns-in_err-send_replies-clause-kept g c = λ place keeps.
    let hash = g.H.Hash32.hash in
    let core = c.args.core.now in
    let handled = c.handle.new.self in
    let server = c.requires.history.server in
    let serves = c.requires.history.serves in
    let m = heard_meant c.args.heard in
    let now = c.commits.result.now in
    let Keeps = g.K.Keeper.keeps c.keep.new.self place in
    let handles = c.in_ok-replies.ensures.handled server serves in
    let on = c.keep.ensures.kept place core.shared.commits.items keeps (front_now hash core handled server m now c.commits.ensures serves handles.serves) in
    let all = all_now hash core handled server m now c.commits.ensures serves handles.serves Keeps c.keep.result on (sym c.is_err.ensures.value ∙ c.if-is_err.false) in
    still_kept (Keeps handled.shared.commits.items) c.from_residual-in_err-send_replies.result all

pub returns-clause-kept : goal.returns-clause-kept
returns-clause-kept g c = λ place keeps.
    let hash = g.H.Hash32.hash in
    let core = c.args.core.now in
    let handled = c.handle.new.self in
    let server = c.requires.history.server in
    let serves = c.requires.history.serves in
    let m = heard_meant c.args.heard in
    let now = c.commits.result.now in
    let Keeps = g.K.Keeper.keeps c.keep.new.self place in
    let handles = c.in_ok-replies.ensures.handled server serves in
    let on = c.keep.ensures.kept place core.shared.commits.items keeps (front_now hash core handled server m now c.commits.ensures serves handles.serves) in
    all_now hash core handled server m now c.commits.ensures serves handles.serves Keeps c.keep.result on (sym c.is_err.ensures.value ∙ c.if-is_err.false)
