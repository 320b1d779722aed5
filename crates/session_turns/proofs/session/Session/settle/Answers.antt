use Rattle.std.proofs.Common.{rules, ◌≡◌, ◌*◌, ◌+◌, Some, None, Ok, not, is_some, true, sym, ap, ◌∙◌, subst, arith}
use Rattle.std.proofs.lemmas.Result.{IfOk-weaker}
use Rattle.mode_vm.specs.Meanings.{program_of}
use Rattle.session_meaning.specs.Calls.{frames_of, new_state, outcome_of}
use Rattle.session_meaning.specs.Server as meant
use Rattle.value_store.specs.Stores.{nodes_in}
use Rattle.wire_form.specs.declared.message.Reply.TheVariants as reply
use Rattle.session_turns.specs.Sessions.{IsTurned}
use Rattle.session_turns.specs.Versions.{IsVersion}
use Rattle.session_turns.proofs.Rows.{alike_length, of_none, of_some}
use Rattle.session_turns.proofs.SessionTurns.{end_is, further, idle_turn, long_turn, none_told, on_turn}
use Rattle.session_turns.proofs.session.Session.settle.Goals as goal

pub returns-in_default-clause-turned : goal.returns-in_default-clause-turned
returns-in_default-clause-turned g c slice m s shares h =
    idle_turn g.H.Hash32.hash c.args.code.now slice c.args.shared.now m c.args.self s h c.args.number shares c.in_default.is

pub returns-then-is_none-clause-turned : goal.returns-then-is_none-clause-turned
returns-then-is_none-clause-turned g c slice m s shares h =
    let call = c.in-Some.field-0 in
    let told = c.in_ok-told.told in
    let last : call.run.last ≡ Ok told = search rules in
    on_turn g.H.Hash32.hash c.args.code.now slice c.args.shared.now m c.args.self s h c.args.number call c.in-Some.is told last shares
    (none_told told c.is_none.result c.is_none.ensures c.if-is_none.true)

pub finish-requires-clause-limit : goal.finish-requires-clause-limit
finish-requires-clause-limit g c κs within = c.requires.3.limit

pub finish-requires-clause-running : goal.finish-requires-clause-running
finish-requires-clause-running g c κs within =
    let slice = c.requires.0 in
    let m = c.requires.1 in
    let s = c.requires.2 in
    let call = c.in-Some.field-0 in
    let told = c.in_ok-told.told in
    let last : call.run.last ≡ Ok told = search rules in
    let there = further g.H.Hash32.hash c.args.code.now slice c.args.shared.now m c.args.self s c.requires.4 c.args.number call c.in-Some.is told last in
    (meant.version_at m.versions s.version, there.r.call, there.r.turns * slice + slice, there.run)

pub end_turn-requires-clause-version : goal.end_turn-requires-clause-version
end_turn-requires-clause-version g c κs within =
    let P = program_of c.args.code.now in
    let m = c.requires.1 in
    let shares = c.requires.3 in
    let h = c.requires.4 in
    let count = alike_length (IsVersion g.H.Hash32.hash P (nodes_in c.args.shared.now.store)) c.args.shared.now.versions.items m.versions shares.versions in
    let same = of_some _ _ _ c.in-Some-2.is c.in_ok-finished.ensures.version in
    let at = h.at_version in
    let there = h.there in
    omega (arith, count, same, at, there)

pub returns-in-Some-2-clause-turned : goal.returns-in-Some-2-clause-turned
returns-in-Some-2-clause-turned g c =
    IfOk-weaker c.end_turn.result _ _ (λ turned f slice m s shares h.
    let hash = g.H.Hash32.hash in
    let code = c.args.code.now in
    let call = c.in-Some.field-0 in
    let told = c.in_ok-told.told in
    let last : call.run.last ≡ Ok told = search rules in
    let there = further hash code slice c.args.shared.now m c.args.self s h c.args.number call c.in-Some.is told last in
    let ends : is_some told ≡ true = c.is_none.ensures ∙ ap not c.if-is_none.false in
    let done = of_some _ _ _ c.in-Some-2.is c.in_ok-finished.ensures.ends s (meant.version_at m.versions s.version) there.r.call (there.r.turns * slice + slice) there.run h.at_version h.holds in
    subst (λ t. IsTurned hash code slice c.end_turn.new.self c.args.number turned t)
    (sym (end_is hash code slice c.args.shared.now m c.args.self s h c.args.number call c.in-Some.is told last ends))
    (f slice m s there.r.call _ _ shares done.2 done.0 done.1)) c.end_turn.ensures.turned

pub returns-in-None-clause-turned : goal.returns-in-None-clause-turned
returns-in-None-clause-turned g c slice m s shares h =
    let hash = g.H.Hash32.hash in
    let code = c.args.code.now in
    let P = program_of code in
    let call = c.in-Some.field-0 in
    let told = c.in_ok-told.told in
    let last : call.run.last ≡ Ok told = search rules in
    let there = further hash code slice c.args.shared.now m c.args.self s h c.args.number call c.in-Some.is told last in
    let ends : is_some told ≡ true = c.is_none.ensures ∙ ap not c.if-is_none.false in
    let state = meant.version_at m.versions s.version in
    let long = of_none _ _ c.in-None.is c.in_ok-finished.ensures.too_long s state there.r.call (there.r.turns * slice + slice) there.run h.at_version h.holds in
    subst (λ t. IsTurned hash code slice {A = g.row.H.Denot} c.args.shared.now c.args.number (record { session = None; reply = Some (reply.Refused c.args.number c.cause.result) }) t)
    (sym (end_is hash code slice c.args.shared.now m c.args.self s h c.args.number call c.in-Some.is told last ends))
    (long_turn hash code slice c.args.shared.now c.args.number s there.r.call (frames_of hash P s.kept s.recent state there.r.call)
    (new_state P there.r.call (outcome_of P state there.r.call)) m c.cause.result c.cause.ensures shares long)
