use Rattle.std.proofs.Common.{◌<◌, length, None, refl, ◌∙◌, subst, arith}
use Rattle.mode_vm.specs.Meanings.{program_of}
use Rattle.session_meaning.specs.Server as meant
use Rattle.value_store.specs.Stores.{nodes_in}
use Rattle.session_turns.specs.Versions.{IsVersion}
use Rattle.session_turns.specs.declared.settling.Settled.{Settled}
use Rattle.session_turns.proofs.Rows.{alike_length}
use Rattle.session_turns.proofs.SessionTurns.{below, proved_turn, stale_turn}
use Rattle.session_turns.proofs.Settlements.{SettlesTo}
use Rattle.session_turns.proofs.shared.Shared.end_turn.Goals as goal

pub returns-in-Proved-clause-turned : goal.returns-in-Proved-clause-turned
returns-in-Proved-clause-turned g c slice m s call frames made shares ends told ring =
    let hash = g.H.Hash32.hash in
    let P = program_of c.args.code.now in
    let new = c.settle.new.self in
    let fits = meant.fits_message frames in
    let t = meant.frames_turn hash P fits made c.args.number s call frames m in
    let settled =
    subst (λ (x : Settled). SettlesTo hash P new c.args.number s frames x t) c.in-Proved.is (c.in_ok-version.ensures.settled c.args.number s call frames made m shares ends) in
    let count = alike_length (IsVersion hash P (nodes_in c.args.self.now.store)) c.args.self.now.versions.items m.versions shares.versions in
    let on = ends.on_version in
    let some = c.requires.version in
    let there : s.version < length m.versions = omega (arith, count, on, some) in
    proved_turn hash c.args.code.now slice new c.args.number s frames t (record { version = c.in-Proved.version; ring = c.args.finished.ring; running = None }) c.new.result settled.0 refl
    (λ left e. below hash P c.args.number s call frames m there left fits made e) (c.new.ensures ∙ told) ring settled.1

pub returns-in-Stale-clause-turned : goal.returns-in-Stale-clause-turned
returns-in-Stale-clause-turned g c slice m s call frames made shares ends told ring =
    let hash = g.H.Hash32.hash in
    let P = program_of c.args.code.now in
    let new = c.settle.new.self in
    let t = meant.frames_turn hash P (meant.fits_message frames) made c.args.number s call frames m in
    let settled =
    subst (λ (x : Settled). SettlesTo hash P new c.args.number s frames x t) c.in-Stale.is (c.in_ok-version.ensures.settled c.args.number s call frames made m shares ends) in
    stale_turn hash c.args.code.now slice new c.args.number s frames t c.in-Stale.state settled.0 settled.1
