use Rattle.std.proofs.Common.{None, is_some, refl, ap, ◌∙◌}
use Rattle.std.proofs.lemmas.Result.{IfOk-weaker}
use Rattle.code_gen.specs.Programs.{program_in}
use Rattle.mode_vm.specs.Meanings.{program_of}
use Rattle.session_meaning.specs.Server as meant
use Rattle.session_meaning.proofs.Orderly.{hello_ok}
use Rattle.session_tables.specs.Tables.{rows_of}
use Rattle.session_turns.specs.Sessions.{IsSession}
use Rattle.value_store.specs.Stores.{nodes_in}
use Rattle.serve_core.proofs.Answering.{welcomed}
use Rattle.serve_core.proofs.Steps.{as_denied, copied_some, denied, if_oks, rows_length, some_found, still_serves}
use Rattle.serve_core.proofs.server.ServeCore.hello.Goals as goal

pub returns-in-Err-clause-answered : goal.returns-in-Err-clause-answered
returns-in-Err-clause-answered g c =
    IfOk-weaker c.refused.result _ _ (λ replies told server h.
    let core = c.args.self.now in
    let hash = g.H.Hash32.hash in
    let ending = meant.last_turn core.slice in
    let Is = IsSession hash core.code core.slice (nodes_in core.shared.store) server.shared.versions in
    let rows = rows_of core.sessions in
    let tested = c.in-Err.ensures.tested ending server c.args.number h.shares (c.count.ensures ∙ rows_length Is rows server.sessions h.sessions)
    (c.is_some.ensures ∙ copied_some c.find.result ∙ ap is_some c.find.ensures ∙ some_found Is c.args.number rows server.sessions h.sessions) in
    let now = still_serves hash core server c.greet.new.self c.greet.ensures.rest (c.greet.ensures.shares server.shared h.shares) h in
    denied hash (record core { shared = c.greet.new.self }) _ server c.args.number replies c.in-Err.denial (λ t. meant.hello_step t server c.args.number c.args.kept)
    (meant.hello_test hash (program_of core.code) (program_in core.code).text_digest.0 ending server c.args.number c.args.program.now.0 c.args.kept c.args.state.now)
    (record { shared = refl; code = refl; slice = refl; heard = refl }) refl (λ refusal. refl) now (as_denied c.in-Err.denial _ tested) told)
    c.refused.ensures

pub with_size-requires : goal.with_size-requires
with_size-requires g c =
    let core = c.args.self.now in
    let hash = g.H.Hash32.hash in
    let P = program_of core.code in
    let own = (program_in core.code).text_digest.0 in
    let ending = meant.last_turn core.slice in
    let server = c.requires.serves.0 in
    let h = c.requires.serves.1 in
    let Is = IsSession hash core.code core.slice (nodes_in core.shared.store) server.shared.versions in
    let rows = rows_of core.sessions in
    let passes = c.in-Ok.ensures.tested ending server c.args.number h.shares (c.count.ensures ∙ rows_length Is rows server.sessions h.sessions)
    (c.is_some.ensures ∙ copied_some c.find.result ∙ ap is_some c.find.ensures ∙ some_found Is c.args.number rows server.sessions h.sessions) in
    (hello_ok hash P own ending server c.args.number c.args.program.now.0 c.args.kept c.args.state.now c.in-Ok.version passes).small

pub returns-clause-answered : goal.returns-clause-answered
returns-clause-answered g c =
    if_oks _ _ _ (λ replies told stays server h.
    let core = c.args.self.now in
    let hash = g.H.Hash32.hash in
    let ending = meant.last_turn core.slice in
    let Is = IsSession hash core.code core.slice (nodes_in core.shared.store) server.shared.versions in
    let rows = rows_of core.sessions in
    let passes = c.in-Ok.ensures.tested ending server c.args.number h.shares (c.count.ensures ∙ rows_length Is rows server.sessions h.sessions)
    (c.is_some.ensures ∙ copied_some c.find.result ∙ ap is_some c.find.ensures ∙ some_found Is c.args.number rows server.sessions h.sessions) in
    let now = still_serves hash core server c.greet.new.self c.greet.ensures.rest (c.greet.ensures.shares server.shared h.shares) h in
    welcomed hash (record core { shared = c.greet.new.self }) server now (program_in core.code).text_digest.0 _ c.args.number c.args.kept c.in-Ok.version c.args.program.now.0 c.args.state.now
    (record { version = c.in-Ok.version; ring = c.in_ok-ring.ring; running = None }) replies (record { shared = refl; code = refl; slice = refl; heard = refl })
    passes c.in_ok-put.ensures.ok refl c.in_ok-ring.ensures refl told stays)
    c.one.result c.one.ensures.list c.one.ensures.closing
