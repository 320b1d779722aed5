use Rattle.std.proofs.Common.{refl, sym, ◌∙◌, subst, arith}
use Rattle.mode_vm.specs.Meanings.{program_of}
use Rattle.session_meaning.specs.Server as meant
use Rattle.session_tables.specs.Tables.{rows_of}
use Rattle.session_turns.specs.Sessions.{IsSession}
use Rattle.session_turns.specs.Versions.{IsVersion}
use Rattle.session_turns.proofs.Rows.{alike_length}
use Rattle.value_store.specs.Stores.{nodes_in}
use Rattle.serve_core.proofs.Calls.{begins}
use Rattle.serve_core.proofs.Answering.{one_put}
use Rattle.serve_core.proofs.Steps.{both_found, none_there, not_none, ok_then}
use Rattle.serve_core.proofs.server.ServeCore.start.Goals as goal

pub unreachable-requires : goal.unreachable-requires
unreachable-requires g c =
    let core = c.args.self.now in
    let server = c.requires.serves.0 in
    not_none (IsSession g.H.Hash32.hash core.code core.slice (nodes_in core.shared.store) server.shared.versions) c.args.number (rows_of core.sessions) server.sessions
    c.requires.serves.1 c.requires.serves.3.sessions (sym c.take.ensures.found ∙ none_there c.take.result c.in_default.not-Some) c.requires.serves.4

pub version-state-requires : goal.version-state-requires
version-state-requires g c =
    let core = c.args.self.now in
    let hash = g.H.Hash32.hash in
    let server = c.requires.serves.0 in
    let h = c.requires.serves.3 in
    let is = both_found (IsSession hash core.code core.slice (nodes_in core.shared.store) server.shared.versions) c.args.number (rows_of core.sessions) server.sessions
    c.in-Some.session c.requires.serves.1 h.sessions (sym c.take.ensures.found ∙ c.in-Some.is) c.requires.serves.4 in
    let count = alike_length (IsVersion hash (program_of core.code) (nodes_in core.shared.store)) core.shared.versions.items server.shared.versions h.shares.versions in
    let at = is.at_version in
    let there = is.there in
    omega (arith, count, at, there)

pub returns-clause-started : goal.returns-clause-started
returns-clause-started g c =
    ok_then _ _ (λ done put server s call h found holds is.
    let core = c.args.self.now in
    let hash = g.H.Hash32.hash in
    let nodes = nodes_in core.shared.store in
    let old = c.in-Some.session in
    let was = both_found (IsSession hash core.code core.slice nodes server.shared.versions) c.args.number (rows_of core.sessions) server.sessions old s h.sessions
    (sym c.take.ensures.found ∙ c.in-Some.is) found in
    let stands = subst (λ n. IsVersion hash (program_of core.code) nodes c.version-state.result (meant.version_at server.shared.versions n)) was.at_version
    (c.version-state.ensures hash (program_of core.code) server.shared h.shares) in
    let runs = c.in_ok-run.ensures.starts nodes call.role (meant.version_at server.shared.versions s.version) call.argument holds stands in
    one_put hash core server h _ c.args.number _ (meant.with_run s call 0) (record { shared = refl; code = refl; slice = refl; heard = refl })
    (put ∙ c.take.ensures.behind _) (begins hash core.code core.slice nodes server.shared.versions old (record { run = c.in_ok-run.run'; call = c.args.call })
    s call was runs c.in_ok-run.ensures.goes_on is))
    c.put.result c.put.ensures.ok
