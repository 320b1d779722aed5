use Rattle.std.proofs.Common.{sym, ap, ◌∙◌, option_copied}
use Rattle.code_gen.specs.Programs.{program_in}
use Rattle.mode_vm.specs.Meanings.{program_of}
use Rattle.session_meaning.specs.Server as meant
use Rattle.session_tables.specs.Tables.{rows_of}
use Rattle.session_turns.specs.Sessions.{IsSession}
use Rattle.value_store.specs.Stores.{nodes_in}
use Rattle.serve_core.proofs.Calls.{admitted, call_runs, no_session, runs_alike}
use Rattle.serve_core.proofs.Steps.{is_none, none_also, none_there, some_also}
use Rattle.serve_core.proofs.server.ServeCore.admit.Goals as goal
use Rattle.core_terms.proofs.ByteLists.{are_bytes}

pub returns-in_default : goal.returns-in_default
returns-in_default g c server h =
    let core = c.args.self.now in
    let hash = g.H.Hash32.hash in
    let found = sym c.find.ensures ∙ ap option_copied (none_there c.find.result c.in_default.not-Some) in
    no_session hash (program_of core.code) (program_in core.code).text_digest.0 (meant.last_turn core.slice) server c.args.number c.args.role c.args.fuel c.args.argument.now
    (none_also (IsSession hash core.code core.slice (nodes_in core.shared.store) server.shared.versions) c.args.number (rows_of core.sessions) server.sessions h.sessions found)

pub returns-then-is_some : goal.returns-then-is_some
returns-then-is_some g c server h =
    let core = c.args.self.now in
    let hash = g.H.Hash32.hash in
    let nodes = nodes_in core.shared.store in
    let found = sym c.find.ensures ∙ ap option_copied c.in-Some.is in
    let s = some_also (IsSession hash core.code core.slice nodes server.shared.versions) c.args.number (rows_of core.sessions) server.sessions c.in-Some.session.now h.sessions found in
    call_runs hash (program_of core.code) (program_in core.code).text_digest.0 (meant.last_turn core.slice) server c.args.number c.args.role c.args.fuel c.args.argument.now
    s.0 s.1 (sym (runs_alike hash core.code core.slice nodes _ c.in-Some.session.now.running s.0.running s.2.runs) ∙ sym c.is_some.ensures ∙ c.if-is_some.true)

pub returns : goal.returns
returns g c server h =
    let core = c.args.self.now in
    let hash = g.H.Hash32.hash in
    let P = program_of core.code in
    let own = (program_in core.code).text_digest.0 in
    let ending = meant.last_turn core.slice in
    let nodes = nodes_in core.shared.store in
    let found = sym c.find.ensures ∙ ap option_copied c.in-Some.is in
    let s = some_also (IsSession hash core.code core.slice nodes server.shared.versions) c.args.number (rows_of core.sessions) server.sessions c.in-Some.session.now h.sessions found in
    let idle = is_none s.0.running (sym (runs_alike hash core.code core.slice nodes _ c.in-Some.session.now.running s.0.running s.2.runs) ∙ sym c.is_some.ensures ∙ c.if-is_some.false) in
    admitted hash P own ending nodes server c.args.number c.args.role c.args.fuel c.args.argument.now s.0 c.grant.result s.1
    (are_bytes c.args.argument.now (λ i. (c.type_inv.argument i).fits)) (c.grant.ensures own ending s.0 server.shared h.shares idle)

pub grant-requires-clause-limit : goal.grant-requires-clause-limit
grant-requires-clause-limit g c κs within = c.requires.serves.1.shares.limit
