use Rattle.std.proofs.Common.{sym, ap, ◌∙◌, option_copied}
use Rattle.code_gen.specs.Programs.{program_in}
use Rattle.core_terms.specs.Programs.{types_of}
use Rattle.mode_vm.specs.Meanings.{program_of}
use Rattle.session_tables.specs.Tables.{rows_of}
use Rattle.ask_core.proofs.SeenSessions.{seen_absent, seen_called}
use Rattle.ask_core.proofs.client.AskCore.called.Goals as goal

pub returns-in-Some : goal.returns-in-Some
returns-in-Some g c m is =
    let core = c.args.self.now in
    seen_called (program_of core.code) (types_of (program_in core.code)) c.args.session (rows_of core.sessions) m.sessions is.sessions c.in-Some.standing.now
    c.called_role.result (sym (ap option_copied (sym c.in-Some.is) ∙ c.find.ensures)) c.called_role.ensures

pub returns-in-None : goal.returns-in-None
returns-in-None g c m is =
    let core = c.args.self.now in
    seen_absent (program_of core.code) (types_of (program_in core.code)) c.args.session (rows_of core.sessions) m.sessions is.sessions
    (sym (ap option_copied (sym c.in-None.is) ∙ c.find.ensures))
