use Rattle.std.proofs.Common.{sym, ap, ◌∙◌, option_copied}
use Rattle.mode_vm.specs.Meanings.{program_of}
use Rattle.session_tables.specs.Tables.{rows_of}
use Rattle.ask_core.specs.Turns.{state_in}
use Rattle.ask_core.proofs.Seeing.{state_seen}
use Rattle.ask_core.proofs.client.AskCore.state.Goals as goal

pub returns-in-Some : goal.returns-in-Some
returns-in-Some g c m is =
    let core = c.args.self.now in
    c.state.ensures ∙ ap state_in (ap option_copied (sym c.in-Some.is) ∙ c.find.ensures)
    ∙ state_seen (program_of core.code) core.closed (rows_of core.sessions) m is c.args.session

pub returns-in-None : goal.returns-in-None
returns-in-None g c m is =
    let core = c.args.self.now in
    ap state_in (ap option_copied (sym c.in-None.is) ∙ c.find.ensures)
    ∙ state_seen (program_of core.code) core.closed (rows_of core.sessions) m is c.args.session
