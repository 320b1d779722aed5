use Rattle.std.proofs.Common.{sym, subst, ◌∙◌}
use Rattle.mode_vm.specs.Meanings.{program_of}
use Rattle.session_tables.specs.Related.{AreRows}
use Rattle.ask_core.specs.Clients.{Stands}
use Rattle.ask_core.proofs.SeenSessions.{some_waits_same}
use Rattle.ask_core.proofs.client.AskCore.any_waits.Goals as goal

pub returns : goal.returns
returns g c m is =
    let P = program_of c.args.self.now.code in
    c.any_waits.ensures ∙ some_waits_same P c.entries.result.now m.sessions (subst (λ rows. AreRows (Stands P) rows m.sessions) (sym c.entries.ensures.rows) is.sessions)
