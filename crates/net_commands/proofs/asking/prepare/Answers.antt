use Rattle.std.proofs.Common.{sym, subst}
use Rattle.std.specs.List.{All}
use Rattle.code_gen.specs.declared.code.Code.{Code}
use Rattle.mode_vm.specs.Meanings.{program_of}
use Rattle.session_meaning.specs.Client.{new_client}
use Rattle.session_tables.specs.Tables.{rows_of}
use Rattle.ask_core.specs.Clients.{IsClient}
use Rattle.ask_script.specs.ScriptAnswers.{step_meant}
use Rattle.ask_script.specs.Scripts.{Fits}
use Rattle.net_commands.proofs.asking.prepare.Goals as goal

pub returns-clause-ready : goal.returns-clause-ready
returns-clause-ready c = record {
  stands = subst (λ (code : Code). IsClient (program_of code) c.new.result.closed (rows_of c.new.result.sessions) new_client) (sym c.new.ensures.code) c.new.ensures.client;
  fits = subst (λ (code : Code). All (λ step. Fits (program_of code) (step_meant step)) c.args.inputs.steps.items) (sym c.new.ensures.code) c.requires;
}
