-- What the code holds of what is asked: the client before its link is made.
use Rattle.std.specs.Prelude.{map}
use Rattle.std.specs.List.{All}
use Rattle.code_gen.specs.Programs.{program_in}
use Rattle.core_terms.specs.Programs.{meaning}
use Rattle.core_terms.specs.declared.program.Program.{Program}
use Rattle.mode_vm.specs.Meanings.{program_of}
use Rattle.session_meaning.specs.Client.{new_client}
use Rattle.ask_core.specs.Sessions.{StandsFor}
use Rattle.ask_script.specs.ScriptAnswers.{step_meant}
use Rattle.ask_script.specs.Scripts.{Fits}
use Rattle.command_parts.specs.Answer.{Asking}
use Rattle.command_parts.specs.ReadPrograms.{named_of}
use Rattle.net_commands.specs.declared.asking.AskInputs.{AskInputs}
use Rattle.net_commands.specs.declared.asking.PreparedClient.{PreparedClient}

-- what is asked about a program with these inputs, and what a client is to ask
abbrev pub asked_with : Program → AskInputs → Asking
asked_with p inputs = record { program = named_of p; state = inputs.state.items; port = inputs.port; steps = map step_meant inputs.steps.items }

abbrev pub asked_by : PreparedClient → Asking
asked_by client =
    record { program = named_of (program_in client.core.code); state = client.state.items; port = client.port; steps = map step_meant client.steps.items }

-- each step fits the program
abbrev pub FitProgram : Program → AskInputs → Type 0
FitProgram p inputs = All (λ step. Fits (meaning p) (step_meant step)) inputs.steps.items

-- The client has no sessions yet, and each step fits its program.
pub record IsReady (client : PreparedClient) : Type 0 where
  pub stands : StandsFor client.core new_client
  pub fits : All (λ step. Fits (program_of client.core.code) (step_meant step)) client.steps.items
