-- What the code holds of a serving: the numbers, the state with which it begins, and the server before its first connection.
use Rattle.std.specs.Prelude.{◌≡◌, ◌<◌, ℕ, List, Option, length}
use Rattle.sha2.specs.Sha256.{sha256}
use Rattle.code_gen.specs.Programs.{program_in}
use Rattle.core_terms.specs.Programs.{meaning}
use Rattle.core_terms.specs.Values.{Value}
use Rattle.core_terms.specs.declared.program.Program.{Program}
use Rattle.lam_outside.specs.Told.{Contents}
use Rattle.printed_lines.specs.Lines.{listening_line}
use Rattle.serve_core.specs.Serving.{Serves}
use Rattle.serve_core.specs.declared.server.ServeCore.{ServeCore}
use Rattle.serve_links.specs.HistoriesInCode.{HasServed}
use Rattle.session_meaning.specs.Server.{begun_server}
use Rattle.command_parts.specs.Answer.{Serving, ServingNumbers, first_shared, serving_of, with_serving_numbers}
use Rattle.command_parts.specs.FileInputs.{with_image_file}
use Rattle.command_parts.specs.AnswerForms.{Answer}
use Rattle.command_parts.specs.FueledRoles.{DigestedProgram}
use Rattle.command_parts.specs.ReadPrograms.{digested_of}
use Rattle.command_parts.specs.StoredStates.{IsStoredState}
use Rattle.net_commands.specs.declared.serving.Beginning.{Beginning}
use Rattle.net_commands.specs.declared.serving.Numbers.{Numbers}
use Rattle.net_commands.specs.declared.serving.PreparedServer.{PreparedServer}

abbrev pub numbers_of : Numbers → ServingNumbers
numbers_of numbers = record { port = numbers.port; links = numbers.connections; slice = numbers.slice }

abbrev pub numbers_held : PreparedServer → ServingNumbers
numbers_held server = record { port = server.port; links = server.connections; slice = server.core.slice }

-- Goes on with what is served of a program: the numbers from left to right, and then the image are judged.
abbrev pub with_beginning : DigestedProgram → (image port links slice : List ℕ) → Contents → (Serving → Option Answer) → Option Answer
with_beginning p image port links slice files go =
    with_serving_numbers port links slice (λ numbers.
    with_image_file p (files image) (λ v. go (serving_of p numbers (first_shared v))))

-- the serving of the program begins with a state, which is loaded
pub record BeginsWith (p : Program) (beginning : Beginning) (s : Serving) : Type 0 where
  pub state : Value
  pub stands : IsStoredState (meaning p) beginning.state state
  pub is : s ≡ serving_of (digested_of p) (numbers_of beginning.numbers) (first_shared state)

-- The server is that of this serving, before its first connection.
pub record IsPrepared (server : PreparedServer) (s : Serving) : Type 0 where
  pub program : digested_of (program_in server.core.code) ≡ s.program
  pub slice : server.core.slice ≡ s.slice
  pub port : server.port ≡ s.port
  pub links : server.connections ≡ s.links
  pub greeting : server.greeting.items ≡ listening_line s.port
  pub serves : Serves sha256 server.core (begun_server s.begun)
  pub some : 0 < length server.core.shared.versions.items
  pub served : HasServed sha256 server.core

-- the core is one of the program that is served
pub record HoldsProgram {A G : Type 0} (s : Serving) (core : ServeCore A G) : Type 0 where
  pub program : digested_of (program_in core.code) ≡ s.program
