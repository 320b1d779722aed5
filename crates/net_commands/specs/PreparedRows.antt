-- Rows for what stands before a link is made: the words that tell numbers, and what the code holds of what is asked and of a serving. What each word
-- takes, and what it refuses.
use Rattle.std.specs.Prelude.{◌≡◌, ◌<◌, ℕ, codes, length, Some, None, refl}
use Rattle.std.specs.List.{All}
use Rattle.sha2.specs.Sha256.{sha256}
use Rattle.ask_core.specs.Sessions.{StandsFor}
use Rattle.ask_script.specs.ScriptAnswers.{step_meant}
use Rattle.ask_script.specs.Scripts.{Fits}
use Rattle.code_gen.specs.Programs.{program_in}
use Rattle.core_terms.specs.Programs.{meaning}
use Rattle.core_terms.specs.declared.program.Program.{Program}
use Rattle.mode_vm.specs.Meanings.{program_of}
use Rattle.printed_lines.specs.Lines.{listening_line}
use Rattle.serve_core.specs.Serving.{Serves}
use Rattle.serve_core.specs.declared.server.ServeCore.{ServeCore}
use Rattle.serve_links.specs.HistoriesInCode.{HasServed}
use Rattle.session_meaning.specs.Client.{new_client}
use Rattle.session_meaning.specs.Server.{begun_server}
use Rattle.command_parts.specs.Answer.{Serving, first_shared, serving_of}
use Rattle.command_parts.specs.AnswerForms.{Answer}
use Rattle.command_parts.specs.ReadPrograms.{digested_of}
use Rattle.command_parts.specs.StoredStates.{IsStoredState}
use Rattle.net_commands.specs.PreparedClients.{FitProgram, IsReady}
use Rattle.net_commands.specs.ToldNumbers.{TellsPort, TellNumbers}
use Rattle.net_commands.specs.PreparedServers.{BeginsWith, HoldsProgram, IsPrepared, numbers_of}
use Rattle.net_commands.specs.declared.asking.AskInputs.{AskInputs}
use Rattle.net_commands.specs.declared.asking.PreparedClient.{PreparedClient}
use Rattle.net_commands.specs.declared.serving.Beginning.{Beginning}
use Rattle.net_commands.specs.declared.serving.PreparedServer.{PreparedServer}

-- WORDS
some_is_none : (a : Answer) → Some a ≡ None → ⊥
some_is_none a e = cc (e)

pub port_is_told : TellsPort (codes "4711") 4711
port_is_told go = refl

pub no_port_is_told : (port : ℕ) → TellsPort (codes "0") port → ⊥
no_port_is_told port tells = some_is_none _ (tells (λ n. None))

pub numbers_are_told : TellNumbers (codes "4711") (codes "3") (codes "1") (record { port = 4711; links = 3; slice = 1 })
numbers_are_told go = refl

pub no_links_are_told : (port slice : ℕ) → TellNumbers (codes "4711") (codes "0") (codes "1") (record { port = port; links = 0; slice = slice }) → ⊥
no_links_are_told port slice tell = some_is_none _ (tell (λ numbers. None))

-- BEFORE A LINK
-- each step fits the program, and no session is opened yet
pub fit : (p : Program) (inputs : AskInputs) → FitProgram p inputs → All (λ step. Fits (meaning p) (step_meant step)) inputs.steps.items
fit p inputs fits = fits

pub is_ready : (client : PreparedClient) (r : IsReady client) → StandsFor client.core new_client × All (λ step. Fits (program_of client.core.code) (step_meant step)) client.steps.items
is_ready client r = (r.stands, r.fits)

pub begins_with : (p : Program) (beginning : Beginning) (s : Serving) (b : BeginsWith p beginning s) → IsStoredState (meaning p) beginning.state b.state
    × (s ≡ serving_of (digested_of p) (numbers_of beginning.numbers) (first_shared b.state))
begins_with p beginning s b = (b.stands, b.is)

pub is_prepared : (server : PreparedServer) (s : Serving) (i : IsPrepared server s) → (digested_of (program_in server.core.code) ≡ s.program) × (server.core.slice ≡ s.slice)
    × (server.port ≡ s.port) × (server.connections ≡ s.links) × (server.greeting.items ≡ listening_line s.port) × Serves sha256 server.core (begun_server s.begun)
    × (0 < length server.core.shared.versions.items) × HasServed sha256 server.core
is_prepared server s i = (i.program, i.slice, i.port, i.links, i.greeting, i.serves, i.some, i.served)

pub holds_program : {A G : Type 0} (s : Serving) (core : ServeCore A G) (h : HoldsProgram s core) → digested_of (program_in core.code) ≡ s.program
holds_program s core h = h.program
