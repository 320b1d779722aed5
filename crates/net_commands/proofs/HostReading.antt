-- The steps that read what is hosted.
use Rattle.std.proofs.Common.{◌≡◌, ◌<◌, ℕ, List, ◌∷◌, length, Option, Some, Result, Ok, Err, refl, ap, sym, ◌∙◌, subst, arith}
use Rattle.std.specs.Option.{ForSome}
use Rattle.sha2.specs.Sha256.{sha256}
use Rattle.code_gen.specs.Programs.{program_in}
use Rattle.code_gen.specs.declared.code.Code.{Code}
use Rattle.core_terms.specs.Values.{Value}
use Rattle.core_terms.specs.declared.program.Program.{Program}
use Rattle.lam_outside.specs.Told.{Contents}
use Rattle.mode_vm.specs.Meanings.{program_of}
use Rattle.printed_lines.specs.Lines.{listening_line}
use Rattle.printed_lines.specs.declared.refusal.Refusal.TheVariants as refusal
use Rattle.serve_core.specs.Serving.{Serves}
use Rattle.session_meaning.specs.Begun.{IsBegun}
use Rattle.session_meaning.specs.Server.{Shared, begun_server}
use Rattle.session_turns.specs.Sharing.{Shares}
use Rattle.session_turns.specs.Versions.{IsVersion}
use Rattle.session_turns.specs.declared.shared.Shared.{Shared as Held}
use Rattle.session_turns.proofs.Rows.{alike_length}
use Rattle.value_store.specs.Stores.{nodes_in}
use Rattle.version_journal.specs.declared.opening.Opened.{Opened}
use Rattle.command_parts.specs.Answer.{Serving, ServingNumbers, serving_of, with_serving_numbers}
use Rattle.command_parts.specs.FileInputs.{with_program_file}
use Rattle.command_parts.specs.AnswerForms.{Answer}
use Rattle.command_parts.specs.FueledRoles.{DigestedProgram, NamedProgram}
use Rattle.command_parts.specs.Halting.{StepGives, HaltsAs, InHand}
use Rattle.command_parts.specs.ReadPrograms.{digested_of, named_of}
use Rattle.command_parts.specs.declared.report.Halt.{Halt}
use Rattle.command_parts.specs.declared.report.Halt.TheVariants.{Usage, Refused, ReadFault, NoMemory}
use Rattle.command_parts.proofs.Steps.{halts_behind}
use Rattle.journal_commands.specs.DisksSeen.{DiskSeen, file_in}
use Rattle.journal_commands.specs.JournalAnswers.{with_journal}
use Rattle.journal_commands.specs.OpenedJournals.{IsOpenedBy, OpensNamed}
use Rattle.journal_commands.specs.Stops.{WorkCause}
use Rattle.journal_commands.specs.declared.stop.DiskStop.{DiskStop}
use Rattle.journal_commands.specs.declared.stop.DiskStop.TheVariants.{Halts, WriteFault}
use Rattle.net_commands.specs.HostReading.{ReadsHost, hosting_of}
use Rattle.net_commands.specs.PreparedHosts.{IsPreparedHost}
use Rattle.net_commands.specs.PreparedServers.{IsPrepared, numbers_of}
use Rattle.net_commands.specs.declared.hosting.HostWords.{HostWords}
use Rattle.net_commands.specs.declared.hosting.PreparedHost.{PreparedHost}
use Rattle.net_commands.specs.declared.serving.Numbers.{Numbers}
use Rattle.net_commands.specs.declared.serving.PreparedServer.{PreparedServer}
use Rattle.net_commands.proofs.ServePrepared.{begun_served}

-- ---- the steps behind the program, and behind the numbers

module _ (words : HostWords) (on_disk : Option Contents) where
  abbrev pub on_journal : DigestedProgram → ServingNumbers → (Serving → Option Answer) → Option Answer
  on_journal p numbers go = with_journal p (file_in on_disk words.journal.now) (λ kept. go (serving_of p numbers kept))

  abbrev pub on_numbers : (Serving → Option Answer) → NamedProgram → Option Answer
  on_numbers go p = with_serving_numbers words.port.now words.connections.now words.slice.now (λ numbers. on_journal p.digested numbers go)

module _ (words : HostWords) (told : Option Contents) (disk disk' : DiskSeen) where
  -- what halted the work on the program's file
  pub program_halts : (halt : Halt) (result : Result PreparedHost DiskStop) → result ≡ Err (Halts halt)
      → ForSome told (λ files. (go : NamedProgram → Option Answer) → HaltsAs (with_program_file (files words.program.now) go) halt) → ReadsHost words told disk disk' result
  program_halts halt result is halts =
      subst (ReadsHost words told disk disk') (sym is) (λ others known files seen go. halts files seen (on_numbers words disk.contents go))

  -- behind a program that was read
  module _ (p : Program) (goes : ForSome told (λ files. (go : NamedProgram → Option Answer) → with_program_file (files words.program.now) go ≡ go (named_of p))) where
    -- what halted the reading of the numbers
    pub numbers_halt : (halt : Halt) (result : Result PreparedHost DiskStop) → result ≡ Err (Halts halt)
        → ((go : ServingNumbers → Option Answer) → HaltsAs (with_serving_numbers words.port.now words.connections.now words.slice.now go) halt) → ReadsHost words told disk disk' result
    numbers_halt halt result is halts =
        subst (ReadsHost words told disk disk') (sym is)
        (λ others known files seen go. halts_behind _ _ halt (goes files seen (on_numbers words disk.contents go)) (halts (λ numbers. on_journal words disk.contents (digested_of p) numbers go)))

    module _ (numbers : ServingNumbers)
        (tells : (go : ServingNumbers → Option Answer) → with_serving_numbers words.port.now words.connections.now words.slice.now go ≡ go numbers) where
      -- what both go on with
      both_go : (files : Contents) → told ≡ Some files → (go : Serving → Option Answer) → hosting_of words files disk.contents go ≡ on_journal words disk.contents (digested_of p) numbers go
      both_go files seen go = goes files seen (on_numbers words disk.contents go) ∙ tells (λ numbers. on_journal words disk.contents (digested_of p) numbers go)

      -- what stopped the opening of the journal
      journal_stops : (stop : DiskStop) → OpensNamed (digested_of p) words.journal.now disk disk' (Err stop) → ReadsHost words told disk disk' (Err stop)
      journal_stops (Halts halt) opens = λ others known files seen go.
          halts_behind _ _ halt (both_go files seen go ∙ ap (λ on_disk. on_journal words on_disk (digested_of p) numbers go) known)
          (opens others known (λ kept. go (serving_of (digested_of p) numbers kept)))
      journal_stops WriteFault opens = tt

      pub journal_halts : (stop : DiskStop) (result : Result PreparedHost DiskStop) → result ≡ Err stop → OpensNamed (digested_of p) words.journal.now disk disk' (Err stop)
          → ReadsHost words told disk disk' result
      journal_halts stop result is opens = subst (ReadsHost words told disk disk') (sym is) (journal_stops stop opens)

      -- what was prepared, by what the journal keeps
      pub host_read : (host : PreparedHost) (opened : Opened) (opens : OpensNamed (digested_of p) words.journal.now disk disk' (Ok opened))
          → IsPreparedHost host (serving_of (digested_of p) numbers opens.0.stands.same) words.journal.now disk disk' → ReadsHost words told disk disk' (Ok host)
      host_read host opened opens prepared = (
        serving_of (digested_of p) numbers opens.0.stands.same,
        prepared,
        λ others known files seen go.
            both_go files seen go ∙ ap (λ on_disk. on_journal words on_disk (digested_of p) numbers go) known ∙ opens.1 others known (λ kept. go (serving_of (digested_of p) numbers kept)),
      )

-- where memory is wanting
pub memory_halts : (words : HostWords) (told : Option Contents) (disk disk' : DiskSeen) (result : Result PreparedHost DiskStop) → result ≡ Err (Halts NoMemory)
    → ReadsHost words told disk disk' result
memory_halts words told disk disk' result is = subst (ReadsHost words told disk disk') (sym is) (λ others known files seen go. tt)

-- ---- which counts rose

-- a step on what is in hand halted the work, behind work that faulted at nothing
pub hand_cause : {A U T : Type 0} (step : (A → Option Answer) → Option Answer) (value : U → A) (files files' reads writes : ℕ) (halt : Halt) (result : Result T DiskStop)
    → result ≡ Err (Halts halt) → files' ≡ files → InHand (StepGives step value) (Err halt) → WorkCause files files' reads reads writes writes result
hand_cause {T = T} step value files files' reads writes halt result is same goes = subst (WorkCause files files' reads reads writes writes) (sym is) (by halt goes)
  where
    by : (halt : Halt) → InHand (StepGives step value) (Err halt) → WorkCause {T = T} files files' reads reads writes writes (Err (Halts halt))
    by Usage goes = absurd goes
    by (Refused (refusal.Program kind line column)) goes = (same, refl, refl)
    by (Refused (refusal.Object kind)) goes = (same, refl, refl)
    by (Refused (refusal.Input fault)) goes = (same, refl, refl)
    by (Refused (refusal.Proof why)) goes = absurd goes
    by ReadFault goes = absurd goes
    by NoMemory goes = (same, refl, refl)

-- ---- before the first connection

-- a server of this code that begins with versions and commits that are shared
pub server_prepared : (code : Code) (numbers : Numbers) (shared : Held) (same : Shared) (first : Value) (made : List Value) (server : PreparedServer) → same.versions ≡ first ∷ made
    → IsBegun (program_of code) same → Shares sha256 (program_of code) shared same → server.core.code ≡ code → server.core.slice ≡ numbers.slice → server.core.shared ≡ shared
    → server.port ≡ numbers.port → server.connections ≡ numbers.connections → server.greeting.items ≡ listening_line numbers.port → Serves sha256 server.core (begun_server same)
    → IsPrepared server (serving_of (digested_of (program_in code)) (numbers_of numbers) same)
server_prepared code numbers shared same first made server versions begun shares is_code slice is_shared port links greeting serves = record {
  program = ap (λ code. digested_of (program_in code)) is_code;
  slice = slice;
  port = port;
  links = links;
  greeting = greeting;
  serves = serves;
  some = some;
  served = begun_served server.core same (subst (λ (code : Code). IsBegun (program_of code) same) (sym is_code) begun) serves;
}
  where
    alike : length server.core.shared.versions.items ≡ length same.versions
    alike = alike_length (IsVersion sha256 (program_of server.core.code) (nodes_in server.core.shared.store)) server.core.shared.versions.items same.versions serves.shares.versions

    some : 0 < length server.core.shared.versions.items
    some = omega (arith, alike, ap length versions)

-- with the journal that keeps these
pub host_prepared : (code : Code) (numbers : Numbers) (name : List ℕ) (disk disk' : DiskSeen) (opened : Opened) (host : PreparedHost)
    (is : IsOpenedBy (digested_of (program_in code)) name disk disk' opened) → host.journal ≡ opened.journal → host.server.value.core.shared ≡ opened.shared
    → IsPrepared host.server.value (serving_of (digested_of (program_in code)) (numbers_of numbers) is.stands.same)
    → IsPreparedHost host (serving_of (digested_of (program_in code)) (numbers_of numbers) is.stands.same) name disk disk'
host_prepared code numbers name disk disk' opened host is journal shared server =
    let stands = is.stands in record {
      server = server;
      begun = stands.begun;
      image = stands.image;
      first = stands.first;
      others = stands.made;
      versions = stands.versions;
      is_image = stands.is_image;
      image_fits = stands.image_fits;
      at = rw journal stands.at;
      alike = rw shared stands.shares.commits;
      told = is.told;
    }
