-- A run of `host`, from what was read and what was hosted.
use Rattle.std.proofs.Common.{◌≡◌, ℕ, List, length, Option, None, Err, refl, sym, ◌∙◌, subst}
use Rattle.std.specs.Borrow.{Bor}
use Rattle.std.specs.Option.{ForSome}
use Rattle.command_words.specs.Commands.{texts}
use Rattle.lam_outside.specs.Causes.{Rose}
use Rattle.lam_outside.specs.Told.{Contents}
use Rattle.command_parts.specs.Answer.{Serving}
use Rattle.command_parts.specs.AnswerForms.{Answer}
use Rattle.command_parts.specs.Ending.{EndsAs}
use Rattle.command_parts.specs.Outsides.{Outside}
use Rattle.command_parts.specs.Halting.{HaltsAs}
use Rattle.command_parts.specs.TellingInCode.{Tells}
use Rattle.command_parts.specs.declared.report.Halt.{Halt}
use Rattle.command_parts.specs.declared.status.Status.{Status}
use Rattle.command_parts.specs.declared.status.Status.TheVariants as status
use Rattle.command_parts.proofs.Words.{apart, text_at}
use Rattle.journal_commands.specs.DisksSeen.{DiskSeen, WritesNothing, file_on, if_told, with_disk}
use Rattle.journal_commands.specs.Stops.{WorkCause}
use Rattle.journal_commands.specs.declared.stop.DiskStop.TheVariants.{Halts, WriteFault}
use Rattle.journal_commands.proofs.EndsOnDisk.{fault_ends, halt_ends}
use Rattle.journal_commands.proofs.ToldMoments.{disk_told, files_told}
use Rattle.net_commands.specs.HostReading.{ForBoth, hosting_of}
use Rattle.net_commands.specs.HostSteps.{Hosts}
use Rattle.net_commands.specs.Hosting.{DiskFails, EndsHosting, EndsUnhosted, Goes, HostCourse, IsOfHostWords, MeansHosting, NotKept, with_hosting}
use Rattle.net_commands.specs.OnlineRuns.{NetSeen}
use Rattle.net_commands.specs.PreparedHosts.{IsPreparedHost}
use Rattle.net_commands.specs.PreparedServers.{numbers_held}
use Rattle.net_commands.specs.ToldNumbers.{TellNumbers}
use Rattle.net_commands.specs.declared.hosting.HostWords.{HostWords}
use Rattle.net_commands.specs.declared.hosting.PreparedHost.{PreparedHost}
use Rattle.net_commands.proofs.ServeRuns.{same_numbers}

-- the words of `host`, one by one
abbrev pub words_at : List (Bor (List ℕ)) → HostWords
words_at words = record { program = word 0; journal = word 1; port = word 2; connections = word 3; slice = word 4 }
  where
    word : ℕ → Bor (List ℕ)
    word i = record { ref_ptr = (0, 0); now = text_at words i }

-- where both the files and the disk tell theirs
both_told : (on_disk told : Option Contents) (P : Contents → Type 0) → ForBoth on_disk told P → ForSome (if_told on_disk told) P
both_told on_disk told P both files known = let others = disk_told on_disk told files known in both others.0 others.1 files (files_told on_disk told files known)

module _ (words : List (Bor (List ℕ))) (five : length words ≡ 5) (old new : Outside) (disk disk' : DiskSeen) where
  abbrev name : List ℕ
  name = text_at words 1

  abbrev answer : Contents → Option Answer
  answer files = with_hosting (text_at words 0) (text_at words 2) (text_at words 3) (text_at words 4) (file_on disk name) files (λ s. None)

  on_texts : (ended : Status) → EndsAs answer (with_disk disk old) (with_disk disk' new) ended → WritesNothing name disk disk' → EndsUnhosted (texts words) old new disk disk' ended
  on_texts ended ends writes = subst (λ ts. EndsUnhosted ts old new disk disk' ended) (sym (apart words 5 five)) (ends, writes)

  -- what halted the work was told
  pub halt_unhosted : (T : Type 0) (halt : Halt) (ended : Status) → ForBoth disk.contents old.contents (λ files. HaltsAs (answer files) halt)
      → WorkCause {T = T} old.read_faults new.read_faults disk.read_faults disk'.read_faults disk.write_faults disk'.write_faults (Err (Halts halt)) → new.stores ≡ old.stores
      → new.store_faults ≡ old.store_faults → Tells (Err halt) ended old.written new.written old.write_faults new.write_faults → WritesNothing name disk disk'
      → EndsUnhosted (texts words) old new disk disk' ended
  halt_unhosted T halt ended finds cause stores store_faults told writes =
      on_texts ended
      (halt_ends answer old new disk disk' T halt ended (both_told disk.contents old.contents (λ files. HaltsAs (answer files) halt) finds) cause stores store_faults told) writes

  -- the disk could not be written
  pub fault_unhosted : (T : Type 0)
      → WorkCause {T = T} old.read_faults new.read_faults disk.read_faults disk'.read_faults disk.write_faults disk'.write_faults (Err WriteFault) → new.stores ≡ old.stores
      → new.store_faults ≡ old.store_faults → new.written ≡ old.written → new.write_faults ≡ old.write_faults → WritesNothing name disk disk'
      → EndsUnhosted (texts words) old new disk disk' status.WriteFault
  fault_unhosted T cause stores store_faults written faults writes =
      on_texts status.WriteFault (fault_ends answer old new disk disk' T cause stores store_faults written faults) writes

-- ---- a run that came to listen

fails_since : (course : HostCourse) (first middle behind : DiskSeen) → middle.read_faults ≡ first.read_faults → middle.write_faults ≡ first.write_faults → DiskFails course middle behind
    → DiskFails course first behind
fails_since (Goes course) first middle behind reads writes fails = (fails.0 ∙ reads, fails.1 ∙ writes)
fails_since NotKept first middle behind reads writes fails = (fails.0 ∙ reads, subst (λ n. Rose n behind.write_faults) writes fails.1)

pub hosting_ends : (s : Serving) (name : List ℕ) (old new : Outside) (net net' : NetSeen) (first middle behind : DiskSeen) (ended : Status)
    → Hosts s name net net' first middle behind ended old.written new.written old.write_faults new.write_faults → middle.read_faults ≡ first.read_faults
    → middle.write_faults ≡ first.write_faults → new.stores ≡ old.stores → new.store_faults ≡ old.store_faults → new.read_faults ≡ old.read_faults
    → EndsHosting s name old new net net' first behind ended
hosting_ends s name old new net net' first middle behind ended hosts disk_reads disk_writes stores store_faults reads = record {
  course = hosts.course;
  server = hosts.server;
  kept = hosts.kept;
  gone = hosts.gone;
  all = hosts.all;
  keeps = hosts.keeps;
  fails = fails_since hosts.course first middle behind disk_reads disk_writes hosts.fails;
  told = hosts.is_told;
  stores = stores;
  store_faults = store_faults;
  reads = reads;
}

module _ (words : List (Bor (List ℕ))) (five : length words ≡ 5) where
  -- what the words mean
  pub means_hosting : (on_disk told : Option Contents) (s : Serving)
      → ForBoth on_disk told (λ files. (go : Serving → Option Answer) → hosting_of (words_at words) files on_disk go ≡ go s)
      → ForSome on_disk (λ others. ForSome told (λ files. MeansHosting (texts words) files on_disk s (text_at words 1)))
  means_hosting on_disk told s goes = λ others known files seen.
      subst (λ ts. MeansHosting ts files on_disk s (text_at words 1)) (sym (apart words 5 five)) (refl, goes others known files seen)

  -- and whatever is told
  pub of_host_words : (host : PreparedHost) (s : Serving) (disk disk' : DiskSeen) → IsPreparedHost host s (text_at words 1) disk disk'
      → TellNumbers (text_at words 2) (text_at words 3) (text_at words 4) (numbers_held host.server.value) → IsOfHostWords (texts words) s (text_at words 1)
  of_host_words host s disk disk' prepared told =
      subst (λ ts. IsOfHostWords ts s (text_at words 1)) (sym (apart words 5 five))
      (refl, subst (TellNumbers (text_at words 2) (text_at words 3) (text_at words 4)) (same_numbers host.server.value s prepared.server) told)
