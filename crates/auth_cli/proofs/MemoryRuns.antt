-- A run of words for which memory was wanting: whatever they call, it ended as one may.
use Rattle.std.proofs.Common.{◌≡◌, ◌≢◌, ◌+◌, ℕ, Bool, true, false, List, [], ◌∷◌, length, map, find, Option, Some, None, Err, if◌then◌else◌, nat_le, ◌&&◌, refl, inl, inr, sym, ap, subst, ◌∙◌, arith, leb-true}
use Rattle.std.specs.Borrow.{Bor}
use Rattle.std.specs.Option.{option_and_then}
use Rattle.std.proofs.lemmas.List.{length-map}
use Rattle.command_words.specs.Commands.{AreCounted, IsOfCommand, IsOfOneOf, Row, Text, commands, row_named, texts}
use Rattle.command_words.specs.Invocations.{Invocation, are_counted, called, invocation_behind, invocation_of, is_refused}
use Rattle.command_words.specs.declared.command.Command.{Command}
use Rattle.command_words.specs.declared.command.Command.TheVariants.{Ask, Draw, Found, Host, Mirror, Replay, Serve}
use Rattle.std.specs.Str.{bytes_eq}
use Rattle.ideal_meaning.specs.Examples.{unit_program}
use Rattle.lam_outside.specs.Causes.{Rose}
use Rattle.lam_outside.specs.Told.{Contents}
use Rattle.command_parts.specs.Answer.{Founding, answer_with}
use Rattle.command_parts.specs.AnswerForms.{Answer}
use Rattle.command_parts.specs.RefusedAnswers.{usage_answer}
use Rattle.command_parts.specs.Ending.{EndsAs}
use Rattle.command_parts.specs.EndingInCode.{IsOfRefused}
use Rattle.command_parts.specs.Outsides.{Outside}
use Rattle.command_parts.specs.TellingInCode.{Tells}
use Rattle.command_parts.specs.declared.report.Halt.TheVariants.{NoMemory}
use Rattle.command_parts.specs.declared.status.Status.{Status}
use Rattle.command_parts.specs.declared.status.Status.TheVariants as status
use Rattle.command_parts.proofs.Ends.{ends_as}
use Rattle.command_parts.proofs.Words.{counted, least_of, most_of}
use Rattle.journal_commands.specs.DiskCounts.{DiskCountsBy}
use Rattle.journal_commands.specs.DisksSeen.{DiskSeen, with_disk}
use Rattle.journal_commands.specs.Founding.{EndsFounding, LeavesDisk}
use Rattle.journal_commands.specs.Replaying.{EndsReplaying}
use Rattle.net_commands.specs.HostCounts.{HostCountsBy}
use Rattle.net_commands.specs.Hosting.{EndsUnhosted}
use Rattle.auth_cli.specs.RunsInCode.{EndsCommand, EndsRun}
use Rattle.net_commands.specs.OnlineRuns.{NetSeen}
use Rattle.net_commands.specs.NetCounts.{CountsBy}
use Rattle.auth_cli.proofs.Called.{memory_told}

-- ---- how many texts stand behind a command

both : (a b : Bool) → (a && b) ≡ true → (a ≡ true) × (b ≡ true)
both true true e = (refl, refl)
both true false e = absurd (cc)
both false b e = absurd (cc)

-- texts that are as many as a row of the table takes are so many for its command
among : (p : Row → Bool) (row : Row) (ts : List Text) → AreCounted row ts → (rows : List Row) → find p rows ≡ Some row → IsOfOneOf row.command ts rows
among p row ts so_many [] e = absurd (cc)
among p row ts so_many (r ∷ rows) e = go (p r) e (among p row ts so_many rows)
  where
    go : (b : Bool) → (if b then Some r else find p rows) ≡ Some row → (find p rows ≡ Some row → IsOfOneOf row.command ts rows) → IsOfOneOf row.command ts (r ∷ rows)
    go true here later = let same : r ≡ row = cc in inl (ap (λ (r : Row). r.command) same, subst (λ (r : Row). AreCounted r ts) (sym same) so_many)
    go false here later = inr (later here)

in_table : (name : Text) (row : Row) (ts : List Text) → row_named name ≡ Some row → AreCounted row ts → IsOfCommand row.command ts
unfolding row_named
in_table name row ts is so_many = among (λ r. bytes_eq r.name name) row ts so_many commands is

-- words that call a command have as many texts as it takes
texts_called : (words : List Text) (i : Invocation) → invocation_of words ≡ Some i → IsOfCommand i.command i.texts
texts_called words i is = by words (is_refused words) is
  where
    by_row : (name : Text) (row : Row) (ts : List Text) → row_named name ≡ Some row → (b : Bool) → are_counted ts row ≡ b
        → (if b then Some (record { command = row.command; texts = ts }) else None) ≡ Some i → IsOfCommand i.command i.texts
    by_row name row ts named true so_many is =
        let parts = both (nat_le row.least (length ts)) (nat_le (length ts) (length row.arguments)) so_many in
        let same : record { command = row.command; texts = ts } ≡ i = cc in
        subst (λ (i : Invocation). IsOfCommand i.command i.texts) same
        (in_table name row ts named (leb-true row.least (length ts) parts.0, leb-true (length ts) (length row.arguments) parts.1))
    by_row name row ts named false so_many is = absurd (cc)

    by_name : (name : Text) (ts : List Text) (found : Option Row) → row_named name ≡ found → option_and_then (called ts) found ≡ Some i → IsOfCommand i.command i.texts
    by_name name ts None named is = absurd (cc)
    by_name name ts (Some row) named is = by_row name row ts named (are_counted ts row) refl is

    by : (words : List Text) (refused : Bool) → (if refused then None else invocation_behind words) ≡ Some i → IsOfCommand i.command i.texts
    by words true is = absurd (cc)
    by [] false is = absurd (cc)
    by (program ∷ []) false is = absurd (cc)
    by (program ∷ name ∷ ts) false is = by_name name ts (row_named name) refl is

abbrev as_word : Text → Bor Text
as_word text = record { ref_ptr = (0, 0); now = text }

same_texts : (ts : List Text) → texts (map as_word ts) ≡ ts
same_texts [] = refl
same_texts (t ∷ ts) = ap (λ (ts : List Text). t ∷ ts) (same_texts ts)

so_many : (command : Command) (ts : List Text) → most_of command ≡ least_of command → IsOfCommand command ts → length ts ≡ least_of command
so_many command ts same of =
    sym (length-map ts as_word) ∙ counted command (map as_word ts) same (subst (IsOfCommand command) (sym (same_texts ts)) of)

-- ---- how it ended

-- memory was wanting, or the sink failed at telling it
abbrev Lacks : Status → (before now : ℕ) → Type 0
Lacks status.NoMemory before now = now ≡ before
Lacks status.WriteFault before now = Rose before now
Lacks ended before now = ⊥

lacks : (ended : Status) (old new : Option (List ℕ)) (before now : ℕ) → Tells (Err NoMemory) ended old new before now → Lacks ended before now
lacks ended old new before now (inl (inl told)) = subst (λ (s : Status). Lacks s before now) (sym told.0) told.2
lacks ended old new before now (inl (inr told)) = subst (λ (s : Status). Lacks s before now) (sym told.0) told.2
lacks ended old new before now (inr (inl told)) = subst (λ (s : Status). Lacks s before now) (sym told.0) told.2
lacks ended old new before now (inr (inr told)) = subst (λ (s : Status). Lacks s before now) (sym told.0) told.2

-- nothing was done
not_done : (ended : Status) → IsOfRefused ended → ended ≢ status.Done
not_done status.Done is e = is
not_done status.Usage is e = cc (e)
not_done status.WriteFault is e = cc (e)
not_done status.NoMemory is e = cc (e)
not_done ended is e = is

-- some journal, of which nothing is said
abbrev some_founding : Founding
some_founding = record { program = record { program = unit_program; digest = [] }; image = [] }

left_disk : (name : List ℕ) (disk : DiskSeen) (ended : Status) → IsOfRefused ended → LeavesDisk some_founding name disk disk ended
left_disk name disk status.Usage is = inl refl
left_disk name disk status.WriteFault is = inl refl
left_disk name disk status.NoMemory is = inl refl
left_disk name disk ended is = absurd is

-- the files and the sink are those behind the line that tells it
pub record LacksMemory (old new : Outside) (ended : Status) : Type 0 where
  pub reads : new.read_faults ≡ old.read_faults
  pub stored : new.stores ≡ old.stores
  pub stores : new.store_faults ≡ old.store_faults
  pub told : Tells (Err NoMemory) ended old.written new.written old.write_faults new.write_faults

module _ (old new : Outside) (net : NetSeen) (disk : DiskSeen) (ended : Status) (wants : LacksMemory old new ended) where
  ends : (answer : Contents → Option Answer) → EndsAs answer old new ended
  ends answer = ends_as answer old new (Err NoMemory) ended (λ files known. tt) wants.reads wants.stored wants.stores wants.told

  ends_on_disk : (answer : Contents → Option Answer) → EndsAs answer (with_disk disk old) (with_disk disk new) ended
  ends_on_disk answer =
      ends_as answer (with_disk disk old) (with_disk disk new) (Err NoMemory) ended (λ files known. tt) (ap (λ (n : ℕ). n + disk.read_faults) wants.reads)
      wants.stored (ap (λ (n : ℕ). n + disk.write_faults) wants.stores) wants.told

  refused : IsOfRefused ended
  refused = memory_told ended _ _ _ _ wants.told

  -- what the counts say
  net_counts : CountsBy old new net.faults net.faults ended
  net_counts = by ended (lacks ended _ _ _ _ wants.told)
    where
      by : (ended : Status) → Lacks ended old.write_faults new.write_faults → CountsBy old new net.faults net.faults ended
      by status.NoMemory lacks = (wants.stores, lacks)
      by status.WriteFault lacks = inl lacks
      by ended lacks = absurd lacks

  disk_counts : DiskCountsBy old new disk disk ended
  disk_counts = by ended (lacks ended _ _ _ _ wants.told)
    where
      by : (ended : Status) → Lacks ended old.write_faults new.write_faults → DiskCountsBy old new disk disk ended
      by status.NoMemory lacks = (wants.stores, lacks, refl)
      by status.WriteFault lacks = inl lacks
      by ended lacks = absurd lacks

  host_counts : HostCountsBy old new net.faults net.faults disk disk ended
  host_counts = by ended (lacks ended _ _ _ _ wants.told)
    where
      by : (ended : Status) → Lacks ended old.write_faults new.write_faults → HostCountsBy old new net.faults net.faults disk disk ended
      by status.NoMemory lacks = (lacks, refl)
      by status.WriteFault lacks = inl lacks
      by ended lacks = absurd lacks

  -- the ends on a disk
  founds : (ts : List (List ℕ)) → length ts ≡ 3 → EndsFounding ts old new disk disk ended
  founds (program ∷ image ∷ name ∷ []) three =
      (ends_on_disk _, (some_founding, (λ done. absurd (not_done ended refused done)), left_disk name disk ended refused))
  founds [] three = absurd (omega (arith, three))
  founds (a ∷ []) three = absurd (omega (arith, three))
  founds (a ∷ b ∷ []) three = absurd (omega (arith, three))
  founds (a ∷ b ∷ c ∷ d ∷ ts) three = absurd (omega (arith, three))

  replays : (ts : List (List ℕ)) → length ts ≡ 3 → EndsReplaying ts old new disk disk ended
  replays (program ∷ journal ∷ out ∷ []) three = (ends_on_disk _, inl refl)
  replays [] three = absurd (omega (arith, three))
  replays (a ∷ []) three = absurd (omega (arith, three))
  replays (a ∷ b ∷ []) three = absurd (omega (arith, three))
  replays (a ∷ b ∷ c ∷ d ∷ ts) three = absurd (omega (arith, three))

  unhosted : (ts : List (List ℕ)) → length ts ≡ 5 → EndsUnhosted ts old new disk disk ended
  unhosted (program ∷ journal ∷ port ∷ links ∷ slice ∷ []) five = (ends_on_disk _, inl refl)
  unhosted [] five = absurd (omega (arith, five))
  unhosted (a ∷ []) five = absurd (omega (arith, five))
  unhosted (a ∷ b ∷ []) five = absurd (omega (arith, five))
  unhosted (a ∷ b ∷ c ∷ []) five = absurd (omega (arith, five))
  unhosted (a ∷ b ∷ c ∷ d ∷ []) five = absurd (omega (arith, five))
  unhosted (a ∷ b ∷ c ∷ d ∷ e ∷ f ∷ ts) five = absurd (omega (arith, five))

  command_memory : (command : Command) (ts : List (List ℕ)) → IsOfCommand command ts → EndsCommand command ts old new net net disk disk ended
  command_memory Serve ts of = (inl (ends (answer_with Serve ts), refl), record { by_status = net_counts; dials = refl }, refl)
  command_memory Ask ts of = (inl (ends (answer_with Ask ts), refl), record { by_status = net_counts; listens = refl; accepts = refl }, refl)
  command_memory Mirror ts of = (inl (ends (answer_with Mirror ts), refl), record { by_status = net_counts; dials = refl }, refl)
  command_memory Draw ts of = (inl (ends (answer_with Draw ts), refl), record { by_status = net_counts; listens = refl; accepts = refl }, refl)
  command_memory Host ts of = (inl (unhosted ts (so_many Host ts refl of), refl), record { by_status = host_counts; stores = wants.stores; dials = refl })
  command_memory Found ts of = (founds ts (so_many Found ts refl of), disk_counts, refl)
  command_memory Replay ts of = (replays ts (so_many Replay ts refl of), disk_counts, refl)
  command_memory command ts of = (ends (answer_with command ts), refl, refl)

  pub run_memory : (words : List (List ℕ)) → EndsRun (invocation_of words) old new net net disk disk ended
  run_memory words = by (invocation_of words) (λ called is. texts_called words called is)
    where
      by : (found : Option Invocation) → ((called : Invocation) → found ≡ Some called → IsOfCommand called.command called.texts) → EndsRun found old new net net disk disk ended
      by None of = (ends (λ files. Some usage_answer), refl, refl)
      by (Some called) of = command_memory called.command called.texts (of called refl)
