-- What a run on the net tells: what was left as it was, the read faults of its files, and the counts where no link was made.
use Rattle.std.proofs.Common.{◌≡◌, ◌⊎◌, inl, inr, ℕ, List, Option, refl}
use Rattle.lam_outside.specs.Links.{Linked, links_so_far}
use Rattle.lam_outside.specs.Moments.{Moment}
use Rattle.lam_outside.specs.Told.{Contents, Names, Stores}
use Rattle.printed_lines.specs.declared.refusal.Refusal.TheVariants as refusal
use Rattle.command_parts.specs.AnswerForms.{Answer}
use Rattle.command_parts.specs.Ending.{EndsAnswered, EndsAs}
use Rattle.command_parts.specs.Outsides.{Outside}
use Rattle.command_parts.specs.Halting.{MayHalt}
use Rattle.command_parts.specs.Reaching.{IsReached}
use Rattle.command_parts.specs.ReachingInCode.{HaltsAtReached}
use Rattle.command_parts.specs.declared.report.Halt.{Halt}
use Rattle.command_parts.specs.declared.report.Halt.TheVariants.{Usage, Refused, ReadFault, NoMemory}
use Rattle.command_parts.specs.declared.status.Status.{Status}
use Rattle.command_parts.specs.declared.status.Status.TheVariants as status
use Rattle.net_commands.specs.NetFaults.{NetFaults}
use Rattle.net_commands.specs.NetCounts.{CountsBy, DialCounts, ListenCounts}

-- ---- what was left

-- the links are those before
pub same_links : (ended ended' : Option (List Linked)) (linked linked' : Option ℕ) (given given' left left' sent sent' : Option (List ℕ)) (reads reads' : Option (List Moment))
    → ended' ≡ ended → linked' ≡ linked → given' ≡ given → left' ≡ left → sent' ≡ sent → reads' ≡ reads
    → links_so_far ended' linked' given' left' sent' reads' ≡ links_so_far ended linked given left sent reads
same_links ended ended' linked linked' given given' left left' sent sent' reads reads' a b c d e f = rw (a, b, c, d, e, f) refl

-- and the counts of the net
abbrev pub counts_as : (links listens accepts dials : ℕ) → NetFaults
counts_as links listens accepts dials = record { links = links; listens = listens; accepts = accepts; dials = dials }

pub same_faults : (links links' listens listens' accepts accepts' dials dials' : ℕ) → links' ≡ links → listens' ≡ listens → accepts' ≡ accepts → dials' ≡ dials
    → counts_as links' listens' accepts' dials' ≡ counts_as links listens accepts dials
same_faults links links' listens listens' accepts accepts' dials dials' a b c d = rw (a, b, c, d) refl

-- and what the files and the sink tell
abbrev seen_as : Option Contents → Option Stores → Option (List ℕ) → (reads store_faults writes : ℕ) → Outside
seen_as contents stores written reads store_faults writes =
    record { contents = contents; stores = stores; written = written; read_faults = reads; store_faults = store_faults; write_faults = writes }

-- the files tell what they told
pub same_seen : (contents contents' : Option Contents) (stores stores' : Option Stores) (written : Option (List ℕ)) (reads reads' store_faults store_faults' writes : ℕ)
    → contents' ≡ contents → stores' ≡ stores → reads' ≡ reads → store_faults' ≡ store_faults
    → seen_as contents' stores' written reads' store_faults' writes ≡ seen_as contents stores written reads store_faults writes
same_seen contents contents' stores stores' written reads reads' store_faults store_faults' writes a b c d = rw (a, b, c, d) refl

-- what halted the reading is a read fault of a file that was reached, or no read failed
pub halted_at : (answer : Contents → Option Answer) (contents : Option Contents) (asked : Option Names) (before now : ℕ) (halt : Halt) → MayHalt before now halt
    → HaltsAtReached answer contents asked halt → (now ≡ before) ⊎ IsReached answer contents asked
halted_at answer contents asked before now Usage cause faults = absurd cause
halted_at answer contents asked before now (Refused (refusal.Program kind line column)) cause faults = inl cause
halted_at answer contents asked before now (Refused (refusal.Object kind)) cause faults = inl cause
halted_at answer contents asked before now (Refused (refusal.Input fault)) cause faults = inl cause
halted_at answer contents asked before now (Refused (refusal.Proof why)) cause faults = absurd cause
halted_at answer contents asked before now ReadFault cause faults = inr faults
halted_at answer contents asked before now NoMemory cause faults = inl cause

-- ---- a run that makes no link

module _ (answer : Contents → Option Answer) (old new : Outside) (net : NetFaults) where
  answered : (ended : Status) → EndsAnswered answer old new ended → (new.read_faults ≡ old.read_faults) × (net ≡ net) × (new.store_faults ≡ old.store_faults) × (new.write_faults ≡ old.write_faults)
  answered ended ends = (ends.reads, refl, ends.stores, ends.writes)

  pub unlinked_by : (ended : Status) → EndsAs answer old new ended → CountsBy old new net net ended
  unlinked_by status.ReadFault ends = (inl ends.rose, ends.stores, ends.writes)
  unlinked_by status.WriteFault (inl fails) = inl fails.rose
  unlinked_by status.WriteFault (inr fails) = inr fails.rose
  unlinked_by status.NoMemory ends = (ends.stores, ends.writes)
  unlinked_by status.Done ends = answered status.Done ends
  unlinked_by status.Usage ends = answered status.Usage ends
  unlinked_by status.Trap ends = answered status.Trap ends
  unlinked_by status.OutOfFuel ends = answered status.OutOfFuel ends
  unlinked_by status.Rejected ends = answered status.Rejected ends
  unlinked_by status.ProgramRefused ends = answered status.ProgramRefused ends
  unlinked_by status.InputRefused ends = answered status.InputRefused ends
  unlinked_by status.Collision ends = answered status.Collision ends

  -- of a command that would dial, and of one that would listen
  pub undialled_counted : (ended : Status) → EndsAs answer old new ended → DialCounts old new net net ended
  undialled_counted ended ends = record { by_status = unlinked_by ended ends; listens = refl; accepts = refl }

  pub unheard_counted : (ended : Status) → EndsAs answer old new ended → ListenCounts old new net net ended
  unheard_counted ended ends = record { by_status = unlinked_by ended ends; dials = refl }
