-- The counts of a run, by its status, whether it uses the net or a disk.
use Rattle.std.proofs.Common.{◌≡◌, ◌⊎◌, ◌↔◌, ◌<◌, ◌-◌, ◌^◌, Option, refl, inl, inr, sym, ap, subst, arith}
use Rattle.lam_outside.specs.Causes.{Rose}
use Rattle.lam_outside.specs.Told.{Contents}
use Rattle.command_parts.specs.AnswerForms.{Answer}
use Rattle.command_parts.specs.Codes.{code}
use Rattle.command_parts.specs.Ending.{EndsAs}
use Rattle.command_parts.specs.Outsides.{Outside}
use Rattle.command_parts.specs.declared.status.Status.{Status}
use Rattle.command_parts.specs.declared.status.Status.TheVariants as status
use Rattle.journal_commands.specs.DiskCounts.{DiskCountsBy}
use Rattle.journal_commands.specs.DisksSeen.{DiskSeen}
use Rattle.net_commands.specs.HostCounts.{HostCounts}
use Rattle.net_commands.specs.NetFaults.{NetFaults, NetRose}
use Rattle.net_commands.specs.NetCounts.{CountsBy}
use Rattle.auth_cli.proofs.Answered.{no_rise, none_rose}
use Rattle.net_commands.proofs.OnlineRuns.{unlinked_by}

-- the counts of the net stand below their ends
pub record AreBelow (net : NetFaults) : Type 0 where
  pub links : net.links < 2 ^ 64 - 1
  pub listens : net.listens < 2 ^ 64 - 1
  pub accepts : net.accepts < 2 ^ 64 - 1
  pub dials : net.dials < 2 ^ 64 - 1

no_net_rise : (net net' : NetFaults) → AreBelow net → net' ≡ net → NetRose net net' → ⊥
no_net_rise net net' below same rose =
    none_rose net.links net.listens net.accepts net.dials below.links below.listens below.accepts below.dials (subst (NetRose net) same rose)

module _ (old new : Outside) (net net' : NetFaults) (disk disk' : DiskSeen) where
  -- a count of reading files, of the net or of reading the disk rose
  abbrev pub ReadsRose : Type 0
  ReadsRose = Rose old.read_faults new.read_faults ⊎ (NetRose net net' ⊎ Rose disk.read_faults disk'.read_faults)

  -- one of the sink, of `store` or of writing the disk did
  abbrev pub WritesRose : Type 0
  WritesRose = Rose old.write_faults new.write_faults ⊎ (Rose old.store_faults new.store_faults ⊎ Rose disk.write_faults disk'.write_faults)

  -- What the counts say of every run: one of the first rose at `ReadFault`, one of the second at `WriteFault`. None of the second rose at another status,
  -- and none of the first but at these two and at `NoMemory`.
  abbrev pub RunCounts : Status → Type 0
  RunCounts status.ReadFault = ReadsRose × (new.store_faults ≡ old.store_faults) × (new.write_faults ≡ old.write_faults) × (disk'.write_faults ≡ disk.write_faults)
  RunCounts status.WriteFault = WritesRose
  RunCounts status.NoMemory = (new.store_faults ≡ old.store_faults) × (new.write_faults ≡ old.write_faults) × (disk'.write_faults ≡ disk.write_faults)
  RunCounts ended =
      (new.read_faults ≡ old.read_faults) × (net' ≡ net) × (disk'.read_faults ≡ disk.read_faults) × (new.store_faults ≡ old.store_faults)
      × (new.write_faults ≡ old.write_faults) × (disk'.write_faults ≡ disk.write_faults)

  -- ---- from those of each kind of run

  -- one that leaves the disk
  pub of_net : (ended : Status) → CountsBy old new net net' ended → disk' ≡ disk → RunCounts ended
  of_net status.ReadFault counts same = (
    elim counts.0 [
      | inl rose ↦ inl rose
      | inr rose ↦ inr (inl rose)
    ],
    counts.1,
    counts.2,
    ap (λ (d : DiskSeen). d.write_faults) same,
  )
  of_net status.WriteFault (inl rose) same = inl rose
  of_net status.WriteFault (inr rose) same = inr (inl rose)
  of_net status.NoMemory counts same = (counts.0, counts.1, ap (λ (d : DiskSeen). d.write_faults) same)
  of_net ended counts same =
      (counts.0, counts.1, ap (λ (d : DiskSeen). d.read_faults) same, counts.2, counts.3, ap (λ (d : DiskSeen). d.write_faults) same)

  -- one that leaves the net
  pub of_disk : (ended : Status) → DiskCountsBy old new disk disk' ended → net' ≡ net → RunCounts ended
  of_disk status.ReadFault counts same = (
    elim counts.0 [
      | inl rose ↦ inl rose
      | inr rose ↦ inr (inr rose)
    ],
    counts.1,
    counts.2,
    counts.3,
  )
  of_disk status.WriteFault counts same = counts
  of_disk status.NoMemory counts same = counts
  of_disk ended counts same = (counts.0, same, counts.1, counts.2, counts.3, counts.4)

  -- one of `host`
  pub of_host : (ended : Status) → HostCounts old new net net' disk disk' ended → RunCounts ended
  of_host status.ReadFault counts = (counts.by_status.0, counts.stores, counts.by_status.1, counts.by_status.2)
  of_host status.WriteFault counts = elim counts.by_status [
    | inl rose ↦ inl rose
    | inr rose ↦ inr (inr rose)
  ]
  of_host status.NoMemory counts = (counts.stores, counts.by_status.0, counts.by_status.1)
  of_host ended counts =
      (counts.by_status.0, counts.by_status.1, counts.by_status.2, counts.stores, counts.by_status.3, counts.by_status.4)

  -- one that uses neither, by its answer
  pub of_answer : (found : Contents → Option Answer) (ended : Status) → EndsAs found old new ended → net' ≡ net → disk' ≡ disk → RunCounts ended
  of_answer found ended ends same same' =
      of_net ended (subst (λ (n : NetFaults). CountsBy old new net n ended) (sym same) (unlinked_by found old new net ended ends)) same'

  -- ---- what they say

  -- 8 only where one of reading rose
  pub counts_fault : (ended : Status) → RunCounts ended → code ended ≡ 8 → ReadsRose
  counts_fault status.ReadFault counts is = counts.0
  counts_fault ended counts is = absurd (omega arith)

  -- and there, 9 and 10 aside
  module _ (reads : old.read_faults < 2 ^ 64 - 1) (below : AreBelow net) (disk_reads : disk.read_faults < 2 ^ 64 - 1) where
    no_read_rise : {A : Type 0} → new.read_faults ≡ old.read_faults → net' ≡ net → disk'.read_faults ≡ disk.read_faults → ReadsRose → A
    no_read_rise same same' same'' (inl rose) = absurd (no_rise reads same rose)
    no_read_rise same same' same'' (inr (inl rose)) = absurd (no_net_rise net net' below same' rose)
    no_read_rise same same' same'' (inr (inr rose)) = absurd (no_rise disk_reads same'' rose)

    pub counts_rose : (ended : Status) → RunCounts ended → ReadsRose → (code ended ≡ 8) ⊎ ((code ended ≡ 9) ⊎ (code ended ≡ 10))
    counts_rose status.ReadFault counts rose = inl refl
    counts_rose status.WriteFault counts rose = inr (inl refl)
    counts_rose status.NoMemory counts rose = inr (inr refl)
    counts_rose ended counts rose = no_read_rise counts.0 counts.1 counts.2 rose

  -- 9 exactly where one of writing rose
  module _ (writes : old.write_faults < 2 ^ 64 - 1) (stores : old.store_faults < 2 ^ 64 - 1) (disk_writes : disk.write_faults < 2 ^ 64 - 1) where
    no_write_rise : {A : Type 0} → new.store_faults ≡ old.store_faults → new.write_faults ≡ old.write_faults → disk'.write_faults ≡ disk.write_faults → WritesRose → A
    no_write_rise same same' same'' (inl rose) = absurd (no_rise writes same' rose)
    no_write_rise same same' same'' (inr (inl rose)) = absurd (no_rise stores same rose)
    no_write_rise same same' same'' (inr (inr rose)) = absurd (no_rise disk_writes same'' rose)

    pub counts_writes : (ended : Status) → RunCounts ended → (code ended ≡ 9) ↔ WritesRose
    counts_writes status.WriteFault counts = ((λ is. counts), (λ rose. refl))
    counts_writes status.ReadFault counts = ((λ is. absurd (omega arith)), (λ rose. no_write_rise counts.1 counts.2 counts.3 rose))
    counts_writes status.NoMemory counts = ((λ is. absurd (omega arith)), (λ rose. no_write_rise counts.0 counts.1 counts.2 rose))
    counts_writes ended counts = ((λ is. absurd (omega arith)), (λ rose. no_write_rise counts.3 counts.4 counts.5 rose))
