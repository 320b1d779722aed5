use Rattle.std.proofs.Common.{None, inl, inr, refl}
use Rattle.command_parts.proofs.Words.{text_at}
use Rattle.journal_commands.proofs.CountsOnDisk.{either_apart}
use Rattle.command_words.specs.declared.command.Command.TheVariants.{Host}
use Rattle.net_commands.specs.declared.hosting.PreparedHost.{PreparedHost}
use Rattle.net_commands.proofs.HostCounted.{hosting_counted, hosts_possible}
use Rattle.net_commands.proofs.HostRuns.{fault_unhosted, halt_unhosted, hosting_ends, means_hosting, of_host_words}
use Rattle.net_commands.proofs.host.host_command.Goals as goal

pub host-requires : goal.host-requires
host-requires g c = let is = c.in-Ok.ensures.reads in (record { shared = c.type_bounds.sync-R.shared }, (is.0, text_at c.args.words.now 1, _, is.1))

pub returns-in-Ok-clause-ends : goal.returns-in-Ok-clause-ends
returns-in-Ok-clause-ends g c =
    let words = c.args.words.now in
    let read = c.in-Ok.ensures in
    let is = read.reads in
    let s = is.0 in
    let hosts = c.host.ensures.ends s (text_at words 1) _ is.1 in
    inr (record {
      serving = s;
      name = text_at words 1;
      means = means_hosting words c.requires _ _ s is.2;
      of_words = of_host_words words c.requires c.in-Ok.prepared s _ _ is.1 read.numbers;
      begun = is.1.begun;
      ends = hosting_ends s (text_at words 1) _ _ _ _ _ _ _ c.host.result hosts read.cause.1 read.cause.2 read.stores read.store_faults read.cause.0;
    })

pub returns-in-Ok-clause-counts : goal.returns-in-Ok-clause-counts
returns-in-Ok-clause-counts g c =
    let read = c.in-Ok.ensures in
    let is = read.reads in
    let name = text_at c.args.words.now 1 in
    hosting_counted is.0 name _ _ _ _ _ _ c.host.result
    (hosting_ends is.0 name _ _ _ _ _ _ _ c.host.result (c.host.ensures.ends is.0 name _ is.1) read.cause.1 read.cause.2 read.stores read.store_faults read.cause.0)

pub returns-in-Ok-clause-possible : goal.returns-in-Ok-clause-possible
returns-in-Ok-clause-possible g c =
    let is = c.in-Ok.ensures.reads in
    hosts_possible is.0 (text_at c.args.words.now 1) _ _ _ _ _ c.host.result _ _ _ _ (c.host.ensures.ends is.0 (text_at c.args.words.now 1) _ is.1)

pub returns-in-Err-Halts-clause-ends : goal.returns-in-Err-Halts-clause-ends
returns-in-Err-Halts-clause-ends g c =
    let read = c.in-Err-Halts.ensures in
    let is = c.in-Err-Halts.field-0-is in
    let reads = rw is at read.reads in
    let cause = rw is at read.cause in
    inl (
      halt_unhosted c.args.words.now c.requires _ _ _ _ PreparedHost c.in-Err-Halts.halt c.tell.result (λ others known files seen. reads others known files seen (λ s. None)) cause read.stores
          read.store_faults c.tell.ensures read.writes,
      refl,
    )

pub returns-in-Err-Halts-clause-reached : goal.returns-in-Err-Halts-clause-reached
returns-in-Err-Halts-clause-reached g c = either_apart Host c.args.words.now 5 _ _ _ _ c.requires c.in-Err-Halts.ensures.reached

pub returns-in-Err-WriteFault-clause-ends : goal.returns-in-Err-WriteFault-clause-ends
returns-in-Err-WriteFault-clause-ends g c =
    let read = c.in-Err-WriteFault.ensures in
    let cause = rw c.in-Err-WriteFault.field-0-is at read.cause in
    inl (fault_unhosted c.args.words.now c.requires _ _ _ _ PreparedHost cause read.stores read.store_faults refl refl read.writes, refl)
