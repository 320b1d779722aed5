use Rattle.std.proofs.Common.{ℕ, length, ap, sym, subst}
use Rattle.version_journal.specs.FoundJournals.{KeepsFound}
use Rattle.journal_commands.specs.DisksSeen.{disk_seen}
use Rattle.net_commands.specs.HostSteps.{IsHostEndTold}
use Rattle.net_commands.specs.PreparedServers.{IsPrepared}
use Rattle.net_commands.specs.declared.serving.PreparedServer.{PreparedServer}
use Rattle.net_commands.proofs.HostCourses.{hosts_on, hosts_unserved}
use Rattle.net_commands.proofs.HostJournals.{first_image, found_of, keeps_found, moments_found}
use Rattle.net_commands.proofs.host.host.Goals as goal

pub listen_and_serve-requires-clause-kept : goal.listen_and_serve-requires-clause-kept
listen_and_serve-requires-clause-kept g c =
    let s = c.requires.0 in
    let name = c.requires.1 in
    let first = c.requires.2 in
    let is = c.requires.3 in λ κs lives. (
      found_of s is.image (moments_found is.told.0 (g.D.Disk.moments c.args.disk.now)),
      rw (c.deref_mut.ensures.value) (keeps_found s name is.image first (disk_seen g.D.Disk.contents g.D.Disk.moments g.D.Disk.read_faults g.D.Disk.write_faults c.args.disk.now) is.told.0 is.told.2 c.args.prepared.journal _ is.at is.alike),
    )

pub returns-in-Ok : goal.returns-in-Ok
returns-in-Ok g c = record {
  ends = λ s name first is.
      let served = c.in-Ok.ensures in
      let on = disk_seen g.D.Disk.contents g.D.Disk.moments g.D.Disk.read_faults g.D.Disk.write_faults in
      let middle = on c.args.disk.now in
      let place = found_of s is.image (moments_found is.told.0 middle.moments) in
      let lent = sym c.deref_mut.ensures.value in
      let keeps = subst (λ (server : PreparedServer). KeepsFound place c.args.prepared.journal middle.moments server.core.shared.commits.items) lent
      (keeps_found s name is.image first middle is.told.0 is.told.2 c.args.prepared.journal _ is.at is.alike) in
      let server = subst (λ (server : PreparedServer). IsPrepared server s) lent is.server in
      let back = c.disk-1.given.1 (sym (ap (λ (r : ℕ × ℕ). r.0) served.keeper_rest)) in
      rw back
      (hosts_on s name is.image (first_image s is.image is.first is.others is.versions is.image_fits is.is_image) first middle (on c.listen_and_serve.new.keeper.disk.now) is.told
      c.listen_and_serve.new.keeper.journal (ap (λ (r : ℕ × ℕ). r.1) served.keeper_rest) _ _ c.listen_and_serve.new.server.core _ _ _ _ c.tell_host_end.result _ _ c.in-Ok.end
      c.listen_and_serve.new.keeper.faulted (served.course s place server keeps) (served.kept place keeps) served.keeper
      (subst (λ (server : PreparedServer). IsHostEndTold c.listen_and_serve.new.keeper.faulted (length server.core.shared.versions.items) (length server.core.shared.commits.items) c.in-Ok.end
      c.tell_host_end.result (g.O.Sink.written c.listen_and_serve.new.out) (g.O.Sink.written c.tell_host_end.new.out) (g.O.Sink.faults c.listen_and_serve.new.out) (g.O.Sink.faults c.tell_host_end.new.out)) c.deref.ensures c.tell_host_end.ensures.told));
}

pub returns : goal.returns
returns g c = record {
  ends = λ s name first is.
      let served = c.in-Err.ensures in
      let on = disk_seen g.D.Disk.contents g.D.Disk.moments g.D.Disk.read_faults g.D.Disk.write_faults in
      let middle = on c.args.disk.now in
      let place = found_of s is.image (moments_found is.told.0 middle.moments) in
      let lent = sym c.deref_mut.ensures.value in
      let keeps = subst (λ (server : PreparedServer). KeepsFound place c.args.prepared.journal middle.moments server.core.shared.commits.items) lent
      (keeps_found s name is.image first middle is.told.0 is.told.2 c.args.prepared.journal _ is.at is.alike) in
      let server = subst (λ (server : PreparedServer). IsPrepared server s) lent is.server in
      let back = c.in-Err.disk-in-Err-1-own.given.1 (sym (ap (λ (r : ℕ × ℕ). r.0) served.keeper_rest)) in
      rw back
      (hosts_unserved s name is.image (first_image s is.image is.first is.others is.versions is.image_fits is.is_image) first middle (on c.listen_and_serve.new.keeper.disk.now) is.told
      c.listen_and_serve.new.keeper.journal (ap (λ (r : ℕ × ℕ). r.1) served.keeper_rest) _ _ c.listen_and_serve.new.server.core _ _ _ _ c.in-Err.status
      c.listen_and_serve.new.keeper.faulted (served.course s place server keeps) (served.kept place keeps) served.keeper);
}
