use Rattle.std.proofs.Common.{rules, ◌∙◌, ap, arith, drop, inl, refl}
use Rattle.std.proofs.lemmas.List.{places, take_rest}
use Rattle.version_journal.specs.declared.fault.JournalFault.{JournalFault}
use Rattle.version_journal.proofs.KeptCommits.{counts_most, fit_behind, keeps_all, keeps_some, write_stayed}
use Rattle.version_journal.proofs.keeper.JournalKeeperKeeper.keep.Goals as goal

pub slice_bounds-append_all-count : goal.slice_bounds-append_all-count
slice_bounds-append_all-count g c =
    let more = c.requires.more in
    let most = counts_most more.0 c.args.self.now.journal (g.D.Disk.moments c.args.self.now.disk.now) more.1 c.args.commits.now more.2 more.3 in
    omega (arith, most, c.records-kept.ensures)

pub slice_bounds-append_all-start : goal.slice_bounds-append_all-start
slice_bounds-append_all-start g c =
    let more = c.requires.more in
    let most = counts_most more.0 c.args.self.now.journal (g.D.Disk.moments c.args.self.now.disk.now) more.1 c.args.commits.now more.2 more.3 in
    search (rules, most, c.records-kept.ensures)

pub append_all-requires-clause-room : goal.append_all-requires-clause-room
append_all-requires-clause-room g c =
    let more = c.requires.more in
    let most = counts_most more.0 c.args.self.now.journal (g.D.Disk.moments c.args.self.now.disk.now) more.1 c.args.commits.now more.2 more.3 in
    grind (arith, places, most, c.records-kept.ensures, c.requires.fit.few)

pub append_all-requires-clause-fit : goal.append_all-requires-clause-fit
append_all-requires-clause-fit g c = fit_behind c.args.commits.now _ c.records-kept.result c.requires.fit.each (take_rest c.args.commits.now c.records-kept.result)

pub returns-in-Ok-clause-kept : goal.returns-in-Ok-clause-kept
returns-in-Ok-clause-kept g c found before h front =
    let moments = g.D.Disk.moments in
    let commits = c.args.commits.now in
    keeps_all found c.args.self.now.journal c.append_all.new.journal (moments c.args.self.now.disk.now) (moments c.append_all.new.disk) before commits _ h front
    (take_rest commits c.records-kept.result ∙ ap (λ n. drop n commits) c.records-kept.ensures) JournalFault c.in-Ok.field-0 c.in-Ok.ensures.appends c.in-Ok.ensures.at
    (λ broken. let stays = c.in-Ok.ensures.failed broken in (stays.0, ap moments stays.1, λ some. let clash = stays.2 some in absurd (cc (clash))))

pub returns-in-DiskFault-clause-kept : goal.returns-in-DiskFault-clause-kept
returns-in-DiskFault-clause-kept g c found before h front =
    let moments = g.D.Disk.moments in
    let commits = c.args.commits.now in
    keeps_some found c.args.self.now.journal c.append_all.new.journal (moments c.args.self.now.disk.now) (moments c.append_all.new.disk) before commits _ h front
    (take_rest commits c.records-kept.result ∙ ap (λ n. drop n commits) c.records-kept.ensures) c.in-Err.ensures.stops c.append_all.ensures.counts
    (λ broken. let stays = c.in-Err.ensures.failed broken in (stays.0, ap moments stays.1)) c.in-Err.ensures.breaks

pub returns-in_default-clause-kept : goal.returns-in_default-clause-kept
returns-in_default-clause-kept g c found before h front =
    let moments = g.D.Disk.moments in
    let commits = c.args.commits.now in
    keeps_some found c.args.self.now.journal c.append_all.new.journal (moments c.args.self.now.disk.now) (moments c.append_all.new.disk) before commits _ h front
    (take_rest commits c.records-kept.result ∙ ap (λ n. drop n commits) c.records-kept.ensures) c.in-Err.ensures.stops c.append_all.ensures.counts
    (λ broken. let stays = c.in-Err.ensures.failed broken in (stays.0, ap moments stays.1)) c.in-Err.ensures.breaks

pub returns-in_default-clause-cause : goal.returns-in_default-clause-cause
returns-in_default-clause-cause g c =
    let disk = c.args.self.now.disk.now in
    inl (
      write_stayed (Unit {0}) (g.D.Disk.read_faults disk) (g.D.Disk.read_faults c.append_all.new.disk) (g.D.Disk.write_faults disk) (g.D.Disk.write_faults c.append_all.new.disk) c.in-Err.fault
          c.in_default.not-DiskFault c.in-Err.ensures.cause,
      refl,
    )
