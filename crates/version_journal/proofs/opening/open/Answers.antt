use Rattle.std.proofs.Common.{ℕ, List, Ok, Err, subst}
use Rattle.code_gen.specs.Programs.{program_in}
use Rattle.mode_vm.specs.Meanings.{program_of}
use Rattle.version_journal.specs.Journals.{journal_of}
use Rattle.version_journal.specs.Openings.{Opens, TellsJournal}
use Rattle.version_journal.proofs.OpenedFiles.{no_fault_of_bytes, opened_so, refused_so, stands_so, synced_so, unsynced_so}
use Rattle.version_journal.specs.declared.fault.DiskCount.TheVariants.{Reads}
use Rattle.version_journal.specs.declared.fault.JournalFault.TheVariants.{DiskFault, NoMemory}
use Rattle.version_journal.proofs.opening.open.Goals as goal

pub returns-in_err-opening-clause-opens : goal.returns-in_err-opening-clause-opens
returns-in_err-opening-clause-opens g c =
    let P = program_of c.args.code.now in
    let own = (program_in c.args.code.now).text_digest.0 in
    let fault = c.in_err-opening.field-0.0 in
    let told = subst (λ (bytes : List ℕ). TellsJournal (journal_of P own bytes) fault) c.deref.ensures.value c.in_err-opening.ensures.opens in
    refused_so g.H.Hash32.hash P own _ (g.D.Disk.moments c.args.disk.now) (g.D.Disk.moments c.sync.new.self) (g.D.Disk.moments c.read_whole.new.disk) _ c.in_ok-sync.ensures.synced
    c.read_whole.ensures.moments c.in-Ok.bytes.items c.in-Ok.ensures.bytes _ fault told c.from_residual-in_err-opening.ensures.1

pub returns-clause-opens : goal.returns-clause-opens
returns-clause-opens g c =
    let hash = g.H.Hash32.hash in
    let P = program_of c.args.code.now in
    let own = (program_in c.args.code.now).text_digest.0 in
    let opens = subst (λ (bytes : List ℕ). Opens hash P own bytes c.in_ok-opening.opening) c.deref.ensures.value c.in_ok-opening.ensures.opens in
    opened_so hash P own _ (g.D.Disk.moments c.args.disk.now) (g.D.Disk.moments c.sync.new.self) (g.D.Disk.moments c.read_whole.new.disk) _ c.in_ok-sync.ensures.synced
    c.read_whole.ensures.moments c.in-Ok.bytes.items c.in-Ok.ensures.bytes (Ok c.standing.result) c.in_ok-opening.opening opens c.in_ok-opening.ensures.few c.standing.ensures.shared c.standing.ensures.gate c.standing.ensures.records

pub returns-clause-stands : goal.returns-clause-stands
returns-clause-stands g c =
    let hash = g.H.Hash32.hash in
    let P = program_of c.args.code.now in
    let own = (program_in c.args.code.now).text_digest.0 in
    stands_so hash P own c.deref.result.now c.in_ok-opening.opening c.in_ok-opening.ensures.opens c.standing.result c.standing.ensures.shared c.standing.ensures.gate c.standing.ensures.records
    c.in_ok-opening.ensures.few

pub returns-in_err-sync-clause-synced : goal.returns-in_err-sync-clause-synced
returns-in_err-sync-clause-synced g c =
    unsynced_so _ (g.D.Disk.moments c.args.disk.now) (g.D.Disk.moments c.sync.new.self) _ c.in_err-sync.ensures.synced _ c.from_residual.ensures.1

pub returns-in-Err-DiskFault-clause-synced : goal.returns-in-Err-DiskFault-clause-synced
returns-in-Err-DiskFault-clause-synced g c =
    synced_so _ (g.D.Disk.moments c.args.disk.now) (g.D.Disk.moments c.sync.new.self) (g.D.Disk.moments c.read_whole.new.disk) _ c.in_ok-sync.ensures.synced c.read_whole.ensures.moments
    (Err (DiskFault Reads)) (λ is. absurd (cc))

pub returns-in-Err-NoMemory-clause-synced : goal.returns-in-Err-NoMemory-clause-synced
returns-in-Err-NoMemory-clause-synced g c =
    synced_so _ (g.D.Disk.moments c.args.disk.now) (g.D.Disk.moments c.sync.new.self) (g.D.Disk.moments c.read_whole.new.disk) _ c.in_ok-sync.ensures.synced c.read_whole.ensures.moments
    (Err NoMemory) (λ is. absurd (cc))

pub returns-in_err-opening-clause-synced : goal.returns-in_err-opening-clause-synced
returns-in_err-opening-clause-synced g c =
    let P = program_of c.args.code.now in
    let own = (program_in c.args.code.now).text_digest.0 in
    synced_so _ (g.D.Disk.moments c.args.disk.now) (g.D.Disk.moments c.sync.new.self) (g.D.Disk.moments c.read_whole.new.disk) _ c.in_ok-sync.ensures.synced c.read_whole.ensures.moments
    c.from_residual-in_err-opening.result
    (no_fault_of_bytes (journal_of P own c.deref.result.now) c.in_err-opening.field-0.0 c.in_err-opening.ensures.opens c.from_residual-in_err-opening.result c.from_residual-in_err-opening.ensures.1)

pub returns-clause-synced : goal.returns-clause-synced
returns-clause-synced g c =
    synced_so _ (g.D.Disk.moments c.args.disk.now) (g.D.Disk.moments c.sync.new.self) (g.D.Disk.moments c.read_whole.new.disk) _ c.in_ok-sync.ensures.synced c.read_whole.ensures.moments
    (Ok c.standing.result) (λ is. absurd (cc))
