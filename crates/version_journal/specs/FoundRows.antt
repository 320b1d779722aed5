-- Rows for a journal that was found and keeps commits, and for the counts of a disk.
use Rattle.std.specs.Prelude.{◌≡◌, ◌⊎◌, ◌≤◌, true, List, [], ◌∷◌, ◌++◌, length, Some, Err, refl}
use Rattle.std.proofs.Common.{inl, inr, ℕ, ◌+◌, sym, ap, ◌∙◌, subst, arith, lit≤, length-append}
use Rattle.std.proofs.lemmas.List.{ext_get_or}
use Rattle.lam_outside.specs.Disks.{DiskFile, Moments, settled}
use Rattle.session_meaning.specs.Calls.{RoleCall}
use Rattle.session_turns.specs.Rows.{AreAlike}
use Rattle.session_turns.specs.Sharing.{IsCommit}
use Rattle.session_turns.specs.declared.commit.Commit.{Commit}
use Rattle.version_journal.specs.AtGates.{IsAt}
use Rattle.version_journal.specs.FoundJournals.{FoundJournal, HasKept, KeepsFound, ReadsAsKept}
use Rattle.version_journal.specs.Gates.{AtLast, ForTold, IsKept, LeavesOnly}
use Rattle.version_journal.specs.JournalCauses.{JournalCause}
use Rattle.version_journal.specs.JournalRows.{flip, flip_front, gated, new_journal, own, true_image}
use Rattle.version_journal.specs.Journals.{SpellsJournal, journal_front, journal_head, record_bytes}
use Rattle.version_journal.specs.Keeping.{SpellsFirst}
use Rattle.version_journal.specs.declared.fault.DiskCount.TheVariants.{Reads, Writes}
use Rattle.version_journal.specs.declared.fault.JournalFault.TheVariants.{DiskFault, NoMemory}
use Rattle.version_journal.specs.declared.journal.Journal.{Journal}

-- WHAT A CRASH LEAVES OF A SYNCED FILE
settled_leaves : (P : List ℕ → Type 0) (bytes : List ℕ) → P bytes → LeavesOnly P (settled bytes)
settled_leaves P bytes is left (inl same) = subst P (sym same) is
settled_leaves P bytes is left (inr torn) =
    let same : left ≡ bytes = ext_get_or 0 left bytes (omega (arith, torn.no_shorter, torn.no_longer)) (λ i within. torn.outside i (omega (arith, within, torn.no_longer)) (tt {0})) in
    subst P (sym same) is

-- A JOURNAL THAT KEEPS A FLIP
-- it was found without commits, synced
abbrev pub found : FoundJournal
found = record { own = own; image = true_image; calls = []; moments = Some (settled new_journal ∷ []) }

abbrev pub appended : Moments
appended = settled (gated 1) ∷ settled new_journal ∷ []

pub flip_spelled : SpellsJournal own true_image (flip ∷ []) (gated 1)
flip_spelled = record { gate = 0; tail = []; all = sym flip_front; closed = λ zero_is. absurd (let clash : 0 ≡ 1 = zero_is in cc) }

pub flip_left : LeavesOnly (SpellsFirst own true_image [] (flip ∷ [])) (settled (gated 1))
flip_left = settled_leaves (SpellsFirst own true_image [] (flip ∷ [])) (gated 1) (record { count = 1; within = lit≤ tt; spells = flip_spelled })

pub a_flip_is_kept : (commit : Commit) (journal : Journal) → IsCommit commit flip → IsAt own true_image (flip ∷ []) journal → KeepsFound found journal (Some appended) (commit ∷ [])
a_flip_is_kept commit journal is at = record {
  news = flip ∷ [];
  alike = (is, tt);
  stands = inl (
    at,
    (
      appended,
      refl,
      record {
        each = record { since = settled (gated 1) ∷ []; all = refl; each = (flip_left, tt) };
        last = settled_leaves (SpellsJournal own true_image (flip ∷ [])) (gated 1) flip_spelled;
      },
    ),
  );
}

-- Where the journal broke behind the flip, the next record may be left by a crash; but the file reads as the flip.
pub a_flip_is_read : (commit : Commit) (journal : Journal) → IsCommit commit flip → journal.failed ≡ true → journal.records ≡ 1 → KeepsFound found journal (Some appended) (commit ∷ [])
a_flip_is_read commit journal is broken one = record {
  news = flip ∷ [];
  alike = (is, tt);
  stands = inr (
    broken,
    omega (arith, one),
    (
      appended,
      refl,
      record {
        sound = appended;
        next = flip ∷ [];
        one = lit≤ tt;
        each = record { since = settled (gated 1) ∷ []; all = refl; each = (flip_left, tt) };
        since = record { since = []; all = refl; each = tt };
        last = flip_spelled;
      },
    ),
  );
}

-- A file that reads as no commit keeps none, whether the journal broke or not.
front_longer : (call : RoleCall) → 88 ≤ length (journal_front own true_image (call ∷ []))
unfolding journal_front
front_longer call =
    let head : length (journal_head own true_image) ≡ 87 = refl in
    omega (arith, head, length-append (journal_head own true_image) (1 ∷ (record_bytes call ++ [])))

not_spelled : (call : RoleCall) → SpellsJournal own true_image (call ∷ []) new_journal → ⊥
not_spelled call is =
    let F = journal_front own true_image (call ∷ []) in
    let all : 88 ≡ length F + length (is.gate ∷ is.tail) = ap length is.all ∙ length-append F (is.gate ∷ is.tail) in
    omega (arith, all, front_longer call)

at_last : (P : DiskFile → Type 0) (now : Moments) → Some (settled new_journal ∷ []) ≡ Some now → AtLast P now → P (settled new_journal)
at_last P now is last = let same : settled new_journal ∷ [] ≡ now = cc in subst (AtLast P) (sym same) last

pub no_commit_is_missing : (commit : Commit) (journal : Journal) → KeepsFound found journal (Some (settled new_journal ∷ [])) (commit ∷ []) → ⊥
no_commit_is_missing commit journal keeps = by keeps.news keeps.alike keeps.stands
  where
    by : (news : List RoleCall) → AreAlike IsCommit (commit ∷ []) news
        → (IsAt own true_image news journal × ForTold found.moments (Some (settled new_journal ∷ [])) (HasKept own true_image [] news))
        ⊎ ((journal.failed ≡ true) × (journal.records ≤ length (commit ∷ [])) × ForTold found.moments (Some (settled new_journal ∷ [])) (ReadsAsKept own true_image [] news)) → ⊥
    by (call ∷ []) are (inl stands) =
        let told = stands.1 in
        not_spelled call ((at_last (IsKept (journal_front own true_image (call ∷ []))) told.0 told.1 told.2.last) new_journal (inl refl))
    by (call ∷ []) are (inr stands) = let told = stands.2 in not_spelled call (at_last (λ file. SpellsJournal own true_image (call ∷ []) file.reads) told.0 told.1 told.2.last)
    by [] are stands = elim are [ ]
    by (call ∷ other ∷ others) are stands = elim are.1 [ ]

-- COUNTS
-- the count that rose is named
pub a_read_failed : JournalCause {T = Journal} 0 1 5 5 (Err (DiskFault Reads))
a_read_failed = (lit≤ tt, refl)

pub no_write_failed : JournalCause {T = Journal} 0 1 5 5 (Err (DiskFault Writes)) → ⊥
no_write_failed cause = absurd (let clash : 1 ≡ 0 = cause.1 in cc)

pub no_count_rose : JournalCause {T = Journal} 0 1 5 5 (Err NoMemory) → ⊥
no_count_rose cause = absurd (let clash : 1 ≡ 0 = cause.0 in cc)
