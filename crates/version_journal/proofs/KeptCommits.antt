-- What a journal that was found keeps behind more commits, for `keep`.
use Rattle.std.specs.List.{All}
use Rattle.std.specs.Prelude.{slice_index_or, Option, Some, None, IfSome, Ok, Err}
use Rattle.std.proofs.Common.{inl, inr, ⊎_elim, ◌≡◌, ◌≤◌, ◌<◌, ◌+◌, ℕ, zero, suc, true, List, [], ◌∷◌, ◌++◌, length, take, drop, get_or, refl, sym, ◌∙◌, ap, subst, arith, lit≤, append_assoc, length-append, take-append-drop}
use Rattle.std.proofs.lemmas.List.{append-nil, drop_at, length-take, nil_from_length, places, take_more, take-append-le}
use Rattle.core_terms.specs.Values.{DigestV}
use Rattle.lam_outside.specs.Disks.{Moments}
use Rattle.session_meaning.specs.Calls.{RoleCall}
use Rattle.session_turns.specs.Keepers.{FitsRecord}
use Rattle.session_meaning.specs.Beginnings.{IsFront}
use Rattle.session_turns.specs.Rows.{AreAlike}
use Rattle.session_turns.specs.Sharing.{IsCommit}
use Rattle.session_turns.specs.declared.commit.Commit.{Commit}
use Rattle.session_turns.proofs.Rows.{alike_length, alike_more}
use Rattle.version_journal.specs.AtGates.{IsAt}
use Rattle.version_journal.specs.FoundJournals.{FoundJournal, HasKept, KeepsFound, ReadsAsKept}
use Rattle.version_journal.specs.JournalCauses.{JournalCause}
use Rattle.version_journal.specs.declared.fault.DiskCount.{DiskCount}
use Rattle.version_journal.specs.declared.fault.JournalFault.{JournalFault}
use Rattle.version_journal.specs.declared.fault.JournalFault.TheVariants.{NotEmpty, Magic, Cut, OtherProgram, Image, BadRecord, DiskFault, Failed, NoMemory}
use Rattle.version_journal.specs.Gates.{AtLast, ForTold, IsKept, LeavesOnly, Passed}
use Rattle.version_journal.specs.Journals.{SpellsJournal, journal_front}
use Rattle.version_journal.specs.Keeping.{AppendsAll, SpellsFirst, StopsAt}
use Rattle.version_journal.specs.declared.journal.Journal.{Journal}
use Rattle.version_journal.proofs.Kept.{first_more, no_call, passed_more, passed_weaker}

-- COMMITS
-- Each commit is some call: one with this spelling.
abbrev pub as_call : Commit → RoleCall
as_call commit = record { role = commit.role.0; argument = DigestV commit.argument; fuel = commit.fuel }

abbrev pub as_calls : List Commit → List RoleCall
as_calls [] = []
as_calls (commit ∷ commits) = as_call commit ∷ as_calls commits

pub are_calls : (commits : List Commit) → AreAlike IsCommit commits (as_calls commits)
are_calls [] = tt
are_calls (commit ∷ commits) = (record { role = refl; argument = refl; fuel = refl }, are_calls commits)

alike_take : (n : ℕ) (commits : List Commit) (calls : List RoleCall) → AreAlike IsCommit commits calls → AreAlike IsCommit (take n commits) (take n calls)
alike_take zero commits calls are = tt
alike_take (suc n) [] [] are = tt
alike_take (suc n) (commit ∷ commits) (call ∷ calls) are = (are.0, alike_take n commits calls are.1)
alike_take (suc n) commits calls are = elim are [ ]

module _ (own image : List ℕ) (calls news more : List RoleCall) where
  -- the first of the new calls are the first of these and of those behind them
  spells_before : (left : List ℕ) → SpellsFirst own image calls news left → SpellsFirst own image calls (news ++ more) left
  spells_before left is = record {
    count = is.count;
    within = omega (arith, is.within, length-append news more);
    spells = subst (λ (cs : List RoleCall). SpellsJournal own image (calls ++ cs) left) (sym (take-append-le is.count news more is.within)) is.spells;
  }

  spells_behind : (left : List ℕ) → SpellsFirst own image (calls ++ news) more left → SpellsFirst own image calls (news ++ more) left
  spells_behind left is = record {
    count = length news + is.count;
    within = omega (arith, is.within, length-append news more);
    spells = subst (λ (cs : List RoleCall). SpellsJournal own image cs left)
        (append_assoc calls news (take is.count more) ∙ ap (λ (cs : List RoleCall). calls ++ cs) (sym (take_behind news more is.count))) is.spells;
  }
    where
      take_behind : (news more : List RoleCall) (n : ℕ) → take (length news + n) (news ++ more) ≡ news ++ take n more
      take_behind [] more n = let none : 0 + n ≡ n = omega arith in ap (λ k. take k more) none
      take_behind (call ∷ news) more n =
          let one : suc (length news) + n ≡ suc (length news + n) = omega arith in
          ap (λ k. take k (call ∷ (news ++ more))) one ∙ ap (λ (cs : List RoleCall). call ∷ cs) (take_behind news more n)

  each_before : (old now : Moments) → Passed (LeavesOnly (SpellsFirst own image calls news)) old now → Passed (LeavesOnly (SpellsFirst own image calls (news ++ more))) old now
  each_before old now = passed_weaker _ _ (λ f leaves left may. spells_before left (leaves left may)) old now

  each_behind : (old now : Moments) → Passed (LeavesOnly (SpellsFirst own image (calls ++ news) more)) old now → Passed (LeavesOnly (SpellsFirst own image calls (news ++ more))) old now
  each_behind old now = passed_weaker _ _ (λ f leaves left may. spells_behind left (leaves left may)) old now

-- ONE MORE KEEPING
module _ (own image : List ℕ) (calls news more : List RoleCall) where
  -- what a call tells of the moments that are told
  told_on : (Q : Moments → Moments → Type 0) (R : Moments → Moments → Type 0) (was m new : Option Moments) → ForTold was m (HasKept own image calls news)
      → (IfSome m (AtLast (IsKept (journal_front own image (calls ++ news)))) → ForTold m new Q)
      → ((old now then : Moments) → HasKept own image calls news old now → Q now then → R old then) → ForTold was new R
  told_on Q R None m new has tells f = tt
  told_on Q R (Some []) m new has tells f = tt
  told_on Q R (Some (file ∷ past)) m new has tells f =
      on has.0 has.2 (subst (λ m. IfSome m (AtLast (IsKept (journal_front own image (calls ++ news)))) → ForTold m new Q) has.1 tells)
    where
      on : (now : Moments) → HasKept own image calls news (file ∷ past) now → (IfSome (Some now) (AtLast (IsKept (journal_front own image (calls ++ news)))) → ForTold (Some now) new Q)
          → (x : Moments) × (new ≡ Some x) × R (file ∷ past) x
      on [] h tells = absurd h.last
      on (g ∷ gs) h tells = let t = tells h.last in (t.0, t.1, f (file ∷ past) (g ∷ gs) t.0 h t.2)

  -- all were appended
  kept_on : {T E : Type 0} (done : T) (old now then : Moments) → HasKept own image calls news old now
      → AppendsAll {T = T} {E = E} own image (calls ++ news) more now then (Ok done) → HasKept own image calls (news ++ more) old then
  kept_on done old now then has appends = record {
    each = passed_more _ old now then (each_before own image calls news more old now has.each) (each_behind own image calls news more now then appends.each);
    last = subst (λ (cs : List RoleCall). AtLast (IsKept (journal_front own image cs)) then) (append_assoc calls news more) appends.done;
  }

  -- an append failed: so many of them are kept
  abbrev pub IsBroken : (records : ℕ) → Option Moments → Option Moments → Type 0
  IsBroken records was new = (k : ℕ) × (k ≤ length more) × (records ≤ length (calls ++ news) + k) × ForTold was new (ReadsAsKept own image calls (news ++ take k more))

  stopped_before : (old now then : Moments) (records : ℕ) → HasKept own image calls news old now → (s : StopsAt own image (calls ++ news) more records now then)
      → AtLast (λ file. SpellsJournal own image ((calls ++ news) ++ take s.number more) file.reads) then → ReadsAsKept own image calls (news ++ take s.number more) old then
  stopped_before old now then records has s reads =
      let first = take s.number more in
      let next = get_or more s.number no_call ∷ [] in
      record {
        sound = s.mid;
        next = next;
        one = omega arith;
        each = passed_more _ old now s.mid (each_before own image calls news first old now has.each) (each_behind own image calls news first now s.mid s.before);
        since = subst (λ (cs : List RoleCall). Passed (LeavesOnly (SpellsFirst own image calls cs)) s.mid then)
            (ap (λ (cs : List RoleCall). news ++ cs) (take_more more s.number no_call s.within) ∙ sym (append_assoc news first next))
            (each_behind own image calls news (take (s.number + 1) more) s.mid then s.since);
        last = subst (λ (cs : List RoleCall). AtLast (λ file. SpellsJournal own image cs file.reads) then) (append_assoc calls news first) reads;
      }

  stopped_with : (old now then : Moments) (records : ℕ) → HasKept own image calls news old now → (s : StopsAt own image (calls ++ news) more records now then)
      → AtLast (λ file. SpellsJournal own image ((calls ++ news) ++ take (s.number + 1) more) file.reads) then → ReadsAsKept own image calls (news ++ take (s.number + 1) more) old then
  stopped_with old now then records has s reads =
      let first = take (s.number + 1) more in
      let one_more : s.number ≤ s.number + 1 = omega arith in
      let earlier = passed_weaker _ _ (λ f leaves left may. first_more own image (calls ++ news) more s.number (s.number + 1) one_more left (leaves left may)) now s.mid s.before in
      record {
        sound = s.mid;
        next = [];
        one = lit≤ tt;
        each = passed_more _ old now s.mid (each_before own image calls news first old now has.each) (each_behind own image calls news first now s.mid earlier);
        since = subst (λ (cs : List RoleCall). Passed (LeavesOnly (SpellsFirst own image calls cs)) s.mid then) (sym (append-nil (news ++ first)))
            (each_behind own image calls news first s.mid then s.since);
        last = subst (λ (cs : List RoleCall). AtLast (λ file. SpellsJournal own image cs file.reads) then) (append_assoc calls news first) reads;
      }

  broken_on : (records : ℕ) → records ≤ length (calls ++ news) + length more → (was m new : Option Moments) → ForTold was m (HasKept own image calls news)
      → (IfSome m (AtLast (IsKept (journal_front own image (calls ++ news)))) → ForTold m new (StopsAt own image (calls ++ news) more records)) → IsBroken records was new
  broken_on records few None m new has stops = (length more, omega arith, few, tt)
  broken_on records few (Some []) m new has stops = (length more, omega arith, few, tt)
  broken_on records few (Some (file ∷ past)) m new has stops =
      on has.0 has.2 (subst (λ m. IfSome m (AtLast (IsKept (journal_front own image (calls ++ news)))) → ForTold m new (StopsAt own image (calls ++ news) more records)) has.1 stops)
    where
      on : (now : Moments) → HasKept own image calls news (file ∷ past) now
          → (IfSome (Some now) (AtLast (IsKept (journal_front own image (calls ++ news)))) → ForTold (Some now) new (StopsAt own image (calls ++ news) more records))
          → IsBroken records (Some (file ∷ past)) new
      on [] h stops = absurd h.last
      on (g ∷ gs) h stops =
          let t = stops h.last in
          let s = t.2 in
          ⊎_elim
          (λ is. (s.number, omega (arith, s.within), omega (arith, s.counted), (t.0, t.1, stopped_before (file ∷ past) (g ∷ gs) t.0 records h s is)))
          (λ is. (s.number + 1, omega (arith, s.within), omega (arith, s.counted), (t.0, t.1, stopped_with (file ∷ past) (g ∷ gs) t.0 records h s is)))
          s.reads

-- KEEP
-- the journal counts no more records than these commits
pub counts_most : (found : FoundJournal) (journal : Journal) (m : Option Moments) (before commits : List Commit) → KeepsFound found journal m before → IsFront before commits
    → journal.records ≤ length commits
counts_most found journal m before commits h front = omega (arith, ⊎_elim stands broken h.stands, ap length front.1, length-append before front.0)
  where
    stands : IsAt found.own found.image (found.calls ++ h.news) journal × ForTold found.moments m (HasKept found.own found.image found.calls h.news) → journal.records ≤ length before
    stands s = omega (arith, s.0.records, alike_length IsCommit before (found.calls ++ h.news) h.alike)

    broken : (journal.failed ≡ true) × (journal.records ≤ length before) × ForTold found.moments m (ReadsAsKept found.own found.image found.calls h.news) → journal.records ≤ length before
    broken b = b.1

-- each of those behind the first ones fits
pub fit_behind : (commits rest : List Commit) (n : ℕ) → All FitsRecord commits → rest ≡ drop n commits → All FitsRecord rest
fit_behind commits rest n fit is k d within =
    let there : n + k < length commits = grind (arith, places, within, is) in
    let same : slice_index_or rest k d ≡ slice_index_or commits (n + k) d = grind (arith, places, within, is) in
    subst FitsRecord (sym same) (fit (n + k) d there)

-- where the fault isn't one of the disk, no write failed
pub write_stayed : (T : Type 0) (reads reads' writes writes' : ℕ) (fault : JournalFault) → ((count : DiskCount) → fault ≡ DiskFault count → ⊥)
    → JournalCause {T = T} reads reads' writes writes' (Err fault) → writes' ≡ writes
write_stayed T reads reads' writes writes' (DiskFault count) other cause = absurd (other count refl)
write_stayed T reads reads' writes writes' NotEmpty other cause = cause.1
write_stayed T reads reads' writes writes' Magic other cause = cause.1
write_stayed T reads reads' writes writes' (Cut n) other cause = cause.1
write_stayed T reads reads' writes writes' OtherProgram other cause = cause.1
write_stayed T reads reads' writes writes' (Image f) other cause = cause.1
write_stayed T reads reads' writes writes' (BadRecord n) other cause = cause.1
write_stayed T reads reads' writes writes' Failed other cause = cause.1
write_stayed T reads reads' writes writes' NoMemory other cause = cause.1

module _ (found : FoundJournal) (journal new : Journal) (m m' : Option Moments) (before commits rest : List Commit) (h : KeepsFound found journal m before)
    (front : IsFront before commits) (is : rest ≡ drop journal.records commits) where
  abbrev Stands : Type 0
  Stands =
      IsAt found.own found.image (found.calls ++ h.news) journal × ForTold found.moments m (HasKept found.own found.image found.calls h.news)

  abbrev IsBrokenAlready : Type 0
  IsBrokenAlready =
      (journal.failed ≡ true) × (journal.records ≤ length before) × ForTold found.moments m (ReadsAsKept found.own found.image found.calls h.news)

  -- nothing changed, and there was nothing more
  same_kept : new ≡ journal → m' ≡ m → (kept : List Commit) → kept ≡ before → KeepsFound found new m' kept
  same_kept journals moments kept same =
      subst (λ (j : Journal). KeepsFound found j m' kept) (sym journals) (subst (λ m. KeepsFound found journal m kept) (sym moments) (subst (KeepsFound found journal m) (sym same) h))

  -- where it stands, the rest is what is behind those
  more_is : Stands → rest ≡ front.0
  more_is s =
      is ∙ ap (drop journal.records) front.1
      ∙ drop_at before front.0 journal.records (alike_length IsCommit before (found.calls ++ h.news) h.alike ∙ sym s.0.records)

  alike_rest : Stands → AreAlike IsCommit rest (as_calls front.0)
  alike_rest s = subst (λ cs. AreAlike IsCommit cs (as_calls front.0)) (sym (more_is s)) (are_calls front.0)

  pub keeps_all : (E : Type 0) (done : Unit {0})
      → ((own image : List ℕ) (calls news : List RoleCall) → IsAt own image calls journal → AreAlike IsCommit rest news → IfSome m (AtLast (IsKept (journal_front own image calls)))
      → ForTold m m' (λ o n. AppendsAll {T = Unit {0}} {E = E} own image calls news o n (Ok done)))
      → ((own image : List ℕ) (calls news : List RoleCall) → IsAt own image calls journal → AreAlike IsCommit rest news → IsAt own image (calls ++ news) new)
      → (journal.failed ≡ true → (new ≡ journal) × (m' ≡ m) × (0 < length rest → ⊥))
      → KeepsFound found new m' commits
  keeps_all E done appends at same = ⊎_elim stands broken h.stands
    where
      stands : Stands → KeepsFound found new m' commits
      stands s =
          let calls = found.calls ++ h.news in
          let more = as_calls front.0 in
          record {
            news = h.news ++ more;
            alike = subst (λ cs. AreAlike IsCommit cs (found.calls ++ (h.news ++ more))) (sym front.1)
                (subst (AreAlike IsCommit (before ++ front.0)) (append_assoc found.calls h.news more) (alike_more IsCommit before front.0 calls more h.alike (are_calls front.0)));
            stands = inl (
              subst (λ (cs : List RoleCall). IsAt found.own found.image cs new) (append_assoc found.calls h.news more) (at found.own found.image calls more s.0 (alike_rest s)),
              told_on found.own found.image found.calls h.news more _ _ found.moments m m' s.1 (appends found.own found.image calls more s.0 (alike_rest s))
                  (kept_on found.own found.image found.calls h.news more {E = E} done),
            );
          }

      broken : IsBrokenAlready → KeepsFound found new m' commits
      broken b =
          let s = same b.0 in
          let none : length front.0 ≡ 0 = grind (arith, places, b.1, s.2, is, front.1) in
          same_kept s.0 s.1 commits (front.1 ∙ ap (λ cs. before ++ cs) (nil_from_length front.0 none) ∙ append-nil before)

  pub keeps_some :
      ((own image : List ℕ) (calls news : List RoleCall) → IsAt own image calls journal → AreAlike IsCommit rest news → IfSome m (AtLast (IsKept (journal_front own image calls)))
      → ForTold m m' (StopsAt own image calls news new.records))
      → new.records ≤ journal.records + length rest → (journal.failed ≡ true → (new ≡ journal) × (m' ≡ m)) → new.failed ≡ true
      → (kept : List Commit) × IsFront before kept × IsFront kept commits × KeepsFound found new m' kept
  keeps_some stops counts same breaks = ⊎_elim stands broken h.stands
    where
      stands : Stands → (kept : List Commit) × IsFront before kept × IsFront kept commits × KeepsFound found new m' kept
      stands s =
          let calls = found.calls ++ h.news in
          let more = as_calls front.0 in
          let many = alike_length IsCommit front.0 more (are_calls front.0) in
          let already = alike_length IsCommit before calls h.alike in
          let b =
          broken_on found.own found.image found.calls h.news more new.records (omega (arith, counts, ap length (more_is s), many, s.0.records)) found.moments m m' s.1
          (stops found.own found.image calls more s.0 (alike_rest s)) in
          let first = take b.0 front.0 in
          let size = length-take b.0 front.0 in (
            before ++ first,
            (first, refl),
            (drop b.0 front.0, front.1 ∙ ap (λ cs. before ++ cs) (sym (take-append-drop b.0 front.0)) ∙ sym (append_assoc before first (drop b.0 front.0))),
            record {
              news = h.news ++ take b.0 more;
              alike = subst (AreAlike IsCommit (before ++ first)) (append_assoc found.calls h.news (take b.0 more))
                  (alike_more IsCommit before first calls (take b.0 more) h.alike (alike_take b.0 front.0 more (are_calls front.0)));
              stands = inr (breaks, omega (arith, b.2, b.1, many, already, size, length-append before first), b.3);
            },
          )

      broken : IsBrokenAlready → (kept : List Commit) × IsFront before kept × IsFront kept commits × KeepsFound found new m' kept
      broken b = let s = same b.0 in (before, ([], sym (append-nil before)), front, same_kept s.0 s.1 before refl)
