-- What a journal keeps of the commits of a server, by what its keeper tells in the end.
use Rattle.std.specs.Prelude.{Some, None}
use Rattle.std.specs.List.{AllByRecursion}
use Rattle.std.specs.Int.{w16, w32, w64, to_be_bytes}
use Rattle.std.proofs.Common.{◌≡◌, ◌⊎◌, ◌≤◌, ◌<◌, ◌^◌, ◌+◌, ℕ, zero, suc, Bool, true, false, nat_lt, List, [], ◌∷◌, ◌++◌, length, map, take, Option, inl, inr, refl, sym, ap, ◌∙◌, subst, arith, append_assoc, append-nil, length-append, ltb-true, ltb-false}
use Rattle.std.proofs.lemmas.List.{take-append-le, take_all, take_at}
use Rattle.core_terms.specs.Spelling.{spelling}
use Rattle.core_terms.specs.Values.{Value}
use Rattle.images.specs.Images.{Root, image_of}
use Rattle.lam_outside.specs.Disks.{DiskFile, Moments, settled}
use Rattle.session_meaning.specs.Calls.{RoleCall}
use Rattle.session_meaning.specs.Server.{Server, version_at}
use Rattle.session_meaning.specs.Beginnings.{IsFront}
use Rattle.session_turns.specs.Rows.{AreAlike}
use Rattle.session_turns.specs.Sharing.{IsCommit}
use Rattle.session_turns.specs.declared.commit.Commit.{Commit}
use Rattle.session_turns.proofs.Rows.{alike_length}
use Rattle.version_journal.specs.FoundJournals.{FoundJournal, HasKept, KeepsFound, ReadsAsKept}
use Rattle.version_journal.specs.Gates.{AtLast, ForTold, IsClosedBehind, IsKept, LeavesOnly, Passed, opened}
use Rattle.version_journal.specs.Journals.{SpellsJournal, journal_front, journal_head, record_bytes}
use Rattle.version_journal.specs.Keeping.{SpellsFirst}
use Rattle.version_journal.specs.AtGates.{IsAt}
use Rattle.version_journal.specs.Synced.{IsSynced}
use Rattle.version_journal.specs.declared.journal.Journal.{Journal}
use Rattle.command_parts.specs.Answer.{Serving}
use Rattle.journal_commands.specs.DisksSeen.{DiskSeen, FromChosen}
use Rattle.journal_commands.specs.OpenedJournals.{KeepsNow}
use Rattle.net_commands.specs.Hosting.{IsFirstImage, KeepsFirst, KeepsJournal, LeavesFirst, LeavesMore}

-- ---- moments

all_more : (Q : DiskFile → Type 0) (xs ys : Moments) → AllByRecursion Q xs → AllByRecursion Q ys → AllByRecursion Q (xs ++ ys)
all_more Q [] ys h j = j
all_more Q (x ∷ xs) ys h j = (h.0, all_more Q xs ys h.1 j)

all_weaker : (P Q : DiskFile → Type 0) → ((f : DiskFile) → P f → Q f) → (fs : Moments) → AllByRecursion P fs → AllByRecursion Q fs
all_weaker P Q weaker [] all = tt
all_weaker P Q weaker (f ∷ fs) all = (weaker f all.0, all_weaker P Q weaker fs all.1)

passed_more : (P : DiskFile → Type 0) (old mid new : Moments) → Passed P old mid → Passed P mid new → Passed P old new
passed_more P old mid new first then = record {
  since = then.since ++ first.since;
  all = then.all ∙ ap (λ (ms : Moments). then.since ++ ms) first.all ∙ sym (append_assoc then.since first.since old);
  each = all_more P then.since first.since then.each first.each;
}

-- a crash leaves what is weaker
leaves_weaker : (P Q : List ℕ → Type 0) → ((left : List ℕ) → P left → Q left) → (old new : Moments) → Passed (LeavesOnly P) old new → Passed (LeavesOnly Q) old new
leaves_weaker P Q weaker old new passed = record {
  since = passed.since;
  all = passed.all;
  each = all_weaker (LeavesOnly P) (LeavesOnly Q) (λ f leaves left may. weaker left (leaves left may)) passed.since passed.each;
}

last_weaker : (P Q : DiskFile → Type 0) → ((f : DiskFile) → P f → Q f) → (ms : Moments) → AtLast P ms → AtLast Q ms
last_weaker P Q weaker [] last = last
last_weaker P Q weaker (f ∷ past) last = weaker f last

-- ---- the commits of the code are calls, each with one record

one_record : (commit : Commit) (a b : RoleCall) → IsCommit commit a → IsCommit commit b → record_bytes a ≡ record_bytes b
one_record commit a b first second =
    ap (λ role. bytes_of role a.fuel (spelling a.argument)) (sym first.role ∙ second.role)
    ∙ ap (λ fuel. bytes_of b.role fuel (spelling a.argument)) (sym first.fuel ∙ second.fuel)
    ∙ ap (λ text. bytes_of b.role b.fuel text) (sym first.argument ∙ second.argument)
  where
    bytes_of : (role fuel : ℕ) → List ℕ → List ℕ
    bytes_of role fuel text = to_be_bytes w16 role ++ (to_be_bytes w64 fuel ++ (to_be_bytes w32 (length text) ++ text))

same_records : (commits : List Commit) (a b rest : List RoleCall) → AreAlike IsCommit commits a → AreAlike IsCommit commits b
    → map record_bytes (a ++ rest) ≡ map record_bytes (b ++ rest)
same_records [] [] [] rest first second = refl
same_records (commit ∷ commits) (x ∷ a) (y ∷ b) rest first second =
    ap (λ r. r ∷ map record_bytes (a ++ rest)) (one_record commit x y first.0 second.0)
    ∙ ap (λ rs. record_bytes y ∷ rs) (same_records commits a b rest first.1 second.1)
same_records [] (x ∷ a) b rest first second = elim first [ ]
same_records [] [] (y ∷ b) rest first second = elim second [ ]
same_records (commit ∷ commits) [] b rest first second = elim first [ ]
same_records (commit ∷ commits) (x ∷ a) [] rest first second = elim second [ ]

front_of : (own image : List ℕ) (a b : List RoleCall) → map record_bytes a ≡ map record_bytes b → journal_front own image a ≡ journal_front own image b
unfolding journal_front
front_of own image a b same = ap (λ (records : List (List ℕ)). journal_head own image ++ opened records) same

-- so bytes that spell some of these calls spell the others
spelled_more : (own image : List ℕ) (commits : List Commit) (a b rest : List RoleCall) → AreAlike IsCommit commits a → AreAlike IsCommit commits b
    → (bytes : List ℕ) → SpellsJournal own image (a ++ rest) bytes → SpellsJournal own image (b ++ rest) bytes
spelled_more own image commits a b rest first second bytes spells =
    subst (λ front. IsClosedBehind front bytes) (front_of own image (a ++ rest) (b ++ rest) (same_records commits a b rest first second)) spells

spelled : (own image : List ℕ) (commits : List Commit) (a b : List RoleCall) → AreAlike IsCommit commits a → AreAlike IsCommit commits b
    → (bytes : List ℕ) → SpellsJournal own image a bytes → SpellsJournal own image b bytes
spelled own image commits a b first second bytes spells =
    subst (λ (calls : List RoleCall). SpellsJournal own image calls bytes) (append-nil b)
    (spelled_more own image commits a b [] first second bytes (subst (λ (calls : List RoleCall). SpellsJournal own image calls bytes) (sym (append-nil a)) spells))

alike_take : (n : ℕ) (commits : List Commit) (calls : List RoleCall) → AreAlike IsCommit commits calls → AreAlike IsCommit (take n commits) (take n calls)
alike_take zero commits calls are = tt
alike_take (suc n) [] [] are = tt
alike_take (suc n) (commit ∷ commits) (call ∷ calls) are = (are.0, alike_take n commits calls are.1)
alike_take (suc n) [] (call ∷ calls) are = elim are [ ]
alike_take (suc n) (commit ∷ commits) [] are = elim are [ ]

take_behind : (calls news : List RoleCall) (n : ℕ) → take (length calls + n) (calls ++ news) ≡ calls ++ take n news
take_behind [] news n = let same : 0 + n ≡ n = omega arith in ap (λ k. take k news) same
take_behind (call ∷ calls) news n =
    let same : length (call ∷ calls) + n ≡ suc (length calls + n) = omega arith in
    ap (λ k. take k (call ∷ (calls ++ news))) same ∙ ap (λ (cs : List RoleCall). call ∷ cs) (take_behind calls news n)

-- ---- what the journal of a serving keeps

module _ (s : Serving) (server : Server) (image : List ℕ) (commits : List Commit) (news kept : List RoleCall) (found : AreAlike IsCommit commits (s.begun.commits ++ news))
    (alike : AreAlike IsCommit commits kept) (front : IsFront kept server.shared.commits) where
  abbrev own : List ℕ
  own = s.program.digest

  abbrev calls : List RoleCall
  calls = s.begun.commits

  many : length kept ≡ length calls + length news
  many = omega (arith, alike_length IsCommit commits kept alike, alike_length IsCommit commits (calls ++ news) found, length-append calls news)

  first_made : (n : ℕ) → n ≤ length kept → take n server.shared.commits ≡ take n kept
  first_made n few = ap (take n) front.1 ∙ take-append-le n kept front.0 few

  all_made : take (length kept) server.shared.commits ≡ kept
  all_made = ap (take (length kept)) front.1 ∙ take_at kept front.0 (length kept) refl

  -- the first of them
  first_spelled : (n : ℕ) → n ≤ length news → (left : List ℕ) → SpellsJournal own image (calls ++ take n news) left → LeavesFirst s server kept image left
  first_spelled n few left spells =
      let m = length calls + n in
      let within : m ≤ length kept = omega (arith, few, many) in (
        m,
        omega arith,
        within,
        subst (λ (cs : List RoleCall). SpellsJournal own image cs left) (sym (first_made m within))
            (spelled own image (take m commits) (take m (calls ++ news)) (take m kept) (alike_take m commits (calls ++ news) found) (alike_take m commits kept alike) left
            (subst (λ (cs : List RoleCall). SpellsJournal own image cs left) (sym (take_behind calls news n)) spells)),
      )

  leaves_first : (left : List ℕ) → SpellsFirst own image calls news left → LeavesFirst s server kept image left
  leaves_first left is = first_spelled is.count is.within left is.spells

  leaves_begun : (left : List ℕ) → SpellsJournal own image calls left → LeavesFirst s server kept image left
  leaves_begun left spells = first_spelled 0 (omega arith) left (subst (λ (cs : List RoleCall). SpellsJournal own image cs left) (sym (append-nil calls)) spells)

  -- all of them
  keeps_all : (bytes : List ℕ) → SpellsJournal own image (calls ++ news) bytes → KeepsFirst s server kept image (length kept) bytes
  keeps_all bytes spells =
      subst (λ (cs : List RoleCall). SpellsJournal own image cs bytes) (sym all_made) (spelled own image commits (calls ++ news) kept found alike bytes spells)

  -- and one record more
  leaves_one : (call : RoleCall) (left : List ℕ) → SpellsFirst own image calls (news ++ call ∷ []) left → LeavesMore s server kept image left
  leaves_one call left is = by (nat_lt (length news) is.count) refl
    where
      size : length (news ++ call ∷ []) ≡ length news + 1
      size = length-append news (call ∷ [])

      more : length news < is.count → SpellsJournal own image (take (length kept) server.shared.commits ++ call ∷ []) left
      more past =
          let whole : take is.count (news ++ call ∷ []) ≡ news ++ call ∷ [] = take_all is.count (news ++ call ∷ []) (omega (arith, past, size)) in
          subst (λ (cs : List RoleCall). SpellsJournal own image (cs ++ call ∷ []) left) (sym all_made)
          (spelled_more own image commits (calls ++ news) kept (call ∷ []) found alike left
          (subst (λ (cs : List RoleCall). SpellsJournal own image cs left) (ap (λ (cs : List RoleCall). calls ++ cs) whole ∙ sym (append_assoc calls news (call ∷ []))) is.spells))

      by : (b : Bool) → nat_lt (length news) is.count ≡ b → LeavesMore s server kept image left
      by true e = inr (call, more (ltb-true (length news) is.count e))
      by false e =
          let few = ltb-false (length news) is.count e in
          inl (first_spelled is.count few left
          (subst (λ (cs : List RoleCall). SpellsJournal own image (calls ++ cs) left) (take-append-le is.count news (call ∷ []) few) is.spells))

  leaves_more : (next : List RoleCall) → length next ≤ 1 → (left : List ℕ) → SpellsFirst own image calls (news ++ next) left → LeavesMore s server kept image left
  leaves_more [] one left is = inl (leaves_first left (subst (λ (cs : List RoleCall). SpellsFirst own image calls cs left) (append-nil news) is))
  leaves_more (call ∷ []) one left is = leaves_one call left is
  leaves_more (call ∷ other ∷ next) one left is = absurd (omega (arith, one))

  module _ (is_image : IsFirstImage s image) (file : DiskFile) (past : Moments) (kept_now : KeepsNow s.program image s.begun (settled file.reads)) where
    abbrev synced : Moments
    synced = settled file.reads ∷ file ∷ past

    -- the journal was synced as it was opened
    passed_sync : Passed (LeavesOnly (LeavesFirst s server kept image)) (file ∷ past) synced
    passed_sync = record { since = settled file.reads ∷ []; all = refl; each = ((λ left may. leaves_begun left (kept_now.leaves left may)), tt) }

    whole : (now : Moments) → HasKept own image calls news synced now → KeepsJournal s server kept (file ∷ past) now
    whole now has = record {
      image = image;
      is_image = is_image;
      sound = now;
      each = passed_more _ (file ∷ past) synced now passed_sync (leaves_weaker _ _ leaves_first synced now has.each);
      since = record { since = []; all = refl; each = tt };
      reads = last_weaker _ _ (λ f leaves. keeps_all f.reads (leaves f.reads (inl refl))) now has.last;
    }

    broken : (now : Moments) → ReadsAsKept own image calls news synced now → KeepsJournal s server kept (file ∷ past) now
    broken now reads = record {
      image = image;
      is_image = is_image;
      sound = reads.sound;
      each = passed_more _ (file ∷ past) synced reads.sound passed_sync (leaves_weaker _ _ leaves_first synced reads.sound reads.each);
      since = leaves_weaker _ _ (leaves_more reads.next reads.one) reads.sound now reads.since;
      reads = last_weaker _ _ (λ f spells. keeps_all f.reads spells) now reads.last;
    }

-- ---- by what was told as it was opened, and by what its keeper tells

-- what the disk told as the journal was opened, where its file was told as it was chosen
abbrev pub moments_found : (chosen middle : Option Moments) → Option Moments
moments_found None middle = None
moments_found (Some []) middle = None
moments_found (Some (file ∷ past)) middle = middle

-- the journal of a serving as it was found
abbrev pub found_of : Serving → (image : List ℕ) → Option Moments → FoundJournal
found_of s image moments = record { own = s.program.digest; image = image; calls = s.begun.commits; moments = moments }

-- it was opened so
abbrev pub OpensSo : Serving → (image : List ℕ) → Moments → Moments → Type 0
OpensSo s image old new = IsSynced old new × AtLast (KeepsNow s.program image s.begun) new

module _ (s : Serving) (name image : List ℕ) (first middle : DiskSeen) where
  abbrev HasFirst : Moments → Moments → Type 0
  HasFirst = HasKept s.program.digest image s.begun.commits []

  -- it keeps what it was found with
  pub keeps_found : (chosen : Option Moments) → ForTold chosen middle.moments (OpensSo s image) → (journal : Journal) (commits : List Commit)
      → IsAt s.program.digest image s.begun.commits journal → AreAlike IsCommit commits s.begun.commits
      → KeepsFound (found_of s image (moments_found chosen middle.moments)) journal middle.moments commits
  keeps_found chosen told journal commits at alike = record {
    news = [];
    alike = subst (AreAlike IsCommit commits) (sym (append-nil s.begun.commits)) alike;
    stands = inl (subst (λ (cs : List RoleCall). IsAt s.program.digest image cs journal) (sym (append-nil s.begun.commits)) at, by chosen told);
  }
    where
      at_first : (file : DiskFile) (past : Moments) → KeepsNow s.program image s.begun file → HasFirst (file ∷ past) (file ∷ past)
      at_first file past kept_now = record {
        each = record { since = []; all = refl; each = tt };
        last = subst (λ (cs : List RoleCall). IsKept (journal_front s.program.digest image cs) file) (sym (append-nil s.begun.commits)) kept_now.leaves;
      }

      by : (chosen : Option Moments) → ForTold chosen middle.moments (OpensSo s image) → ForTold (moments_found chosen middle.moments) middle.moments HasFirst
      by None t = tt
      by (Some []) t = tt
      by (Some (file ∷ past)) t =
          let is : middle.moments ≡ Some (settled file.reads ∷ file ∷ past) = t.1 ∙ ap Some t.2.0 in
          subst (λ (m : Option Moments). ForTold m m HasFirst) (sym is)
          (settled file.reads ∷ file ∷ past, refl, at_first (settled file.reads) (file ∷ past) (subst (AtLast (KeepsNow s.program image s.begun)) t.2.0 t.2.1))

  module _ (server : Server) (behind : DiskSeen) (journal : Journal) (commits : List Commit) (kept : List RoleCall) (is_image : IsFirstImage s image)
      (alike : AreAlike IsCommit commits kept) (front : IsFront kept server.shared.commits) where
    abbrev Keeps : Moments → Moments → Type 0
    Keeps = KeepsJournal s server kept

    abbrev Has : List RoleCall → Moments → Moments → Type 0
    Has news = HasKept s.program.digest image s.begun.commits news

    abbrev Reads : List RoleCall → Moments → Moments → Type 0
    Reads news = ReadsAsKept s.program.digest image s.begun.commits news

    -- of the file as it was synced
    on_file : (file : DiskFile) (past : Moments) → middle.moments ≡ Some (settled file.reads ∷ file ∷ past) → KeepsNow s.program image s.begun (settled file.reads)
        → KeepsFound (found_of s image middle.moments) journal behind.moments commits → (now : Moments) × (behind.moments ≡ Some now) × Keeps (file ∷ past) now
    on_file file past is kept_now keeps = by keeps.stands
      where
        by : (IsAt s.program.digest image (s.begun.commits ++ keeps.news) journal × ForTold middle.moments behind.moments (Has keeps.news))
            ⊎ ((journal.failed ≡ true) × (journal.records ≤ length commits) × ForTold middle.moments behind.moments (Reads keeps.news))
            → (now : Moments) × (behind.moments ≡ Some now) × Keeps (file ∷ past) now
        by (inl stands) =
            let t = subst (λ (was : Option Moments). ForTold was behind.moments (Has keeps.news)) is stands.1 in
            (t.0, t.1, whole s server image commits keeps.news kept keeps.alike alike front is_image file past kept_now t.0 t.2)
        by (inr fails) =
            let t = subst (λ (was : Option Moments). ForTold was behind.moments (Reads keeps.news)) is fails.2 in
            (t.0, t.1, broken s server image commits keeps.news kept keeps.alike alike front is_image file past kept_now t.0 t.2)

    pub journal_kept : (told : FromChosen name first middle (OpensSo s image))
        → KeepsFound (found_of s image (moments_found told.0 middle.moments)) journal behind.moments commits → FromChosen name first behind Keeps
    journal_kept told keeps = (told.0, told.1, by told.0 told.2 keeps)
      where
        by : (chosen : Option Moments) → ForTold chosen middle.moments (OpensSo s image)
            → KeepsFound (found_of s image (moments_found chosen middle.moments)) journal behind.moments commits → ForTold chosen behind.moments Keeps
        by None t keeps = tt
        by (Some []) t keeps = tt
        by (Some (file ∷ past)) t keeps =
            on_file file past (t.1 ∙ ap Some t.2.0) (subst (AtLast (KeepsNow s.program image s.begun)) t.2.0 t.2.1) keeps

-- ---- by what was prepared

-- the image is one of the first version
pub first_image : (s : Serving) (image : List ℕ) (v : Value) (others : List Value) → s.begun.versions ≡ v ∷ others → length image < 2 ^ 32
    → image_of s.program.program s.program.digest image ≡ Root v → IsFirstImage s image
first_image s image v others versions fits is = record { fits = fits; is = is ∙ ap (λ (vs : List Value). Root (version_at vs 0)) (sym versions) }
