-- Commits that are appended one after another are steps of the law on crashes.
use Rattle.std.specs.Prelude.{Option, Some, None, IfSome, IsErr, Result, Ok, Err, true, false, if◌then◌else◌}
use Rattle.std.proofs.Common.{◌≡◌, ◌≤◌, ◌<◌, ◌+◌, ℕ, zero, suc, Bool, List, [], ◌∷◌, ◌++◌, length, take, get_or, refl, sym, ◌∙◌, ap, subst, arith, append_assoc, length-append}
use Rattle.std.proofs.lemmas.List.{append-nil, map-append, places, take_all, take_more}
use Rattle.core_terms.specs.Terms.{Program}
use Rattle.core_terms.specs.Values.{Value, UnitV}
use Rattle.lam_outside.specs.Disks.{DiskFile, Moments}
use Rattle.session_meaning.specs.Calls.{RoleCall}
use Rattle.session_meaning.specs.Server.{version_at}
use Rattle.version_journal.specs.Appended.{AppendedSoFar, AreAppended}
use Rattle.version_journal.specs.Gates.{Appends, AtLast, ForTold, IsKept}
use Rattle.version_journal.specs.JournalLaws.{AreAppendsTo, AreWritable, IsWritable}
use Rattle.version_journal.specs.Journals.{journal_front, record_bytes, records_limit}
use Rattle.version_journal.specs.Steps.{Append, acknowledged_in, moments_in, passed_to}
use Rattle.version_journal.proofs.Survival.{front_more}

-- STEPS
one_more : (k : Bool) (a b : ℕ) → a ≡ suc b → (if k then suc a else a) ≡ suc (if k then suc b else b)
one_more true a b is = ap suc is
one_more false a b is = is

acknowledged_more : (steps : List (Append RoleCall)) (a : Append RoleCall) → a.acknowledged ≡ true → acknowledged_in (steps ++ a ∷ []) ≡ suc (acknowledged_in steps)
acknowledged_more [] a is = rw is refl
acknowledged_more (x ∷ steps) a is = one_more x.acknowledged _ _ (acknowledged_more steps a is)

moments_more : (steps : List (Append RoleCall)) (a : Append RoleCall) → moments_in (steps ++ a ∷ []) ≡ a.moments ++ moments_in steps
moments_more [] a = sym (append-nil a.moments)
moments_more (x ∷ steps) a = ap (λ (ms : Moments). ms ++ x.moments) (moments_more steps a) ∙ append_assoc a.moments (moments_in steps) x.moments

-- VERSIONS
pub as_many : (P : Program) (u : Value) (news : List RoleCall) (made : List Value) → AreWritable P u news made → length made ≡ length news
as_many P u [] [] are = refl
as_many P u (call ∷ news) (w ∷ made) are = ap suc (as_many P w news made are.1)
as_many P u news made are = elim are [ ]

writable_at : (P : Program) (u : Value) (news : List RoleCall) (made : List Value) (n : ℕ) (d : RoleCall) → AreWritable P u news made → n < length news
    → IsWritable P (get_or (u ∷ made) n UnitV) (get_or news n d) (get_or made n UnitV)
writable_at P u (call ∷ news) (w ∷ made) zero d are within = are.0
writable_at P u (call ∷ news) (w ∷ made) (suc n) d are within = writable_at P w news made n d are.1 (omega (arith, within))
writable_at P u [] made n d are within = absurd (omega (arith, within))
writable_at P u (call ∷ news) [] n d are within = elim are [ ]

last_version : (versions made : List Value) (k n : ℕ) → length versions ≡ suc k → n < length made
    → get_or (versions ++ take n made) (k + n) UnitV ≡ get_or (get_or versions k UnitV ∷ made) n UnitV
last_version versions made k n size within = grind (arith, places)

module _ (P : Program) (own image : List ℕ) (calls : List RoleCall) (versions : List Value) (news : List RoleCall) (made : List Value) where
  module _ (n : ℕ) (call : RoleCall) (w : Value) (few : length (calls ++ take n news) < records_limit)
      (is : IsWritable P (version_at (versions ++ take n made) (length (calls ++ take n news))) call w)
      (more : take (n + 1) news ≡ take n news ++ call ∷ []) (more_made : take (n + 1) made ≡ take n made ++ w ∷ []) where
    calls_next : (calls ++ take n news) ++ call ∷ [] ≡ calls ++ take (n + 1) news
    calls_next = append_assoc calls (take n news) (call ∷ []) ∙ ap (λ (cs : List RoleCall). calls ++ cs) (sym more)

    versions_next : (versions ++ take n made) ++ w ∷ [] ≡ versions ++ take (n + 1) made
    versions_next = append_assoc versions (take n made) (w ∷ []) ∙ ap (λ (vs : List Value). versions ++ vs) (sym more_made)

    abbrev step : {T E : Type 0} (result : Result T E) (old new : Moments) → Appends (journal_front own image (calls ++ take n news)) (record_bytes call) old new result → Bool → Append RoleCall
    step result old new appends acknowledged = record { passed = call; moments = appends.each.since; acknowledged = acknowledged }

    passed_more : (steps : List (Append RoleCall)) (a : Append RoleCall) → a.passed ≡ call → passed_to steps ≡ take n news → passed_to (steps ++ a ∷ []) ≡ take (n + 1) news
    passed_more steps a is passed = map-append _ steps (a ∷ []) ∙ ap (λ (cs : List RoleCall). cs ++ a.passed ∷ []) passed ∙ ap (λ (c : RoleCall). take n news ++ c ∷ []) is ∙ sym more

    passing_more : (steps : List (Append RoleCall)) (a : Append RoleCall) (old now new : Moments) → new ≡ a.moments ++ now → now ≡ moments_in steps ++ old
        → new ≡ moments_in (steps ++ a ∷ []) ++ old
    passing_more steps a old now new this passing =
        this ∙ ap (λ (ms : Moments). a.moments ++ ms) passing ∙ sym (append_assoc a.moments (moments_in steps) old) ∙ ap (λ (ms : Moments). ms ++ old) (sym (moments_more steps a))

    -- an append that answered Ok
    one_appended : {T E : Type 0} (done : T) (old now new : Moments) → AppendedSoFar P own image calls versions news made n old now
        → Appends {T = T} {E = E} (journal_front own image (calls ++ take n news)) (record_bytes call) now new (Ok done) → AppendedSoFar P own image calls versions news made (n + 1) old new
    one_appended {T} {E} done old now new so_far appends =
        let a : Append RoleCall = record { passed = call; moments = appends.each.since; acknowledged = true } in
        let count : length (so_far.steps ++ a ∷ []) ≡ n + 1 = length-append so_far.steps (a ∷ []) ∙ ap (λ (k : ℕ). k + 1) so_far.count in
        record {
          steps = so_far.steps ++ a ∷ [];
          count = count;
          acknowledged = omega (arith, acknowledged_more so_far.steps a refl, so_far.acknowledged, so_far.count, count);
          passed = passed_more so_far.steps a refl so_far.passed;
          passing = passing_more so_far.steps a old now new appends.each.all so_far.passing;
          goes_on = λ others are. subst (λ (l : List (Append RoleCall)). AreAppendsTo P own image calls versions l) (sym (append_assoc so_far.steps (a ∷ []) others))
              (so_far.goes_on (a ∷ others) (
                w,
                few,
                is,
                appends.each.each,
                subst (λ (cs : List RoleCall). AreAppendsTo P own image cs ((versions ++ take n made) ++ w ∷ []) others) (sym calls_next)
                    (subst (λ (vs : List Value). AreAppendsTo P own image (calls ++ take (n + 1) news) vs others) (sym versions_next) are),
              ));
          last = subst (λ (l : List ℕ). AtLast (IsKept l) new) (sym (front_more own image (calls ++ take n news) call) ∙ ap (journal_front own image) calls_next) appends.done;
        }

    -- one that didn't
    none_more : {T E : Type 0} (T' E' : Type 0) (failed : E) (fault : E') (old now new : Moments) → AppendedSoFar P own image calls versions news made n old now
        → Appends {T = T} {E = E} (journal_front own image (calls ++ take n news)) (record_bytes call) now new (Err failed)
        → AreAppended P own image calls versions news made {T = T'} {E = E'} old new (Err fault)
    none_more T' E' failed fault old now new so_far appends =
        let a : Append RoleCall = record { passed = call; moments = appends.each.since; acknowledged = false } in
        let count : length (so_far.steps ++ a ∷ []) ≡ n + 1 = length-append so_far.steps (a ∷ []) ∙ ap (λ (k : ℕ). k + 1) so_far.count in
        record {
          steps = so_far.steps ++ a ∷ [];
          appends = so_far.goes_on (a ∷ []) (w, few, is, appends.each.each, tt);
          passed = passed_more so_far.steps a refl so_far.passed ∙ ap (λ (k : ℕ). take k news) (sym count);
          passing = passing_more so_far.steps a old now new appends.each.all so_far.passing;
          done = tt;
          goes_on = tt;
        }

    -- the same of moments that are told
    module _ {T E : Type 0} (result : Result T E) where
      abbrev pub Then : Moments → Moments → Type 0
      Then old new = (mid : Moments) × AppendedSoFar P own image calls versions news made n old mid × Appends (journal_front own image (calls ++ take n news)) (record_bytes call) mid new result

      behind : (file : DiskFile) (past now : Moments) (new : Option Moments) → AppendedSoFar P own image calls versions news made n (file ∷ past) now
          → ForTold (Some now) new (λ o x. Appends (journal_front own image (calls ++ take n news)) (record_bytes call) o x result) → (x : Moments) × (new ≡ Some x) × Then (file ∷ past) x
      behind file past [] new so_far told = absurd so_far.last
      behind file past (f ∷ fs) new so_far told = (told.0, told.1, (f ∷ fs, so_far, told.2))

      pub stepped : (old mid new : Option Moments) → ForTold old mid (AppendedSoFar P own image calls versions news made n)
          → (IfSome mid (AtLast (IsKept (journal_front own image (calls ++ take n news))))
          → ForTold mid new (λ o x. Appends (journal_front own image (calls ++ take n news)) (record_bytes call) o x result))
          → ForTold old new Then
      stepped None mid new so_far told = tt
      stepped (Some []) mid new so_far told = tt
      stepped (Some (file ∷ past)) mid new so_far told =
          behind file past so_far.0 new so_far.2
          (subst (λ (m : Option Moments). ForTold m new (λ o x. Appends (journal_front own image (calls ++ take n news)) (record_bytes call) o x result)) so_far.1
          (told (subst (λ (m : Option Moments). IfSome m (AtLast (IsKept (journal_front own image (calls ++ take n news))))) (sym so_far.1) so_far.2.last)))

    pub appended_more : {T E : Type 0} (result : Result T E) (done : T) (old new : Option Moments) → result ≡ Ok done → ForTold old new (Then result)
        → ForTold old new (AppendedSoFar P own image calls versions news made (n + 1))
    appended_more result done None new is told = tt
    appended_more result done (Some []) new is told = tt
    appended_more {T} {E} result done (Some (file ∷ past)) new is told = (
      told.0,
      told.1,
      one_appended done (file ∷ past) told.2.0 told.0 told.2.1
          (subst (λ (r : Result T E). Appends (journal_front own image (calls ++ take n news)) (record_bytes call) told.2.0 told.0 r) is told.2.2),
    )

    ends_here : {T E : Type 0} (m : ℕ) (fault : E) (old new : Moments) → AppendedSoFar P own image calls versions news made m old new
        → AreAppended P own image calls versions news made {T = T} {E = E} old new (Err fault)
    ends_here m fault old new so_far = record {
      steps = so_far.steps;
      appends = subst (λ (l : List (Append RoleCall)). AreAppendsTo P own image calls versions l) (append-nil so_far.steps) (so_far.goes_on [] tt);
      passed = so_far.passed ∙ ap (λ (k : ℕ). take k news) (sym so_far.count);
      passing = so_far.passing;
      done = tt;
      goes_on = tt;
    }

    until : {T E : Type 0} (T' E' : Type 0) (result : Result T E) (fault : E') (old now new : Moments) → AppendedSoFar P own image calls versions news made n old now
        → Appends (journal_front own image (calls ++ take n news)) (record_bytes call) now new result
        → AreAppended P own image calls versions news made {T = T'} {E = E'} old new (Err fault)
    until T' E' (Ok done) fault old now new so_far appends = ends_here (n + 1) fault old new (one_appended done old now new so_far appends)
    until T' E' (Err failed) fault old now new so_far appends = none_more T' E' failed fault old now new so_far appends

    pub appended_until : {T E : Type 0} (T' E' : Type 0) (result : Result T E) (result' : Result T' E') (old new : Option Moments) → IsErr result'
        → ForTold old new (Then result) → ForTold old new (λ o x. AreAppended P own image calls versions news made o x result')
    appended_until T' E' result result' None new err told = tt
    appended_until T' E' result result' (Some []) new err told = tt
    appended_until T' E' result (Ok done) (Some (file ∷ past)) new err told = absurd (let clash : false ≡ true = err in cc)
    appended_until T' E' result (Err fault) (Some (file ∷ past)) new err told =
        (told.0, told.1, until T' E' result fault (file ∷ past) told.2.0 told.0 told.2.1 told.2.2)

  -- all were appended
  pub all_appended : (T' E' : Type 0) (n : ℕ) (done : T') (old new : Option Moments) → length news ≤ n → length made ≤ n
      → ForTold old new (AppendedSoFar P own image calls versions news made n) → ForTold old new (λ o x. AreAppended P own image calls versions news made {T = T'} {E = E'} o x (Ok done))
  all_appended T' E' n done None new all all_made told = tt
  all_appended T' E' n done (Some []) new all all_made told = tt
  all_appended T' E' n done (Some (file ∷ past)) new all all_made told =
      let so_far = told.2 in
      let goes : (others : List (Append RoleCall)) → AreAppendsTo P own image (calls ++ news) (versions ++ made) others → AreAppendsTo P own image calls versions (so_far.steps ++ others) =
      λ others are. so_far.goes_on others
      (subst (λ (cs : List RoleCall). AreAppendsTo P own image (calls ++ cs) (versions ++ take n made) others) (sym (take_all n news all))
      (subst (λ (vs : List Value). AreAppendsTo P own image (calls ++ news) (versions ++ vs) others) (sym (take_all n made all_made)) are)) in (
        told.0,
        told.1,
        record {
          steps = so_far.steps;
          appends = subst (λ (l : List (Append RoleCall)). AreAppendsTo P own image calls versions l) (append-nil so_far.steps) (goes [] tt);
          passed = so_far.passed ∙ ap (λ (k : ℕ). take k news) (sym so_far.count);
          passing = so_far.passing;
          done = (so_far.passed ∙ take_all n news all, so_far.acknowledged);
          goes_on = goes;
        },
      )

  -- what is asked of an append so far
  pub record Next (n : ℕ) (call : RoleCall) (w : Value) : Type 0 where
    pub few : length (calls ++ take n news) < records_limit
    pub is : IsWritable P (version_at (versions ++ take n made) (length (calls ++ take n news))) call w
    pub made_more : take (n + 1) made ≡ take n made ++ w ∷ []

  pub next : (n : ℕ) (d : RoleCall) → length versions ≡ suc (length calls) → AreWritable P (version_at versions (length calls)) news made → n < length news
      → length calls + length news ≤ records_limit → Next n (get_or news n d) (get_or made n UnitV)
  next n d size are within room =
      let many : length made ≡ length news = as_many P (version_at versions (length calls)) news made are in
      let there : length (calls ++ take n news) ≡ length calls + n = grind (arith, places, within) in
      record {
        few = omega (arith, there, within, room);
        is = subst (λ (u : Value). IsWritable P u (get_or news n d) (get_or made n UnitV))
            (sym (ap (λ (k : ℕ). get_or (versions ++ take n made) k UnitV) there ∙ last_version versions made (length calls) n size (omega (arith, many, within))))
            (writable_at P (version_at versions (length calls)) news made n d are within);
        made_more = take_more made n UnitV (omega (arith, many, within));
      }
