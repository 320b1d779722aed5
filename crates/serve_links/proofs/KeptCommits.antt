-- Commits that are kept, and calls that they are: for answer, serve_message and serve_link.
use Rattle.std.proofs.Common.{◌≡◌, ℕ, ◌≤◌, List, [], ◌∷◌, ◌++◌, length, length-append, Bool, true, false, Result, Ok, Err, is_err, refl, sym, ap, subst, ◌∙◌, arith}
use Rattle.session_meaning.specs.Calls.{RoleCall}
use Rattle.session_turns.specs.Keepers.{KeepsBetween, KeepsOn}
use Rattle.session_meaning.specs.Beginnings.{IsFront}
use Rattle.session_turns.specs.Rows.{AreAlike}
use Rattle.session_turns.specs.Sharing.{IsCommit}
use Rattle.session_turns.specs.declared.commit.Commit.{Commit}
use Rattle.session_turns.proofs.Rows.{alike_length}
use Rattle.link_ends.specs.declared.link_stop.LinkStop.{LinkStop}
use Rattle.link_ends.specs.declared.link_stop.LinkStop.TheVariants as link_stop
use Rattle.serve_links.specs.Messages.{StillKeeps}
use Rattle.serve_links.proofs.Growing.{same_front}

-- LISTS
-- of two fronts of a list the shorter one is a front of the other
shorter_front : {A : Type 0} (xs more ys others : List A) → xs ++ more ≡ ys ++ others → length xs ≤ length ys → IsFront xs ys
shorter_front [] more ys others e l = (ys, refl)
shorter_front (x ∷ xs) more [] others e l = absurd (omega (arith, l))
shorter_front (x ∷ xs) more (y ∷ ys) others e l =
    let first : y ≡ x = cc (e) in
    let rest : xs ++ more ≡ ys ++ others = cc (e) in
    let front = shorter_front xs more ys others rest (omega (arith, l)) in
    (front.0, ap (λ l. y ∷ l) front.1 ∙ ap (λ z. z ∷ (xs ++ front.0)) first)

module _ {A B : Type 0} (R : A → B → Type 0) where
  -- what is alike to a list's front, and to a list, part of which is a front
  front_of_codes : (ys others : List B) (xs : List A) → AreAlike R xs (ys ++ others) → (front rest : List A) × (xs ≡ front ++ rest) × AreAlike R front ys
  front_of_codes [] others xs h = ([], xs, refl, tt)
  front_of_codes (y ∷ ys) others [] h = elim h [ ]
  front_of_codes (y ∷ ys) others (x ∷ xs) h = let more = front_of_codes ys others xs h.1 in (x ∷ more.0, more.1, ap (λ l. x ∷ l) more.2, (h.0, more.3))

  front_of_calls : (front rest : List A) (ys : List B) → AreAlike R (front ++ rest) ys → (calls others : List B) × (ys ≡ calls ++ others) × AreAlike R front calls
  front_of_calls [] rest ys h = ([], ys, refl, tt)
  front_of_calls (x ∷ front) rest [] h = elim h [ ]
  front_of_calls (x ∷ front) rest (y ∷ ys) h = let more = front_of_calls front rest ys h.1 in (y ∷ more.0, more.1, ap (λ l. y ∷ l) more.2, (h.0, more.3))

-- COMMITS OF THE CODE
-- a call is one commit
commit_same : (x y : Commit) → x.role.0 ≡ y.role.0 → x.argument ≡ y.argument → x.fuel ≡ y.fuel → x ≡ y
commit_same x y role argument fuel =
    ap (λ r. commit_of r x.argument x.fuel) role ∙ ap (λ a. commit_of y.role.0 a x.fuel) argument ∙ ap (λ f. commit_of y.role.0 y.argument f) fuel
  where
    commit_of : ℕ → List ℕ → ℕ → Commit
    commit_of role argument fuel = record { role = record { 0 = role }; argument = argument; fuel = fuel }

one_commit : (x y : Commit) (c : RoleCall) → IsCommit x c → IsCommit y c → x ≡ y
one_commit x y c h k = commit_same x y (h.role ∙ sym k.role) (h.argument ∙ sym k.argument) (h.fuel ∙ sym k.fuel)

pub same_commits : (xs ys : List Commit) (cs : List RoleCall) → AreAlike IsCommit xs cs → AreAlike IsCommit ys cs → xs ≡ ys
same_commits [] [] [] h k = refl
same_commits (x ∷ xs) (y ∷ ys) (c ∷ cs) h k = ap (λ z. z ∷ xs) (one_commit x y c h.0 k.0) ∙ ap (λ l. y ∷ l) (same_commits xs ys cs h.1 k.1)
same_commits [] (y ∷ ys) [] h k = elim k [ ]
same_commits (x ∷ xs) ys [] h k = elim h [ ]
same_commits [] ys (c ∷ cs) h k = elim h [ ]
same_commits (x ∷ xs) [] (c ∷ cs) h k = elim k [ ]

-- so those of the code begin with those before them, where the calls do
pub codes_grow : (before commits : List Commit) (told made : List RoleCall) → AreAlike IsCommit before told → AreAlike IsCommit commits made → IsFront told made → IsFront before commits
codes_grow before commits told made old new grows =
    let parts = front_of_codes IsCommit told grows.0 commits (subst (AreAlike IsCommit commits) grows.1 new) in
    (parts.1, parts.2 ∙ ap (λ l. l ++ parts.1) (same_commits parts.0 before told parts.3 old))

-- WHAT IS KEPT
module _ (Keeps : List Commit → Type 0) where
  -- all commits
  pub all_kept : (commits : List Commit) (calls : List RoleCall) → AreAlike IsCommit commits calls → Keeps commits → KeepsBetween Keeps calls calls
  all_kept commits calls alike keeps =
      record { commits = commits; calls = calls; keeps = keeps; alike = alike; all_told = same_front calls; only_made = same_front calls }

  -- those before a message
  pub old_kept : (commits : List Commit) (told made : List RoleCall) → AreAlike IsCommit commits told → IsFront told made → Keeps commits → KeepsBetween Keeps told made
  old_kept commits told made alike grows keeps =
      record { commits = commits; calls = told; keeps = keeps; alike = alike; all_told = same_front told; only_made = grows }

  -- and the first of those that it made
  some_kept : (before commits kept : List Commit) (told made : List RoleCall) → AreAlike IsCommit before told → AreAlike IsCommit commits made → IsFront told made
      → IsFront before kept → IsFront kept commits → Keeps kept → KeepsBetween Keeps told made
  some_kept before commits kept told made old new grows more fewer keeps =
      let parts = front_of_calls IsCommit kept fewer.0 made (subst (λ cs. AreAlike IsCommit cs made) fewer.1 new) in
      let first = front_of_calls IsCommit before more.0 parts.0 (subst (λ cs. AreAlike IsCommit cs parts.0) more.1 parts.3) in
      let one = alike_length IsCommit before told old in
      let other = alike_length IsCommit before first.0 first.3 in
      let fewer_calls : length told ≤ length parts.0 = rw (first.2, length-append first.0 first.1) (omega (arith, one, other)) in
      record {
        commits = kept;
        calls = parts.0;
        keeps = keeps;
        alike = parts.3;
        all_told = shorter_front told grows.0 parts.0 parts.1 (sym grows.1 ∙ parts.2) fewer_calls;
        only_made = (parts.1, parts.2);
      }

  -- where the keeper failed
  pub kept_at_stop : {T E : Type 0} (result : Result T E) (before commits : List Commit) (told made : List RoleCall) → is_err result ≡ true
      → AreAlike IsCommit before told → AreAlike IsCommit commits made → IsFront told made → KeepsOn Keeps before commits result → KeepsBetween Keeps told made
  kept_at_stop (Ok done) before commits told made failed old new grows on = absurd (cc (failed))
  kept_at_stop (Err stop) before commits told made failed old new grows on = some_kept before commits on.0 told made old new grows on.1 on.2 on.3

-- where it didn't
pub kept_whole : (Keeps : List Commit → Type 0) {T E : Type 0} (result : Result T E) (before commits : List Commit) → is_err result ≡ false → KeepsOn Keeps before commits result → Keeps commits
kept_whole Keeps (Ok done) before commits well on = on
kept_whole Keeps (Err stop) before commits well on = absurd (cc (well))

-- all are still kept at a link fault
pub still_kept_fault : (Kept : Type 0) (stop : LinkStop) → stop ≡ link_stop.LinkFault → StillKeeps {T = Bool} Kept (Err stop) → Kept
still_kept_fault Kept stop is keeps = let Of : LinkStop → Type 0 = λ stop. StillKeeps {T = Bool} Kept (Err stop) in subst Of is keeps

-- what is kept is so at any end
pub still_kept : (Kept : Type 0) (result : Result Bool LinkStop) → Kept → StillKeeps {T = Bool} Kept result
still_kept Kept (Ok done) keeps = keeps
still_kept Kept (Err link_stop.LinkFault) keeps = keeps
still_kept Kept (Err link_stop.Stopped) keeps = tt
