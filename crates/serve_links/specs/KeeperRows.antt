-- Rows for what a keeper keeps: of two commits that flip a bool. What each word takes, and what it refuses.
use Rattle.std.specs.Prelude.{◌≡◌, ◌<◌, ◌++◌, ℕ, Bool, true, false, List, [], ◌∷◌, length, replicate, Ok, Err, refl}
use Rattle.std.proofs.Common.{◌∙◌, arith, inl, inr, lit<, lit≤, sym, subst}
use Rattle.std.proofs.lemmas.List.Elements.{All-from_recursion}
use Rattle.ideal_meaning.specs.Examples.{toy, bool_program}
use Rattle.lam_outside.specs.Causes.{Rose}
use Rattle.session_meaning.specs.Calls.{RoleCall}
use Rattle.session_meaning.specs.HistoryRows.{flips, flipped}
use Rattle.session_meaning.specs.MessageRows.{text_digest}
use Rattle.session_meaning.specs.Server.{Heard, HearsEnd, begun_server, last_turn, server_after}
use Rattle.session_turns.specs.Keepers.{AreKeepable, FitsRecord, HasStayed, KeepCause, KeepsBetween, KeepsOn, MayHaveFailed}
use Rattle.session_meaning.specs.Beginnings.{IsFront}
use Rattle.session_turns.specs.Rows.{AreAlike}
use Rattle.session_turns.specs.Sharing.{IsCommit}
use Rattle.session_turns.specs.declared.commit.Commit.{Commit}
use Rattle.link_ends.specs.declared.end.ConnectionEnd.TheVariants.{Over, LinkFault, Stopped}
use Rattle.link_ends.specs.declared.end.ServingEnd.TheVariants as serving_end
use Rattle.link_ends.specs.declared.link_stop.LinkStop.TheVariants as link_stop
use Rattle.serve_links.specs.Connections.{IsServed}
use Rattle.serve_links.specs.Ends.{EndKeeperCause, KeepsAtEnd}
use Rattle.serve_links.specs.Messages.{StillKeeps, StopCause}
use Rattle.serve_links.specs.ServedLinksInCode.{KeeperCause, KeepsBehind}

-- the flip of a bool, as a commit of the code
abbrev pub flip : Commit
flip = record { role = record { 0 = 2 }; argument = []; fuel = 1 }

pub flip_is : IsCommit flip flips
flip_is = record { role = refl; argument = refl; fuel = refl }

abbrev pub one : List Commit
one = flip ∷ []

abbrev pub two : List Commit
two = flip ∷ flip ∷ []

-- it keeps these commits and no others
abbrev pub KeepsThese : List Commit → List Commit → Type 0
KeepsThese these commits = commits ≡ these

-- RECORDS
-- the last number of a role, and the longest argument
abbrev pub commit_with : (role size : ℕ) → Commit
commit_with role size = record { role = record { 0 = role }; argument = replicate size 0; fuel = 1 }

pub fits_record : FitsRecord (commit_with 65535 3)
fits_record = record { role = lit< tt; argument = lit< tt }

pub no_role_more : FitsRecord (commit_with 65536 3) → ⊥
no_role_more fits = let k : 65536 < 65536 = fits.role in omega (arith, k)

pub no_argument_more : (commit : Commit) → length commit.argument ≡ 1048577 → FitsRecord commit → ⊥
no_argument_more commit size fits = let k = fits.argument in omega (arith, k, size)

pub are_keepable : AreKeepable two
are_keepable = record { few = lit≤ tt; each = All-from_recursion FitsRecord two (fits, (fits, tt)) }
  where
    fits : FitsRecord flip
    fits = record { role = lit< tt; argument = lit< tt }

pub no_more_commits : (commits : List Commit) → length commits ≡ 4096 → AreKeepable commits → ⊥
no_more_commits commits size are = let k = are.few in omega (arith, k, size)

-- WHAT IS KEPT
pub fronts : IsFront [] two × IsFront one two × IsFront two two × (IsFront two one → ⊥)
fronts = ((two, refl), (one, refl), ([], refl), shorter)
  where
    shorter : IsFront two one → ⊥
    shorter (more, e) = let clash : [] ≡ flip ∷ more = cc (e) in cc (clash)

-- where it keeps on it keeps all; where it doesn't, those before and the first of the others
pub keeps_on : KeepsOn {T = Bool} {E = Bool} (KeepsThese two) one two (Ok true) × KeepsOn {T = Bool} {E = Bool} (KeepsThese one) one two (Err true)
    × KeepsOn {T = Bool} {E = Bool} (KeepsThese two) one two (Err true)
keeps_on = (refl, (one, ([], refl), (one, refl), refl), (two, (one, refl), ([], refl), refl))

pub not_all_kept : KeepsOn {T = Bool} {E = Bool} (KeepsThese one) one two (Ok true) → ⊥
not_all_kept keeps = let clash : flip ∷ [] ≡ [] = cc (keeps) in cc (clash)

pub none_lost : KeepsOn {T = Bool} {E = Bool} (KeepsThese []) one two (Err true) → ⊥
none_lost (kept, (more, e), fewer, none) = let clash : [] ≡ flip ∷ more = sym none ∙ e in cc (clash)

-- One commit was told and two were made: one is kept, or both, and not none.
pub kept_between : KeepsBetween (KeepsThese one) (flips ∷ []) (flips ∷ flips ∷ []) × KeepsBetween (KeepsThese two) (flips ∷ []) (flips ∷ flips ∷ [])
kept_between = (
  record { commits = one; calls = flips ∷ []; keeps = refl; alike = (flip_is, tt); all_told = ([], refl); only_made = (flips ∷ [], refl) },
  record { commits = two; calls = flips ∷ flips ∷ []; keeps = refl; alike = (flip_is, (flip_is, tt)); all_told = (flips ∷ [], refl); only_made = ([], refl) },
)

pub told_is_kept : (made : List RoleCall) → KeepsBetween (KeepsThese []) (flips ∷ []) made → ⊥
told_is_kept made kept = by kept.calls (subst (λ cs. AreAlike IsCommit cs kept.calls) kept.keeps kept.alike) kept.all_told
  where
    by : (calls : List RoleCall) → AreAlike IsCommit [] calls → IsFront (flips ∷ []) calls → ⊥
    by [] alike (more, e) = let clash : [] ≡ flips ∷ more = e in cc (clash)
    by (c ∷ calls) alike front = alike

pub unmade_is_not_kept : KeepsBetween (KeepsThese two) [] (flips ∷ []) → ⊥
unmade_is_not_kept kept = by kept.calls (subst (λ cs. AreAlike IsCommit cs kept.calls) kept.keeps kept.alike) kept.only_made
  where
    by : (calls : List RoleCall) → AreAlike IsCommit two calls → IsFront calls (flips ∷ []) → ⊥
    by [] alike front = alike
    by (c ∷ []) alike front = alike.1
    by (c ∷ d ∷ calls) alike (more, e) = let clash : [] ≡ d ∷ (calls ++ more) = cc (e) in cc (clash)

-- AT A STOP
-- A server that made this commit before was stopped on a link on which nothing came.
abbrev pub IsStoppedWith : List Commit → Type 0
IsStoppedWith these =
    IsServed toy bool_program text_digest (last_turn 1) (KeepsBetween (KeepsThese these)) (begun_server flipped) [] [] [] Stopped (begun_server flipped)

pub stopped_with_it : IsStoppedWith one
stopped_with_it = (
  [],
  record { others = HearsEnd ∷ []; came = refl; go_on = tt; part = (0, lit≤ tt, lit≤ tt, refl) },
  inl refl,
  record { commits = one; calls = flips ∷ []; keeps = refl; alike = (flip_is, tt); all_told = ([], refl); only_made = ([], refl) },
)

-- The commit had been told, and is kept then.
pub not_without_it : IsStoppedWith [] → ⊥
not_without_it (heard, broken, leaves, kept) = by heard broken.others broken.came kept
  where
    by : (heard others : List Heard) → HearsEnd ∷ [] ≡ heard ++ others
        → KeepsBetween (KeepsThese []) (server_after toy bool_program text_digest (last_turn 1) (begun_server flipped) heard).shared.commits (flips ∷ []) → ⊥
    by [] others came kept = told_is_kept (flips ∷ []) kept
    by (m ∷ []) others came kept =
        let is : HearsEnd ≡ m = cc (came) in
        let Of : Heard → Type 0 =
        λ m. KeepsBetween (KeepsThese []) (server_after toy bool_program text_digest (last_turn 1) (begun_server flipped) (m ∷ [])).shared.commits (flips ∷ []) in
        told_is_kept (flips ∷ []) (subst Of (sym is) kept)
    by (m ∷ n ∷ more) others came kept = let clash : [] ≡ n ∷ (more ++ others) = cc (came) in cc (clash)

-- what is kept at the end of a message, of a link and of serving
pub kept_at_end : (Kept : Type 0) → Kept → StillKeeps {T = Bool} Kept (Ok true) × StillKeeps {T = Bool} Kept (Err link_stop.LinkFault) × KeepsAtEnd Kept Over × KeepsAtEnd Kept LinkFault
    × KeepsBehind Kept (serving_end.Served true)
kept_at_end Kept kept = (kept, kept, kept, kept, kept)

pub unless_stopped : StillKeeps {T = Bool} ⊥ (Err link_stop.Stopped) × KeepsAtEnd ⊥ Stopped × KeepsBehind ⊥ serving_end.Stopped
unless_stopped = (tt, tt, tt)

pub kept_otherwise : (StillKeeps {T = Bool} ⊥ (Ok true) → ⊥) × (KeepsAtEnd ⊥ Over → ⊥) × (KeepsAtEnd ⊥ LinkFault → ⊥) × (KeepsBehind ⊥ (serving_end.Served true) → ⊥)
kept_otherwise = ((λ k. k), (λ k. k), (λ k. k), (λ k. k))

-- CAUSES
-- a keeper's count of faults rose, and it says that it failed; or memory was wanting, and both stayed
pub may_have_failed : (before now : ℕ) (faulted : Bool) → Rose before now → MayHaveFailed before now faulted true × MayHaveFailed before before faulted faulted
may_have_failed before now faulted rose = (inr (rose, refl), inl (refl, refl))

pub failing_is_said : MayHaveFailed 0 1 false false → ⊥
failing_is_said (inl stayed) = let clash : 1 ≡ 0 = stayed.0 in omega (arith, clash)
failing_is_said (inr failed) = let clash : false ≡ true = failed.1 in cc (clash)

-- only where it doesn't keep, or serving is stopped
pub stays : HasStayed 3 3 false false
stays = (refl, refl)

pub causes : (before now : ℕ) → Rose before now → KeepCause {T = Bool} {E = Bool} before before true true (Ok true) × KeepCause {T = Bool} {E = Bool} before now false true (Err true)
    × StopCause {T = Bool} before before false false (Ok true) × StopCause {T = Bool} before before false false (Err link_stop.LinkFault)
    × StopCause {T = Bool} before now false true (Err link_stop.Stopped)
causes before now rose = ((refl, refl), inr (rose, refl), (refl, refl), (refl, refl), inr (rose, refl))

pub end_causes : (before now : ℕ) → Rose before now → EndKeeperCause before before false false Over × EndKeeperCause before before false false LinkFault × EndKeeperCause before now false true Stopped
    × KeeperCause before before false false (serving_end.Served true) × KeeperCause before now false true serving_end.Stopped
end_causes before now rose = ((refl, refl), (refl, refl), inr (rose, refl), (refl, refl), inr (rose, refl))

pub kept_without_fault : (KeepCause {T = Bool} {E = Bool} 0 1 false true (Ok true) → ⊥) × (StopCause {T = Bool} 0 1 false true (Ok true) → ⊥) × (EndKeeperCause 0 1 false true Over → ⊥)
    × (KeeperCause 0 1 false true (serving_end.Served false) → ⊥)
kept_without_fault = (no_rise, no_rise, no_rise, no_rise)
  where
    no_rise : HasStayed 0 1 false true → ⊥
    no_rise stayed = let clash : 1 ≡ 0 = stayed.0 in omega (arith, clash)
