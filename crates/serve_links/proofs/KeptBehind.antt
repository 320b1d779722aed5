-- What is kept behind a message that a core handled, and at an end: for answer, serve_link and serve_links.
use Rattle.std.proofs.Common.{◌≡◌, inl, inr, ℕ, Bool, List, true, false, Result, Err, is_err, sym, subst, ◌∙◌}
use Rattle.lam_outside.specs.Causes.{Rose}
use Rattle.core_terms.specs.Formats.{Hash}
use Rattle.session_meaning.specs.Server as meant
use Rattle.session_meaning.specs.Server.{Server}
use Rattle.session_turns.specs.Keepers.{HasStayed, KeepsBetween, KeepsOn, MayHaveFailed}
use Rattle.session_meaning.specs.Beginnings.{IsFront}
use Rattle.session_turns.specs.Rows.{AreAlike}
use Rattle.session_turns.specs.Sharing.{IsCommit}
use Rattle.session_turns.specs.declared.commit.Commit.{Commit}
use Rattle.serve_core.specs.Serving.{Serves}
use Rattle.serve_core.specs.declared.server.ServeCore.{ServeCore}
use Rattle.link_ends.specs.declared.end.ConnectionEnd.{ConnectionEnd}
use Rattle.link_ends.specs.declared.end.ConnectionEnd.TheVariants as connection
use Rattle.link_ends.specs.declared.link_stop.LinkStop.{LinkStop}
use Rattle.link_ends.specs.declared.link_stop.LinkStop.TheVariants as link_stop
use Rattle.serve_links.specs.Ends.{EndKeeperCause, KeepsAtEnd}
use Rattle.serve_links.specs.HistoriesInCode.{own_digest, program_served, step_of, turns_of}
use Rattle.serve_links.specs.Messages.{StopCause}
use Rattle.serve_links.proofs.Growing.{step_grows}
use Rattle.serve_links.proofs.KeptCommits.{codes_grow, kept_at_stop, kept_whole, same_commits}

-- A core served a server, and serves the one behind a message. Its commits now are these.
module _ (hash : Hash) {A G : Type 0} (core new : ServeCore A G) (server : Server) (m : meant.Heard) (now : List Commit) (are : now ≡ new.shared.commits.items)
    (old : Serves hash core server) (made : Serves hash new (step_of hash core server m).server) where
  grows : IsFront server.shared.commits (step_of hash core server m).server.shared.commits
  grows = step_grows hash (program_served core) (own_digest core) (turns_of core) server m

  made_now : AreAlike IsCommit now (step_of hash core server m).server.shared.commits
  made_now = subst (λ cs. AreAlike IsCommit cs (step_of hash core server m).server.shared.commits) (sym are) made.shares.commits

  pub front_now : IsFront core.shared.commits.items now
  front_now = codes_grow core.shared.commits.items now server.shared.commits (step_of hash core server m).server.shared.commits old.shares.commits made_now grows

  module _ (Keeps : List Commit → Type 0) {T E : Type 0} (result : Result T E) (on : KeepsOn Keeps core.shared.commits.items now result) where
    -- the keeper keeps them all
    pub all_now : is_err result ≡ false → Keeps new.shared.commits.items
    all_now well = subst Keeps are (kept_whole Keeps result core.shared.commits.items now well on)

    -- or some
    pub some_now : is_err result ≡ true → KeepsBetween Keeps server.shared.commits (step_of hash core server m).server.shared.commits
    some_now failed =
        kept_at_stop Keeps result core.shared.commits.items now server.shared.commits (step_of hash core server m).server.shared.commits failed old.shares.commits made_now grows on

-- no commit is made as an end is heard
pub end_same : (hash : Hash) {A G : Type 0} (core new : ServeCore A G) (server : Server) → Serves hash core server → Serves hash new (step_of hash core server meant.HearsEnd).server
    → new.shared.commits.items ≡ core.shared.commits.items
end_same hash core new server old made = same_commits new.shared.commits.items core.shared.commits.items server.shared.commits made.shares.commits old.shares.commits

pub kept_at_end : (Kept : Type 0) (end : ConnectionEnd) → Kept → KeepsAtEnd Kept end
kept_at_end Kept connection.Over kept = kept
kept_at_end Kept connection.LinkFault kept = kept
kept_at_end Kept connection.Stopped kept = tt

-- THE KEEPER'S FAULTS
pub stayed_at_end : (a b : ℕ) (x y : Bool) (end : ConnectionEnd) → HasStayed a b x y → EndKeeperCause a b x y end
stayed_at_end a b x y connection.Over stayed = stayed
stayed_at_end a b x y connection.LinkFault stayed = stayed
stayed_at_end a b x y connection.Stopped stayed = inl stayed

pub stayed_twice : (a b c : ℕ) (x y z : Bool) → HasStayed a b x y → HasStayed b c y z → HasStayed a c x z
stayed_twice a b c x y z first next = (next.0 ∙ first.0, next.1 ∙ first.1)

pub failed_then : (a b c : ℕ) (x y z : Bool) → HasStayed a b x y → MayHaveFailed b c y z → MayHaveFailed a c x z
failed_then a b c x y z first (inl stayed) = inl (stayed_twice a b c x y z first stayed)
failed_then a b c x y z first (inr failed) = inr (subst (λ n. Rose n c) first.0 failed.0, failed.1)

-- at a stop
pub stayed_at_fault : (a b : ℕ) (x y : Bool) (stop : LinkStop) → stop ≡ link_stop.LinkFault → StopCause {T = Bool} a b x y (Err stop) → HasStayed a b x y
stayed_at_fault a b x y stop is cause = let Of : LinkStop → Type 0 = λ stop. StopCause {T = Bool} a b x y (Err stop) in subst Of is cause

pub failed_at_stop : (a b : ℕ) (x y : Bool) (stop : LinkStop) → stop ≡ link_stop.Stopped → StopCause {T = Bool} a b x y (Err stop) → MayHaveFailed a b x y
failed_at_stop a b x y stop is cause = let Of : LinkStop → Type 0 = λ stop. StopCause {T = Bool} a b x y (Err stop) in subst Of is cause
