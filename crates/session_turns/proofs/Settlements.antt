-- How the end of a run is settled, by its tests.
use Rattle.std.proofs.Common.{◌≡◌, ℕ, suc, List, length, Option, Some, None, Bool, true, false, nat_eq, eqb-true, refl, sym, subst}
use Rattle.core_terms.specs.Formats.{Hash}
use Rattle.core_terms.specs.Terms.{Program}
use Rattle.core_terms.specs.Values.{Value}
use Rattle.ideal_meaning.specs.Frames.{Frame}
use Rattle.session_meaning.specs.Calls.{RoleCall}
use Rattle.session_meaning.specs.Server as meant
use Rattle.value_store.specs.Nodes.{Node}
use Rattle.value_store.specs.declared.node.Ref.{Ref}
use Rattle.session_turns.specs.Settling.{IsMade, IsSettled}
use Rattle.session_turns.specs.Sharing.{Shares}
use Rattle.session_turns.specs.declared.settling.Settled.{Settled}
use Rattle.session_turns.specs.declared.settling.Settled.TheVariants.{Proved, Stale}
use Rattle.session_turns.specs.declared.shared.Shared.{Shared}

-- the test of two numbers that aren't the same
pub unequal : (a b : ℕ) → (a ≡ b → ⊥) → nat_eq a b ≡ false
unequal a b other = by (nat_eq a b) refl
  where
    by : (t : Bool) → nat_eq a b ≡ t → t ≡ false
    by false e = refl
    by true e = absurd (other (eqb-true a b e))

-- what `settle` promises
abbrev pub SettlesTo : Hash → Program → Shared → (number : ℕ) → meant.Session → List Frame → Settled → meant.Turned → Type 0
SettlesTo hash P new number s frames settled t = Shares hash P new t.shared × IsSettled number s frames settled t

module _ (hash : Hash) (P : Program) (new : Shared) (number : ℕ) (s : meant.Session) (call : RoleCall) (frames : List Frame) (shared : meant.Shared) where
  abbrev turned : Bool → Option Value → meant.Turned
  turned fits made = meant.frames_turn hash P fits made number s call frames shared

  pub stale : (nodes : List Node) (r : Ref) (made : Option Value) (state : List ℕ) → IsMade hash P nodes (Some r) made → state ≡ meant.last_spelling hash P shared.versions
      → nat_eq (suc s.version) (length shared.versions) ≡ false → meant.fits_message frames ≡ true → Shares hash P new shared
      → SettlesTo hash P new number s frames (Stale state) (turned (meant.fits_message frames) made)
  stale nodes r None state m is last e h = elim m [ ]
  stale nodes r (Some v) state m is last e h =
      subst (λ fits. SettlesTo hash P new number s frames (Stale state) (turned fits (Some v))) (sym e)
      (subst (λ b. SettlesTo hash P new number s frames (Stale state) (meant.commit_turn hash P b number s call frames v shared)) (sym last)
      (subst (λ bytes. SettlesTo hash P new number s frames (Stale bytes) (meant.commit_turn hash P false number s call frames v shared)) (sym is) (h, (refl, refl))))

  pub moved : (nodes : List Node) (r : Ref) (made : Option Value) (version : ℕ) → IsMade hash P nodes (Some r) made → version ≡ length shared.versions
      → nat_eq (suc s.version) (length shared.versions) ≡ true → meant.fits_message frames ≡ true
      → ((v : Value) → IsMade hash P nodes (Some r) (Some v) → Shares hash P new (meant.with_commit call v shared))
      → SettlesTo hash P new number s frames (Proved version) (turned (meant.fits_message frames) made)
  moved nodes r None version m is last e h = elim m [ ]
  moved nodes r (Some v) version m is last e h =
      subst (λ fits. SettlesTo hash P new number s frames (Proved version) (turned fits (Some v))) (sym e)
      (subst (λ b. SettlesTo hash P new number s frames (Proved version) (meant.commit_turn hash P b number s call frames v shared)) (sym last)
      (subst (λ j. SettlesTo hash P new number s frames (Proved j) (meant.commit_turn hash P true number s call frames v shared)) (sym is) (h v m, (refl, refl))))
