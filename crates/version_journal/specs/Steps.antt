-- Appends one after another, as their clause tells them, without a disk; and what a crash leaves at any moment since.
use Rattle.std.specs.Prelude.{◌≡◌, ℕ, suc, Bool, true, false, List, [], ◌∷◌, ◌++◌, map, if◌then◌else◌}
use Rattle.lam_outside.specs.Disks.{Moments}

-- An append: what was passed to it, the file at each moment of the call, and whether it answered Ok.
pub record Append (C : Type 0) : Type 0 where
  pub passed : C
  pub moments : Moments
  pub acknowledged : Bool

-- it made no device call, and didn't answer Ok
pub record IsIdle {C : Type 0} (a : Append C) : Type 0 where
  pub no_moments : a.moments ≡ []
  pub refused : a.acknowledged ≡ false

-- how many of them answered Ok
abbrev pub acknowledged_in : {C : Type 0} → List (Append C) → ℕ
acknowledged_in [] = 0
acknowledged_in (a ∷ others) = if a.acknowledged then suc (acknowledged_in others) else acknowledged_in others

abbrev pub passed_to : {C : Type 0} → List (Append C) → List C
passed_to appends = map (λ a. a.passed) appends

-- the moments of them all, those of the last one first
abbrev pub moments_in : {C : Type 0} → List (Append C) → Moments
moments_in [] = []
moments_in (a ∷ others) = moments_in others ++ a.moments

abbrev pub if_true : Bool → Type 0 → Type 0 → Type 0
if_true true A B = A
if_true false A B = B
