-- What a read of a link notes.
use Rattle.std.specs.Prelude.{◌≡◌, ◌<◌, ℕ, List, [], ◌∷◌, ◌++◌, drop, Option, Some, option_map, Result, MatchResult}
use Rattle.std.specs.List.{AllByRecursion}
use Rattle.std.specs.Option.{ForSome}
use Rattle.lam_outside.specs.Moments.{Moment}

-- This read was added to the list, where it is still told. An object may cease to tell it, and never begins to.
abbrev pub AddsRead : (reads reads' : Option (List Moment)) → Moment → Type 0
AddsRead reads reads' moment = ForSome reads' (λ after. Some after ≡ option_map (λ before. before ++ moment ∷ []) reads)

-- A read that ended without a fault is noted, as it began; one that failed is not.
abbrev pub Notes : {E : Type 0} → (reads reads' : Option (List Moment)) → (left sent : Option (List ℕ)) → Result ℕ E → Type 0
Notes reads reads' left sent result = MatchResult result (λ n. AddsRead reads reads' (record { left = left; sent = sent })) (λ _. reads' ≡ reads)

-- These reads are told, those before them were, and at each one since then it stood so.
pub record StoodAtEach (Q : Moment → Type 0) (reads : Option (List Moment)) (after : List Moment) : Type 0 where
  pub before : List Moment
  pub more : List Moment
  pub told : reads ≡ Some before
  pub all : after ≡ before ++ more
  pub stood : AllByRecursion Q more

-- At each read since then it stood so, where the reads are told.
abbrev pub AtEachRead : (Moment → Type 0) → (reads reads' : Option (List Moment)) → Type 0
AtEachRead Q reads reads' = ForSome reads' (StoodAtEach Q reads)

-- Fewer than n of these bytes had been taken, from their front, and this had been sent, and no more.
abbrev pub WaitsWithin : ℕ → List ℕ → Option (List ℕ) → Moment → Type 0
WaitsWithin n bytes sent moment = (moment.sent ≡ sent) × ((taken : ℕ) × (taken < n) × (moment.left ≡ Some (drop taken bytes)))
