-- What a contract sees of a ring.
use Rattle.std.specs.Prelude.{ℕ, List, take, refl}
use Rattle.std.specs.Coded.{Coded, code_by, coded×, coded_list, coded_ℕ}

-- the pieces that it holds, the last one first, and how many it holds at most
pub record Kept : Type 0 where
  pub pieces : List (List ℕ)
  pub size : ℕ

abbrev pub kept_as : List (List ℕ) → ℕ → Kept
kept_as pieces size = record { pieces = pieces; size = size }

-- A ring of this size onto which these pieces were pushed, the last one first: it holds the last `size` of them.
abbrev pub kept : ℕ → List (List ℕ) → Kept
kept size pushed = kept_as (take size pushed) size

abbrev pub kept_code : Coded Kept
kept_code = code_by (List (List ℕ) × ℕ) (coded× (coded_list (coded_list coded_ℕ)) coded_ℕ) (λ k. (k.pieces, k.size)) (λ p. kept_as p.0 p.1) (λ _. refl)
