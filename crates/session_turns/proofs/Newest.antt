-- The newest version with a spelling, from behind.
use Rattle.std.proofs.Common.{◌≡◌, ℕ, zero, suc, ◌+◌, ◌<◌, List, [], ◌∷◌, length, drop, Some, None, bytes_eq, Bool, true, false, refl, sym, ap, ◌∙◌, arith}
use Rattle.core_terms.specs.Formats.{Hash}
use Rattle.core_terms.specs.Terms.{Program}
use Rattle.core_terms.specs.Values.{Value}
use Rattle.session_meaning.specs.Server.{newest_version, newer_version, state_spelling, version_at}

drop_at : (i : ℕ) (vs : List Value) → i < length vs → drop i vs ≡ version_at vs i ∷ drop (suc i) vs
drop_at i [] there = absurd (omega arith)
drop_at zero (v ∷ vs) there = refl
drop_at (suc i) (v ∷ vs) there = drop_at i vs (omega arith)

module _ (hash : Hash) (P : Program) (state : List ℕ) where
  -- what is found behind a place is found from the start on
  from_start : (i : ℕ) (vs : List Value) (j : ℕ) → newest_version hash P state (drop i vs) ≡ Some j → newest_version hash P state vs ≡ Some (i + j)
  from_start zero vs j h = h ∙ ap Some (omega arith)
  from_start (suc i) [] j h = absurd (cc (h))
  from_start (suc i) (v ∷ vs) j h = ap (λ o. newer_version o (bytes_eq (state_spelling hash P v) state)) (from_start i vs j h) ∙ ap Some (omega arith)

  pub none_left : (vs : List Value) (n : ℕ) → length vs ≡ n → newest_version hash P state (drop n vs) ≡ None
  none_left [] zero e = refl
  none_left [] (suc n) e = refl
  none_left (v ∷ vs) zero e = absurd (omega (arith, e))
  none_left (v ∷ vs) (suc n) e = none_left vs n (omega (arith, e))

  module _ (vs : List Value) (i : ℕ) (there : i < length vs) (none : newest_version hash P state (drop (suc i) vs) ≡ None)
      (same : Bool) (is : same ≡ bytes_eq (state_spelling hash P (version_at vs i)) state) where
    next : newest_version hash P state (drop i vs) ≡ newer_version None same
    next =
        ap (newest_version hash P state) (drop_at i vs there) ∙ ap (λ o. newer_version o (bytes_eq (state_spelling hash P (version_at vs i)) state)) none
        ∙ ap (λ b. newer_version None b) (sym is)

    pub passed : same ≡ false → newest_version hash P state (drop i vs) ≡ None
    passed e = next ∙ ap (λ b. newer_version None b) e

    pub found : same ≡ true → newest_version hash P state vs ≡ Some i
    found e = from_start i vs 0 (next ∙ ap (λ b. newer_version None b) e) ∙ ap Some (omega arith)
