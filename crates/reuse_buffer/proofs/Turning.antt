-- Turns, and the places of the pieces that were pushed at them.
use Rattle.std.proofs.Common.{◌≡◌, ◌≢◌, inl, inr, ℕ, suc, ◌+◌, ◌-◌, ◌<◌, ◌≤◌, refl, sym, ap, subst, ◌∙◌, arith, le-leb, le-ltb, lt-ltb}
use Rattle.std.proofs.lemmas.Bool.{cases_lt, lt-leb}
use Rattle.reuse_buffer.specs.Index.{place_at, next_turn}

-- the two cases of a place
pub before_now : (count now turn : ℕ) → turn ≤ now → place_at count now turn ≡ now - turn
before_now count now turn h = rw (le-leb turn now h) refl

pub behind_now : (count now turn : ℕ) → now < turn → place_at count now turn ≡ (now + count) - turn
behind_now count now turn h = rw (lt-leb turn now h) refl

pub next_is : (count now : ℕ) → now + 1 < count → next_turn count now ≡ now + 1
next_is count now h = rw (lt-ltb (now + 1) count h) refl

pub next_again : (count now : ℕ) → count ≤ now + 1 → next_turn count now ≡ 0
next_again count now h = rw (le-ltb (now + 1) count h) refl

module _ (count now : ℕ) (within : now < count) where
  pub next_within : next_turn count now < count
  next_within =
      elim (cases_lt (now + 1) count) [
        | inl more ↦ subst (λ n. n < count) (sym (next_is count now more)) more
        | inr last ↦ subst (λ n. n < count) (sym (next_again count now last)) (omega (arith, within))
      ]

  -- any other piece goes one place further
  not_last : now + 1 < count → (turn : ℕ) → turn < count → turn ≢ now + 1 → place_at count (now + 1) turn ≡ suc (place_at count now turn)
  not_last more turn t other =
      elim (cases_lt now turn) [
        | inl behind ↦
            let further : now + 1 < turn = omega (arith, behind, other) in
            let same : (now + 1 + count) - turn ≡ suc ((now + count) - turn) = omega (arith, t) in
            behind_now count (now + 1) turn further ∙ same ∙ ap suc (sym (behind_now count now turn behind))
        | inr before ↦
            let sooner : turn ≤ now + 1 = omega (arith, before) in
            let same : (now + 1) - turn ≡ suc (now - turn) = omega (arith, before) in
            before_now count (now + 1) turn sooner ∙ same ∙ ap suc (sym (before_now count now turn before))
      ]

  from_last : count ≤ now + 1 → (turn : ℕ) → turn < count → turn ≢ 0 → place_at count 0 turn ≡ suc (place_at count now turn)
  from_last last turn t other =
      let some : 0 < turn = omega (arith, other) in
      let before : turn ≤ now = omega (arith, t, last) in
      let same : (0 + count) - turn ≡ suc (now - turn) = omega (arith, before, last, within) in
      behind_now count 0 turn some ∙ same ∙ ap suc (sym (before_now count now turn before))

  pub other_place : (turn : ℕ) → turn < count → turn ≢ next_turn count now → place_at count (next_turn count now) turn ≡ suc (place_at count now turn)
  other_place turn t other =
      elim (cases_lt (now + 1) count) [
        | inl more ↦
            let e = next_is count now more in
            ap (λ n. place_at count n turn) e ∙ not_last more turn t (λ same. other (same ∙ sym e))
        | inr last ↦
            let e = next_again count now last in
            ap (λ n. place_at count n turn) e ∙ from_last last turn t (λ same. other (same ∙ sym e))
      ]

  -- the piece that was pushed a whole round ago is at the last place
  pub oldest_place : suc (place_at count now (next_turn count now)) ≡ count
  oldest_place =
      elim (cases_lt (now + 1) count) [
        | inl more ↦
            let behind : now < now + 1 = omega arith in
            let same : suc ((now + count) - (now + 1)) ≡ count = omega (arith, within) in
            ap (λ n. suc (place_at count now n)) (next_is count now more) ∙ ap suc (behind_now count now (now + 1) behind) ∙ same
        | inr last ↦
            let before : 0 ≤ now = omega arith in
            let same : suc (now - 0) ≡ count = omega (arith, within, last) in
            ap (λ n. suc (place_at count now n)) (next_again count now last) ∙ ap suc (before_now count now 0 before) ∙ same
      ]

-- the last piece is at the place 0
pub last_place : (count turn : ℕ) → place_at count turn turn ≡ 0
last_place count turn = let same : turn - turn ≡ 0 = omega arith in before_now count turn turn (omega arith) ∙ same
