-- The row of 1,000 puts, by the law of `redblack`.
use Rattle.std.proofs.Common.{◌≡◌, ℕ, zero, suc, ◌^◌, ◌≤◌, ◌<◌, Bool, true, false, ℤ, pos, Option, Some, is_some, if◌then◌else◌, refl, ap, ◌∙◌, arith, lt-ltb}
use Rattle.core_terms.specs.Values.{Value, UnitV, IntV, int_fits}
use Rattle.ideal_meaning.specs.Ideal.{Done, ideal, outcome}
use Rattle.ideal_meaning.specs.Headline.{call_values}
use Rattle.ads_library.specs.Entries.{AllHaveInts}
use Rattle.ads_library.specs.Maps.{IsAfter, distinct_keys, last_value, answer}
use Rattle.ads_library.specs.RedBlackTree.{empty_role, get_role, put_role}
use Rattle.ads_library.specs.RedBlackProgram.{redblack}
use Rattle.ads_library.specs.ThousandPuts.{counted, FindsAmongThousand}
use Rattle.ads_library.proofs.RedBlackLaws.{red_black_keeps_map}

are_ints : (n : ℕ) → n ≤ 1000 → AllHaveInts (counted n)
are_ints zero h = tt
are_ints (suc n) h = ((lt-ltb (suc n) (2 ^ 63) (omega (arith, h)), lt-ltb (suc n) (2 ^ 63) (omega (arith, h))), are_ints n (omega (arith, h)))

few : (n : ℕ) → distinct_keys (counted n) ≤ n
few zero = omega arith
few (suc n) = by (is_some (last_value (counted n) (pos (suc n)))) (few n)
  where
    by : (b : Bool) → distinct_keys (counted n) ≤ n → (if b then distinct_keys (counted n) else suc (distinct_keys (counted n))) ≤ suc n
    by true h = omega (arith, h)
    by false h = omega (arith, h)

are_few : (n : ℕ) → n ≤ 1000 → distinct_keys (counted n) < 2 ^ 30
are_few n h = let b = few n in omega (arith, b, h)

found : (n key : ℕ) (o : Option ℤ) (state : Value) → n ≤ 1000 → key ≤ 1000 → IsAfter redblack empty_role put_role UnitV (counted n) state
    → last_value (counted n) (pos key) ≡ o → outcome (ideal redblack get_role (call_values state (IntV (pos key))) 1000) ≡ Done (answer o)
found n key o state h small after is =
    let fits : int_fits (pos key) ≡ true = lt-ltb key (2 ^ 63) (omega (arith, small)) in
    let g = red_black_keeps_map.map.get (counted n) state (are_ints n h) after (pos key) fits in
    g.1 (are_few n h) 1000 (omega arith) ∙ ap (λ (o : Option ℤ). Done (answer o)) is

pub finds_among_thousand : FindsAmongThousand
finds_among_thousand state after = found 1000 777 (Some (pos 777)) state (omega arith) (omega arith) after refl
