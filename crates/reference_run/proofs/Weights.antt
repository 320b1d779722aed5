-- What a unit of fuel weighs against terms: more than the body of any function.
use denote.Param.Weighed.{at_most, most}
use Rattle.std.proofs.Common.{◌≡◌, ℕ, suc, ◌+◌, ◌*◌, ◌<◌, ◌≤◌, List, length, slice_get, Some, subst, arith}
use Rattle.std.proofs.Math.Nat.{mul-le-mul_right, suc-mul}
use Rattle.std.proofs.lemmas.Option.{get_or_from_slice_get, slice_get_within}
use Rattle.core_terms.specs.declared.term.Function.{Function}
use Rattle.core_terms.specs.declared.term.Term.TheViews.{size-Term}

abbrev pub body_size : Function → ℕ
body_size f = size-Term f.body

unfoldable pub weight : List Function → ℕ
weight functions = 4 * most body_size functions + 4

-- less fuel weighs no more
pub less_fuel : (functions : List Function) (m k : ℕ) → m ≤ k → m * weight functions ≤ k * weight functions
less_fuel functions m k h = mul-le-mul_right (weight functions) h

-- the body of a function and the fuel that is left weigh less than the fuel before the call
pub next_call : (functions : List Function) (m k i : ℕ) (f : Function) → suc m ≡ k → slice_get functions i ≡ Some f
    → m * weight functions + 4 * size-Term f.body < k * weight functions + 1
unfolding weight
next_call functions m k i f e there =
    let w = weight functions in
    let inside : i < length functions = slice_get_within functions i f there in
    let least : body_size f ≤ most body_size functions =
    subst (λ g. body_size g ≤ most body_size functions) (get_or_from_slice_get functions i f f there) (at_most body_size functions i f inside) in
    let one : suc m * w ≡ m * w + w = suc-mul m w in
    subst (λ (k : ℕ). m * w + 4 * body_size f < k * w + 1) e (omega (arith, one, least))
