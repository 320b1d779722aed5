-- What is left of bytes that were read ahead, behind those that are given.
use Rattle.std.proofs.Common.{◌≡◌, ℕ, ◌+◌, ◌-◌, ◌≤◌, List, [], take, drop, slice_range, Result, Ok, Err, OnErr, sym, ap, ◌∙◌, arith, drop-drop}
use Rattle.std.proofs.lemmas.List.{drop-take}
use Rattle.read_ahead.specs.Held.{held}
use Rattle.read_ahead.specs.declared.ahead.ReadAhead.{ReadAhead}

-- nothing is held where the end isn't behind the beginning
pub none_held : (w : ReadAhead) → w.end ≤ w.begin → held w ≡ []
none_held w all = ap (λ n. take n (drop w.begin w.bytes.items)) {y = 0} (omega (arith, all))

-- a fault comes where this is so
pub on_err : {A E : Type 0} (result : Result A E) {C : Type 0} → C → OnErr result C
on_err (Ok value) is = tt
on_err (Err fault) is = is

-- behind the first n bytes between two places stand those from n places on
pub behind : (xs : List ℕ) (a e n : ℕ) → a + n ≤ e → slice_range xs (a + n) e ≡ drop n (slice_range xs a e)
behind xs a e n within =
    let whole : n + (e - (a + n)) ≡ e - a = omega (arith, within) in
    ap (take (e - (a + n))) (sym (drop-drop n a xs))
    ∙ sym (drop-take n (e - (a + n)) (drop a xs))
    ∙ ap (λ k. drop n (take k (drop a xs))) whole
