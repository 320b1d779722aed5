-- The run of terms in a row, by the values so far and the terms that are left.
use Rattle.std.proofs.Common.{◌≡◌, ℕ, zero, suc, ◌+◌, ◌≤◌, List, [], ◌∷◌, ◌++◌, length, drop, refl, ap, ◌∙◌, arith}
use Rattle.core_terms.specs.Values.{Value, Values, NoV, AndV}
use Rattle.core_terms.specs.Terms.{Expression, NoE, AndE}
use Rattle.core_terms.specs.ProgramTrees.{in_a_row}
use Rattle.core_terms.specs.Terms as tree
use Rattle.ideal_meaning.specs.Run.{Gives, Ends, then_run, join, repeated}
use Rattle.ideal_meaning.specs.Ideal.{Opened}
use Rattle.ideal_meaning.specs.Table.{eval, eval_all}
use Rattle.reference_run.specs.PlainValues.{plain_of, plains_of}
use Rattle.reference_run.specs.Telling.{Evaluation}
use Rattle.reference_run.specs.declared.values.Plain.{Plain}

-- values joined
pub join_none : (vs : Values) → join vs NoV ≡ vs
join_none NoV = refl
join_none (AndV v vs) = ap (AndV v) (join_none vs)

pub join_one : (vs us : Values) (v : Value) → join vs (AndV v us) ≡ join (join vs (AndV v NoV)) us
join_one NoV us v = refl
join_one (AndV w vs) us v = ap (AndV w) (join_one vs us v)

pub joined : (vs ws : List Plain) → plains_of (vs ++ ws) ≡ join (plains_of vs) (plains_of ws)
joined [] ws = refl
joined (v ∷ vs) ws = ap (AndV (plain_of v)) (joined vs ws)

-- a value once more
pub one_more : (n : ℕ) (v : Value) → join (repeated n v) (AndV v NoV) ≡ repeated (n + 1) v
one_more n v =
    let e : suc n ≡ n + 1 = omega arith in
    next n ∙ ap (λ m. repeated m v) e
  where
    next : (n : ℕ) → join (repeated n v) (AndV v NoV) ≡ repeated (suc n) v
    next zero = refl
    next (suc n) = ap (AndV v) (next n)

-- the values of a run, with these before them
abbrev pub ahead : Values → Evaluation Values → Evaluation Values
ahead vs run = then_run run (λ us k seen. Gives (join vs us) k seen)

pub ahead_none : (run : Evaluation Values) → run ≡ ahead NoV run
ahead_none (Gives us k seen) = refl
ahead_none (Ends stop k seen) = refl

pushed : (vs : Values) (v : Value) (run : Evaluation Values) → ahead vs (then_run run (λ us k seen. Gives (AndV v us) k seen)) ≡ ahead (join vs (AndV v NoV)) run
pushed vs v (Gives us k seen) = ap (λ ws. Gives ws k seen) (join_one vs us v)
pushed vs v (Ends stop k seen) = refl

module _ (P : tree.Program) (nesting : ℕ) (env : Values) where
  abbrev rest : List Expression → ℕ → List Opened → Evaluation Values
  rest xs k seen = eval_all P nesting (in_a_row xs) env k seen

  -- what the run of the whole row is, where the run of its first term gives this value
  pub one_ahead : (vs : Values) (x : Expression) (xs : List Expression) (k : ℕ) (seen : List Opened) (v : Value) (m : ℕ) (after : List Opened)
      → eval P nesting x env k seen ≡ Gives v m after → ahead vs (rest (x ∷ xs) k seen) ≡ ahead (join vs (AndV v NoV)) (rest xs m after)
  one_ahead vs x xs k seen v m after e =
      ap (λ run. ahead vs (then_run run (λ v k seen. then_run (rest xs k seen) (λ us k seen. Gives (AndV v us) k seen)))) e ∙ pushed vs v (rest xs m after)

-- none is left
pub none_left : {A : Type 0} (xs : List A) (n : ℕ) → length xs ≤ n → drop n xs ≡ []
none_left [] zero h = refl
none_left [] (suc n) h = refl
none_left (x ∷ xs) zero h = absurd (omega (arith, h))
none_left (x ∷ xs) (suc n) h = let k : length xs ≤ n = omega (arith, h) in none_left xs n k
