-- The bound on nested calls never matters to code either, where it isn't below the fuel; and no code gives fuel back.
use Rattle.std.proofs.Common.{◌≡◌, ◌≤◌, ℕ, zero, suc, List, [], refl, ap, ◌∙◌, arith, le_refl}
use Rattle.core_terms.specs.Types.{Ty}
use Rattle.core_terms.specs.Values.{Value, Values}
use Rattle.core_terms.specs.Instructions.{Instruction}
use Rattle.core_terms.specs.Bodies.{Body, code_at}
use Rattle.ideal_meaning.specs.Run.{Run, Gives, Ends, Mode, fuel_of, with_fuel}
use Rattle.ideal_meaning.specs.Execution.{Coded, Ran, Stuck, then_code, then_coded, Held, tie, exec, call_code}
use Rattle.ideal_meaning.proofs.Nesting.{with_fuel_low}
use Rattle.ideal_meaning.proofs.RelatedCode.{related}

module _ (C W : Type 0) where
  -- what code leaves of the fuel is at most k
  abbrev pub Low : ℕ → Coded C W → Type 0
  Low k (Ran r) = fuel_of r ≤ k
  Low k Stuck = Unit {0}

  -- two runs are one, which leaves no more fuel than it was given; and so of code
  record SameRun (k : ℕ) (r q : Run C W Value) : Type 0 where
    same : r ≡ q
    low : fuel_of r ≤ k

  record Alike (k : ℕ) (c d : Coded C W) : Type 0 where
    same : c ≡ d
    low : Low k c

  lower : (m k : ℕ) (c : Coded C W) → m ≤ k → Low m c → Low k c
  lower m k (Ran r) l h = omega (arith, l, h)
  lower m k Stuck l h = tt

  low_then : (k : ℕ) (r : Run C W Value) (f : Value → ℕ → W → Coded C W) → fuel_of r ≤ k → ((v : Value) (m : ℕ) (w : W) → Low m (f v m w)) → Low k (then_code r f)
  low_then k (Gives v m w) f h on = lower m k (f v m w) h (on v m w)
  low_then k (Ends stop m w) f h on = h

  pub low_coded : (k : ℕ) (c : Coded C W) (f : Value → ℕ → W → Coded C W) → Low k c → ((v : Value) (m : ℕ) (w : W) → Low m (f v m w)) → Low k (then_coded c f)
  low_coded k (Ran r) f h on = low_then k r f h on
  low_coded k Stuck f h on = tt

  -- with at most so much fuel
  module _ (most : ℕ) where
    abbrev Runs : (ℕ → W → Run C W Value) → (ℕ → W → Run C W Value) → Type 0
    Runs r q = (k : ℕ) (w : W) → k ≤ most → SameRun k (r k w) (q k w)

    abbrev Codes : (ℕ → W → Coded C W) → (ℕ → W → Coded C W) → Type 0
    Codes c d = (k : ℕ) (w : W) → k ≤ most → Alike k (c k w) (d k w)

    then_alike : (k : ℕ) (r : Run C W Value) (f g : Value → ℕ → W → Coded C W) → k ≤ most → fuel_of r ≤ k → ((v : Value) → Codes (f v) (g v)) → Alike k (then_code r f) (then_code r g)
    then_alike k (Gives v m w) f g h l on = let j = on v m w (omega (arith, h, l)) in record { same = j.same; low = lower m k (f v m w) l j.low }
    then_alike k (Ends stop m w) f g h l on = record { same = refl; low = l }

    behind : (r q : ℕ → W → Run C W Value) (f g : Value → ℕ → W → Coded C W) → Runs r q → ((v : Value) → Codes (f v) (g v)) → Codes (λ k w. then_code (r k w) f) (λ k w. then_code (q k w) g)
    behind r q f g runs on k w h =
        let s = runs k w h in
        let j = then_alike k (r k w) f g h s.low on in
        record { same = j.same ∙ ap (λ r. then_code r g) s.same; low = j.low }

    coded_alike : (k : ℕ) (c : Coded C W) (f g : Value → ℕ → W → Coded C W) → k ≤ most → Low k c → ((v : Value) → Codes (f v) (g v)) → Alike k (then_coded c f) (then_coded c g)
    coded_alike k (Ran r) f g h l on = then_alike k r f g h l on
    coded_alike k Stuck f g h l on = record { same = refl; low = tt }

    behind_code : (c d : ℕ → W → Coded C W) (f g : Value → ℕ → W → Coded C W) → Codes c d → ((v : Value) → Codes (f v) (g v)) → Codes (λ k w. then_coded (c k w) f) (λ k w. then_coded (d k w) g)
    behind_code c d f g codes on k w h =
        let s = codes k w h in
        let j = coded_alike k (c k w) f g h s.low on in
        record { same = j.same ∙ ap (λ c. then_coded c g) s.same; low = j.low }

    execs : (B : Body) (mode : Mode C W) (c d : ℕ → Values → ℕ → W → Coded C W) → ((f : ℕ) (vs : Values) → Codes (c f vs) (d f vs)) → (is : List Instruction) (skip : ℕ) (env ops : List Held)
        → Codes (exec B mode c is skip env ops) (exec B mode d is skip env ops)
    execs B mode c d calls is skip env ops =
        related C W C W Runs Codes (λ v k w h. record { same = refl; low = le_refl k }) (λ trap k w h. record { same = refl; low = le_refl k }) (λ k w h. record { same = refl; low = tt })
        (λ v k w h. record { same = refl; low = le_refl k }) behind behind_code B mode mode (λ t v. refl)
        (λ t v k w h. record { same = refl; low = with_fuel_low C W k (mode.unauth t v w) }) c d calls is skip env ops

  module _ (B : Body) (mode : Mode C W) where
    -- no code gives fuel back, with any bound on nesting
    low_behind : (n : ℕ) → ((f : ℕ) (vs : Values) (k : ℕ) (w : W) → Low k (call_code B mode n f vs k w)) → (is : List Instruction) (skip : ℕ) (env ops : List Held) (k : ℕ) (w : W)
        → Low k (exec B mode (call_code B mode n) is skip env ops k w)
    low_behind n low is skip env ops k w =
        (execs k B mode (call_code B mode n) (call_code B mode n) (λ f vs i w l. record { same = refl; low = low f vs i w }) is skip env ops k w (le_refl k)).low

    low_call : (n f : ℕ) (vs : Values) (k : ℕ) (w : W) → Low k (call_code B mode n f vs k w)
    low_call zero f vs k w = le_refl k
    low_call (suc n) f vs zero w = le_refl 0
    low_call (suc n) f vs (suc k) w =
        lower k (suc k) (call_code B mode (suc n) f vs (suc k) w) (omega arith) (low_behind n (low_call n) (code_at B f).code 0 (tie (code_at B f).parameters vs) [] k w)

    pub low_exec : (n : ℕ) (is : List Instruction) (skip : ℕ) (env ops : List Held) (k : ℕ) (w : W) → Low k (exec B mode (call_code B mode n) is skip env ops k w)
    low_exec n is skip env ops k w = low_behind n (low_call n) is skip env ops k w

    given : (k : ℕ) (r : Run C W Value) → fuel_of r ≤ k → Alike k (Ran r) (Ran r)
    given k r h = record { same = refl; low = h }

    calls_alike : (n m f : ℕ) (vs : Values) (k : ℕ) (w : W) → k ≤ n → k ≤ m → Alike k (call_code B mode n f vs k w) (call_code B mode m f vs k w)
    calls_alike zero zero f vs k w h j = given k _ (le_refl k)
    calls_alike zero (suc m) f vs zero w h j = given 0 _ (le_refl 0)
    calls_alike zero (suc m) f vs (suc k) w h j = absurd (omega arith)
    calls_alike (suc n) zero f vs zero w h j = given 0 _ (le_refl 0)
    calls_alike (suc n) zero f vs (suc k) w h j = absurd (omega arith)
    calls_alike (suc n) (suc m) f vs zero w h j = given 0 _ (le_refl 0)
    calls_alike (suc n) (suc m) f vs (suc k) w h j =
        let r = execs k B mode (call_code B mode n) (call_code B mode m) (λ f vs i w l. calls_alike n m f vs i w (omega (arith, h, l)) (omega (arith, j, l))) (code_at B f).code 0
        (tie (code_at B f).parameters vs) [] k w (le_refl k) in
        record { same = r.same; low = lower k (suc k) (call_code B mode (suc n) f vs (suc k) w) (omega arith) r.low }

    -- any bound that isn't below the fuel gives the same run
    pub code_bound_enough : (n f : ℕ) (vs : Values) (k : ℕ) (w : W) → k ≤ n → call_code B mode n f vs k w ≡ call_code B mode k f vs k w
    code_bound_enough n f vs k w h = (calls_alike n k f vs k w h (le_refl k)).same
