-- How a run over the ideal meaning is followed on values of which only the form is known.
use Rattle.std.proofs.Common.{◌≡◌, ℕ, zero, suc, ◌+◌, ◌-◌, ◌^◌, ◌<◌, ◌≤◌, Bool, true, false, List, pos, ◌-ℤ◌, refl, ap, ◌∙◌, arith, lt-ltb, le-ltb}
use Rattle.core_terms.specs.Values.{Value, Values, int_fits}
use Rattle.core_terms.specs.Terms.{Program, function_at}
use Rattle.ideal_meaning.specs.Run.{Run, Gives, Ends, run, call}
use Rattle.ideal_meaning.specs.Ideal.{Opened, ideal_mode}

-- the run gives the value, and at least so much fuel is left
abbrev pub Leaves : Value → ℕ → Run ⊥ (List Opened) Value → Type 0
Leaves v m (Gives a k s) = (a ≡ v) × (m ≤ k)
Leaves v m (Ends stop k s) = ⊥

-- a case for each way that a test may go
pub by_test : {P : Type 0} (b : Bool) → (b ≡ true → P) → (b ≡ false → P) → P
by_test true first other = first refl
by_test false first other = other refl

-- a run that gives v is known, but for the fuel left and what it opened
pub gives : (v : Value) (m : ℕ) (r : Run ⊥ (List Opened) Value) → Leaves v m r → (k : ℕ) × (s : List Opened) × (r ≡ Gives v k s) × (m ≤ k)
gives v m (Gives a k s) h = (k, s, ap (λ (u : Value). Gives u k s) h.0, h.1)
gives v m (Ends stop k s) h = elim h [ ]

-- A call whose body makes at most c calls goes into the body: there is fuel for it and for m more, and so many calls may nest. (Only the
-- calls that are made are asked of the bound on nesting, so that calls one after another have the same bound.)
pub enter : (P : Program) (f : ℕ) (args : Values) (v : Value) (c m n k : ℕ) (s : List Opened) → suc c + m ≤ k → suc c ≤ n
    → ((n k : ℕ) → c + m ≤ k → c ≤ n → Leaves v m (run P ideal_mode (call P ideal_mode n) (function_at P f).body args k s))
    → Leaves v m (call P ideal_mode n f args k s)
enter P f args v c m n zero s h j go = absurd (omega (arith, h))
enter P f args v c m zero (suc k) s h j go = absurd (omega (arith, j))
enter P f args v c m (suc n) (suc k) s h j go = go n k (omega (arith, h)) (omega (arith, j))

-- ints that come up: a natural number below 2^63, and a difference that is no less than 0
pub nat_fits : (n : ℕ) → n < 2 ^ 63 → int_fits (pos n) ≡ true
nat_fits n h = lt-ltb n (2 ^ 63) h

pub difference : (a b : ℕ) → b ≤ a → pos a -ℤ pos b ≡ pos (a - b)
difference a zero h = ap pos (omega arith)
difference a (suc b) h = rw (le-ltb a (suc b) h)

pub one_less : (c : ℕ) → pos (suc c) -ℤ pos 1 ≡ pos c
one_less c = difference (suc c) 1 (omega arith) ∙ ap pos (omega arith)
