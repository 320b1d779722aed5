-- Calls of compiled programs.
use Rattle.std.proofs.Common.{◌≡◌, ◌≤◌, ℕ, zero, suc, List, [], ◌∷◌, length, slice_get, unwrap_or, refl, ap, arith}
use Rattle.core_terms.specs.Instructions.{Instruction}
use Rattle.core_terms.specs.Values.{Value}
use Rattle.core_terms.specs.Bodies.{no_function_code, code_at}
use Rattle.core_terms.specs.Terms.{Function, no_function, Program, function_at, coded, body_of}
use Rattle.ideal_meaning.specs.Called.{ran}
use Rattle.ideal_meaning.specs.Execution.{Coded, Ran, Stuck}
use Rattle.ideal_meaning.specs.CodeTypes.{Goes}

-- a function's signature is that of its code
pub coded_found : (P : Program) (codes : List (List Instruction)) → length codes ≡ length P.functions → (f : ℕ)
    → ((code_at (body_of P codes) f).parameters ≡ (function_at P f).parameters) × ((code_at (body_of P codes) f).result ≡ (function_at P f).result)
coded_found P codes e f = by P.functions codes e f
  where
    by : (gs : List Function) (cs : List (List Instruction)) → length cs ≡ length gs → (f : ℕ)
        → ((unwrap_or (slice_get (coded gs cs) f) no_function_code).parameters ≡ (unwrap_or (slice_get gs f) no_function).parameters)
        × ((unwrap_or (slice_get (coded gs cs) f) no_function_code).result ≡ (unwrap_or (slice_get gs f) no_function).result)
    by [] [] e f = (refl, refl)
    by (g ∷ gs) (c ∷ cs) e zero = (refl, refl)
    by (g ∷ gs) (c ∷ cs) e (suc f) = by gs cs (omega (arith, e)) f
    by [] (c ∷ cs) e f = absurd (omega (arith, e))
    by (g ∷ gs) [] e f = absurd (omega (arith, e))

-- what isn't stuck ran
pub not_stuck : {C W : Type 0} (Q : Value → Type 0) (c : Coded C W) (k : ℕ) (w : W) → Goes Q c → c ≡ Ran (ran k w c)
not_stuck Q (Ran r) k w h = refl
not_stuck Q Stuck k w h = elim h [ ]

-- as many functions with code as there are
pub as_many : (gs : List Function) (codes : List (List Instruction)) → length codes ≡ length gs → length (coded gs codes) ≡ length gs
as_many [] [] e = refl
as_many (g ∷ gs) (c ∷ codes) e = ap suc (as_many gs codes (omega (arith, e)))
as_many [] (c ∷ codes) e = refl
as_many (g ∷ gs) [] e = absurd (omega (arith, e))

pub no_more : (gs : List Function) (codes : List (List Instruction)) → length (coded gs codes) ≤ length gs
no_more [] codes = omega arith
no_more (g ∷ gs) [] = omega arith
no_more (g ∷ gs) (c ∷ codes) = let h = no_more gs codes in omega (arith, h)
