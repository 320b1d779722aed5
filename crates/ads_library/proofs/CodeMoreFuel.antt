-- More fuel changes nothing of a run of code but where it was out.
use Rattle.std.proofs.Common.{◌≡◌, ℕ, zero, suc, ◌+◌, List, [], refl, sym, subst, arith}
use Rattle.core_terms.specs.Types.{Ty}
use Rattle.core_terms.specs.Values.{Value, Values}
use Rattle.core_terms.specs.Instructions.{Instruction}
use Rattle.core_terms.specs.Bodies.{Body, code_at}
use Rattle.ideal_meaning.specs.Run.{Traps, IsOut, Rejects, Run, Gives, Ends, Mode, Opening, Opens, Refuses, with_fuel}
use Rattle.ideal_meaning.specs.Execution.{Coded, Ran, Stuck, then_code, then_coded, Held, tie, exec, call_code}
use Rattle.ideal_meaning.specs.Called.{ran}
use Rattle.ideal_meaning.proofs.RelatedCode.{related}
use Rattle.ads_library.specs.MoreFuel.{IsWithMore}

module _ (C W : Type 0) (j : ℕ) where
  -- code with so much more fuel; what is out with less may go on
  abbrev WithMore : Coded C W → Coded C W → Type 0
  WithMore (Ran (Ends IsOut k w)) d = Unit {0}
  WithMore (Ran (Gives v k w)) d = d ≡ Ran (Gives v (k + j) w)
  WithMore (Ran (Ends (Traps trap) k w)) d = d ≡ Ran (Ends (Traps trap) (k + j) w)
  WithMore (Ran (Ends (Rejects cause) k w)) d = d ≡ Ran (Ends (Rejects cause) (k + j) w)
  WithMore Stuck d = d ≡ Stuck

  abbrev Runs : (ℕ → W → Run C W Value) → (ℕ → W → Run C W Value) → Type 0
  Runs r q = (k : ℕ) (w : W) → IsWithMore j (r k w) (q (k + j) w)

  abbrev Codes : (ℕ → W → Coded C W) → (ℕ → W → Coded C W) → Type 0
  Codes c d = (k : ℕ) (w : W) → WithMore (c k w) (d (k + j) w)

  then_more : (r q : Run C W Value) (f g : Value → ℕ → W → Coded C W) → IsWithMore j r q → ((v : Value) → Codes (f v) (g v)) → WithMore (then_code r f) (then_code q g)
  then_more (Gives v k w) q f g h on = subst (λ q. WithMore (f v k w) (then_code q g)) (sym h) (on v k w)
  then_more (Ends IsOut k w) q f g h on = tt
  then_more (Ends (Traps trap) k w) q f g h on = subst (λ q. then_code q g ≡ Ran (Ends (Traps trap) (k + j) w)) (sym h) refl
  then_more (Ends (Rejects cause) k w) q f g h on = subst (λ q. then_code q g ≡ Ran (Ends (Rejects cause) (k + j) w)) (sym h) refl

  coded_more : (c d : Coded C W) (f g : Value → ℕ → W → Coded C W) → WithMore c d → ((v : Value) → Codes (f v) (g v)) → WithMore (then_coded c f) (then_coded d g)
  coded_more (Ran (Gives v k w)) d f g h on = subst (λ d. WithMore (f v k w) (then_coded d g)) (sym h) (on v k w)
  coded_more (Ran (Ends IsOut k w)) d f g h on = tt
  coded_more (Ran (Ends (Traps trap) k w)) d f g h on = subst (λ d. then_coded d g ≡ Ran (Ends (Traps trap) (k + j) w)) (sym h) refl
  coded_more (Ran (Ends (Rejects cause) k w)) d f g h on = subst (λ d. then_coded d g ≡ Ran (Ends (Rejects cause) (k + j) w)) (sym h) refl
  coded_more Stuck d f g h on = subst (λ d. then_coded d g ≡ Stuck) (sym h) refl

  opened_more : (o : Opening C W) (k : ℕ) → IsWithMore j (with_fuel k o) (with_fuel (k + j) o)
  opened_more (Opens v w) k = refl
  opened_more (Refuses cause w) k = refl

  module _ (B : Body) (mode : Mode C W) where
    execs : (c d : ℕ → Values → ℕ → W → Coded C W) → ((f : ℕ) (vs : Values) → Codes (c f vs) (d f vs)) → (is : List Instruction) (skip : ℕ) (env ops : List Held)
        → Codes (exec B mode c is skip env ops) (exec B mode d is skip env ops)
    execs c d calls is skip env ops =
        related C W C W Runs Codes (λ v k w. refl) (λ trap k w. refl) (λ k w. refl) (λ v k w. refl) (λ r q f g runs on k w. then_more (r k w) (q (k + j) w) f g (runs k w) on)
        (λ c d f g codes on k w. coded_more (c k w) (d (k + j) w) f g (codes k w) on) B mode mode (λ t v. refl) (λ t v k w. opened_more (mode.unauth t v w) k) c d calls is skip env ops

    calls : (n f : ℕ) (vs : Values) → Codes (call_code B mode n f vs) (call_code B mode (n + j) f vs)
    calls zero f vs k w = tt
    calls (suc n) f vs zero w = tt
    calls (suc n) f vs (suc k) w =
        let e : suc n + j ≡ suc (n + j) = omega arith in
        let g : suc k + j ≡ suc (k + j) = omega arith in
        rw (e, g) (execs (call_code B mode n) (call_code B mode (n + j)) (calls n) (code_at B f).code 0 (tie (code_at B f).parameters vs) [] k w)

    as_run : (k : ℕ) (w : W) (c d : Coded C W) → WithMore c d → IsWithMore j (ran k w c) (ran (k + j) w d)
    as_run k w (Ran (Ends IsOut m v)) d h = tt
    as_run k w (Ran (Gives a m v)) d h = subst (λ d. ran (k + j) w d ≡ Gives a (m + j) v) (sym h) refl
    as_run k w (Ran (Ends (Traps trap) m v)) d h = subst (λ d. ran (k + j) w d ≡ Ends (Traps trap) (m + j) v) (sym h) refl
    as_run k w (Ran (Ends (Rejects cause) m v)) d h = subst (λ d. ran (k + j) w d ≡ Ends (Rejects cause) (m + j) v) (sym h) refl
    as_run k w Stuck d h = tt

    pub code_more : (f : ℕ) (args : Values) (k : ℕ) (w : W) → IsWithMore j (ran k w (call_code B mode k f args k w)) (ran (k + j) w (call_code B mode (k + j) f args (k + j) w))
    code_more f args k w = as_run k w (call_code B mode k f args k w) (call_code B mode (k + j) f args (k + j) w) (calls k f args k w)
