-- A call that gives a value with some fuel gives it with all that is more, and gives nothing else with less.
use Rattle.std.proofs.Common.{◌≡◌, ◌⊎◌, inl, inr, ℕ, ◌+◌, ◌-◌, ◌≤◌, List, [], refl, sym, ap, subst, ◌∙◌, arith}
use Rattle.core_terms.specs.Values.{Value, Values}
use Rattle.core_terms.specs.Terms.{Program}
use Rattle.ideal_meaning.specs.Run.{Traps, IsOut, Rejects, Run, Gives, Ends}
use Rattle.ideal_meaning.specs.Ideal.{Opened, ideal_mode, ideal, outcome, Outcome, Done, Out}
use Rattle.ads_library.specs.MoreFuel.{IsWithMore}
use Rattle.ads_library.specs.Calls.{GivesOnly, GivesWith, Computes}
use Rattle.ads_library.proofs.Stepping.{Leaves}
use Rattle.ads_library.proofs.MoreFuel.{more_fuel}

leaves_done : (v : Value) (m : ℕ) (r : Run ⊥ (List Opened) Value) → Leaves v m r → outcome r ≡ Done v
leaves_done v m (Gives a k s) h = ap Done h.0
leaves_done v m (Ends stop k s) h = elim h [ ]

-- more fuel
more_leaves : (v : Value) (m j : ℕ) (r s : Run ⊥ (List Opened) Value) → Leaves v m r → IsWithMore j r s → Leaves v m s
more_leaves v m j (Gives a k w) s h more = rw more (h.0, omega (arith, h.1))
more_leaves v m j (Ends stop k w) s h more = elim h [ ]

-- less fuel
abbrev IsDoneOrOut : Value → Outcome → Type 0
IsDoneOrOut v o = (o ≡ Done v) ⊎ (o ≡ Out)

less_ends : (v : Value) (m j : ℕ) (r s : Run ⊥ (List Opened) Value) → Leaves v m s → IsWithMore j r s → IsDoneOrOut v (outcome r)
less_ends v m j (Gives a k w) s h more = let g : Leaves v m (Gives a (k + j) w) = rw more at h in inl (ap Done g.0)
less_ends v m j (Ends IsOut k w) s h more = inr refl
less_ends v m j (Ends (Traps trap) k w) s h more = let g : ⊥ = rw more at h in absurd g
less_ends v m j (Ends (Rejects cause) k w) s h more = elim cause [ ]

module _ (P : Program) (f : ℕ) (args : Values) (v : Value) (m c : ℕ) (known : Leaves v m (ideal P f args c)) where
  -- with at least this fuel
  enough : (k : ℕ) → c ≤ k → Leaves v m (ideal P f args k)
  enough k h =
      let e : c + (k - c) ≡ k = omega (arith, h) in
      let more = more_fuel ⊥ (List Opened) P ideal_mode f args c (k - c) [] in
      subst (λ (i : ℕ). Leaves v m (ideal P f args i)) e (more_leaves v m (k - c) _ _ known more)

  pub gives_with : GivesWith P f args v c
  gives_with k h = leaves_done v m _ (enough k h)

  -- with any fuel
  pub gives_only : GivesOnly P f args v
  gives_only k =
      let e : c + k ≡ k + c = omega arith in
      let g : Leaves v m (ideal P f args (k + c)) = subst (λ (i : ℕ). Leaves v m (ideal P f args i)) e (enough (c + k) (omega arith)) in
      less_ends v m c _ _ g (more_fuel ⊥ (List Opened) P ideal_mode f args k c [])

  pub computes : Computes P f args v c
  computes = (gives_only, gives_with)

  -- whatever it is done with is this value
  pub same_value : (k : ℕ) (u : Value) → outcome (ideal P f args k) ≡ Done u → u ≡ v
  same_value k u e = by (gives_only k)
    where
      by : IsDoneOrOut v (outcome (ideal P f args k)) → u ≡ v
      by (inl d) = let g : Done u ≡ Done v = sym e ∙ d in cc
      by (inr o) = let g : Done u ≡ Out = sym e ∙ o in absurd (cc)
