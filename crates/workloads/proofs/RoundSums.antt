-- One round of a workload, and one more of many.
use Rattle.std.proofs.Common.{◌≡◌, ◌∙◌, ◌<◌, ◌≤◌, ◌-◌, ◌^◌, ℕ, ℤ, zero, suc, pos, sym, ap, arith, of_z, to_z, w64}
use Rattle.std.proofs.lemmas.Int.{to_z-of_z}
use lib.Signed.{mag}
use Rattle.core_terms.specs.Formats.{Hash}
use Rattle.core_terms.specs.Terms.{Program}
use Rattle.core_terms.specs.Values.{IntV, PairV, Value}
use Rattle.workloads.specs.Workloads.{add_call, after_rounds, behind_round, key_in, no_calls, outcome_of, state_after, state_behind, tally_after, value_in}
use Rattle.workloads.specs.declared.tally.Tally.{Tally}
use Rattle.workloads.specs.declared.workload.Workload.{Workload}

-- an int of 64 bits is what it is passed as
pub kept : (z : ℤ) → mag z < 2 ^ 63 → to_z w64 (of_z w64 z) ≡ z
kept z small = to_z-of_z w64 z (record { sfits = small })

module _ (hash : Hash) (P : Program) (w : Workload) where
  -- a round with this key and this value
  abbrev state_of : (key value : ℤ) → Value → Value
  state_of key value s = state_behind s (outcome_of P w.put.0 s (PairV (IntV key) (IntV value)))

  abbrev sums_of : (key value : ℤ) → Value → Tally → Tally
  sums_of key value s t =
      add_call hash P w.kept (add_call hash P w.kept t w.put.0 s (PairV (IntV key) (IntV value))) w.get.0 (state_of key value s) (IntV key)

  module _ (x : ℕ) (key value : ℤ) (key_is : key ≡ pos (key_in w.keys x)) (value_is : value ≡ pos (value_in x)) (s : Value) where
    -- is that of the generator's numbers
    pub same_state : state_of key value s ≡ state_after hash P w x s
    same_state = ap (λ k. state_of k value s) key_is ∙ ap (λ v. state_of (pos (key_in w.keys x)) v s) value_is

    pub same_sums : (t behind_put behind_get : Tally) → behind_put ≡ add_call hash P w.kept t w.put.0 s (PairV (IntV key) (IntV value))
        → behind_get ≡ add_call hash P w.kept behind_put w.get.0 (state_of key value s) (IntV key) → behind_get ≡ tally_after hash P w x s t
    same_sums t behind_put behind_get put get =
        get ∙ ap (λ u. add_call hash P w.kept u w.get.0 (state_of key value s) (IntV key)) put
        ∙ ap (λ k. sums_of k value s t) key_is ∙ ap (λ v. sums_of (pos (key_in w.keys x)) v s t) value_is

  -- from the state `first`, with so many rounds to run, i are run, and the generator's state, the state and the sums are these
  pub record AreRun (rounds seed : ℕ) (first : Value) (i x : ℕ) (s : Value) (t : Tally) : Type 0 where
    pub is : after_rounds hash P w rounds seed first no_calls ≡ after_rounds hash P w (rounds - i) x s t

  pub none_run : (rounds seed : ℕ) (s : Value) (x : ℕ) (t : Tally) → x ≡ seed → t ≡ no_calls → AreRun rounds seed s 0 x s t
  none_run rounds seed s x t same none =
      let whole : rounds ≡ rounds - 0 = omega (arith) in record {
        is = ap (λ n. after_rounds hash P w n seed s no_calls) whole
            ∙ ap (λ y. after_rounds hash P w (rounds - 0) y s no_calls) (sym same) ∙ ap (λ u. after_rounds hash P w (rounds - 0) x s u) (sym none);
      }

  -- one round more
  pub one_run : (rounds seed : ℕ) (first : Value) (i x : ℕ) (s : Value) (t : Tally) → AreRun rounds seed first i x s t → i < rounds
      → (j y : ℕ) (u : Tally) → j ≡ suc i → y ≡ behind_round x → u ≡ tally_after hash P w x s t → AreRun rounds seed first j y (state_after hash P w x s) u
  one_run rounds seed first i x s t run below j y u more next sums =
      let left : rounds - i ≡ suc (rounds - j) = omega (arith, below, more) in record {
        is = run.is ∙ ap (λ n. after_rounds hash P w n x s t) left
            ∙ ap (λ y. after_rounds hash P w (rounds - j) y (state_after hash P w x s) (tally_after hash P w x s t)) (sym next)
            ∙ ap (λ u. after_rounds hash P w (rounds - j) y (state_after hash P w x s) u) (sym sums);
      }

  -- all are run
  all_run : (rounds seed : ℕ) (first : Value) (i x : ℕ) (s : Value) (t : Tally) → AreRun rounds seed first i x s t → rounds ≤ i
      → after_rounds hash P w rounds seed first no_calls ≡ (t, s)
  all_run rounds seed first i x s t run within =
      let none : rounds - i ≡ zero = omega (arith, within) in
      run.is ∙ ap (λ n. after_rounds hash P w n x s t) none

  pub last_sums : (rounds seed : ℕ) (first : Value) (i x : ℕ) (s : Value) (t : Tally) → AreRun rounds seed first i x s t → rounds ≤ i
      → t ≡ (after_rounds hash P w rounds seed first no_calls).0
  last_sums rounds seed first i x s t run within = sym (ap (λ (after : Tally × Value). after.0) (all_run rounds seed first i x s t run within))

  pub last_state : (rounds seed : ℕ) (first : Value) (i x : ℕ) (s : Value) (t : Tally) → AreRun rounds seed first i x s t → rounds ≤ i
      → s ≡ (after_rounds hash P w rounds seed first no_calls).1
  last_state rounds seed first i x s t run within = sym (ap (λ (after : Tally × Value). after.1) (all_run rounds seed first i x s t run within))
