-- The relation of calls: by induction on the bound of nested calls.
use Rattle.std.proofs.Common.{◌≡◌, ◌⊎◌, inl, inr, ℕ, zero, suc, List, [], Option, Some, None, unwrap_or, slice_get, refl, arith}
use Rattle.core_terms.specs.Types.{Ty}
use Rattle.core_terms.specs.Formats.{Hash, IsFormat}
use Rattle.core_terms.specs.Values.{Value, Values, IsIdeal, AreIdeal, AuthWithinAll}
use Rattle.core_terms.specs.Terms.{Function, no_function, Program, function_at}
use Rattle.core_terms.specs.TypingRules.{HasType, IsWrittenWell}
use Rattle.core_terms.specs.Projection.{projection, projections, AllFit}
use Rattle.ideal_meaning.specs.Run.{Run, Gives, Ends, call}
use Rattle.ideal_meaning.specs.Ideal.{Opened, ideal_mode}
use Rattle.ideal_meaning.specs.PieceForms.{PieceForm, as_spelled}
use Rattle.ideal_meaning.specs.Checked.{Taking, Cause, checked_mode_as}
use Rattle.ideal_meaning.specs.Agreement.{FollowsIdeal, Parts}
use Rattle.ideal_meaning.proofs.Grows.{grows_call}
use Rattle.ideal_meaning.proofs.InHand.{IsHeld, AreHeld, held_inputs}
use Rattle.ideal_meaning.proofs.Relation.{InStep, Agree}
use Rattle.ideal_meaning.proofs.Opening.{IsFormOf, ReadsBackAs}
use Rattle.ideal_meaning.proofs.Simulation.{Both, sim}

-- the body of each function, also of one that isn't there, has its type
typed_at : (P : Program) → IsWrittenWell P → (f : ℕ) → HasType P (function_at P f).parameters (function_at P f).body (function_at P f).result
typed_at P typed f = by (slice_get P.functions f) refl
  where
    by : (o : Option Function) → slice_get P.functions f ≡ o → HasType P (unwrap_or o no_function).parameters (unwrap_or o no_function).body (unwrap_or o no_function).result
    by (Some g) e = typed f g e
    by None e = refl

-- before the first opening
pub at_start : (hash : Hash) (P : Program) (form : PieceForm) (Deep : Type 0) (began : Taking) → InStep hash P form Deep began [] began
at_start hash P form Deep began =
    record { honest = record { pieces = refl; place = omega arith; fit = tt }; lefts = refl; ideals = tt; coherent = λ c. c }

module _ (hash : Hash) (P : Program) (form : PieceForm) (is_form : IsFormOf hash P form) (format : IsFormat P.format) (typed : IsWrittenWell P)
    (reads_back : (t : Ty) (v : Value) → IsIdeal P.types t v → ReadsBackAs hash P form t v) (Deep : Type 0) (began : Taking) where
  -- calls with any bound on nesting, wherever the runs stand
  calls : (n f : ℕ) (vs : Values) (k : ℕ) (s : List Opened) (w : Taking) → AreHeld P Deep (function_at P f).parameters vs → InStep hash P form Deep began s w
      → Both hash P form format Deep began (function_at P f).result (call P ideal_mode n f vs k s) (call P (checked_mode_as hash P form) n f (projections hash P (function_at P f).parameters vs) k w)
  calls zero f vs k s w h y = inl (w, refl, y)
  calls (suc n) f vs zero s w h y = inl (w, refl, y)
  calls (suc n) f vs (suc k) s w h y =
      sim hash P form format Deep began is_form reads_back (call P ideal_mode n) (call P (checked_mode_as hash P form) n) (grows_call P n) (calls n)
      (function_at P f).body (function_at P f).parameters (function_at P f).result (typed_at P typed f) vs k s w h y

  -- a call from outside, on values within the limits
  pub calls_agree_written : (n f : ℕ) (args : Values) (k : ℕ) → AreIdeal P.types (function_at P f).parameters args → AllFit P (function_at P f).parameters args
      → (Deep → AuthWithinAll P.format.limit P.types (function_at P f).parameters args)
      → Agree hash P form Deep began (IsHeld P Deep (function_at P f).result) (projection hash P (function_at P f).result) (call P ideal_mode n f args k [])
      (call P (checked_mode_as hash P form) n f (projections hash P (function_at P f).parameters args) k began)
  calls_agree_written n f args k ideals fits deep =
      calls n f args k [] began (held_inputs P Deep (function_at P f).parameters args ideals fits deep) (at_start hash P form Deep began)

-- what agrees, as the relation says it
pub agreement_of : {A B : Type 0} (hash : Hash) (P : Program) (Deep : Type 0) (began : Taking) (Known : A → Type 0) (project : A → B) (ideal : Run ⊥ (List Opened) A) (checked : Run Cause Taking B)
    → Agree hash P (as_spelled hash P) Deep began Known project ideal checked → FollowsIdeal hash P project began ideal checked ⊎ Parts hash P began ideal checked
agreement_of hash P Deep began Known project (Gives a k s) checked (inl h) = inl (h.1.0, h.1.1, h.1.2.honest)
agreement_of hash P Deep began Known project (Ends stop k s) checked (inl h) = inl (h.0, h.1, h.2.honest)
agreement_of hash P Deep began Known project ideal checked (inr p) = inr p.parts
