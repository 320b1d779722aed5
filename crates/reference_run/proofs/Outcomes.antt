-- What a call from outside tells.
use Rattle.std.proofs.Common.{◌≡◌, ℕ, [], map, None, Result, Ok, Err, refl, sym, ap, ◌∙◌, subst, le_refl, Vec}
use Rattle.std.specs.declared.alloc.Global.{Global}
use Rattle.core_terms.specs.Values.{Value, Values}
use Rattle.core_terms.specs.Terms as tree
use Rattle.core_terms.specs.Terms.{function_at}
use Rattle.core_terms.specs.TypingRules.{IsTypedAs}
use Rattle.core_terms.specs.Programs.{meaning, types_of}
use Rattle.core_terms.specs.ProgramTrees.{function_of}
use Rattle.core_terms.specs.declared.program.Program.{Program}
use Rattle.core_terms.specs.declared.outcome.Trap.{Trap}
use Rattle.core_terms.specs.declared.outcome.Outcome.TheVariants as told
use Rattle.core_terms.proofs.CodePrograms.{is_format, is_typed}
use Rattle.ideal_meaning.specs.Run.{Gives, fuel_of, call}
use Rattle.ideal_meaning.specs.Called.{call_as}
use Rattle.ideal_meaning.specs.Ideal as ideal
use Rattle.ideal_meaning.specs.Ideal.{ideal, ideal_mode, outcome}
use Rattle.ideal_meaning.specs.Told.{trap_told}
use Rattle.reference_run.specs.Evaluations.{CallEvaluates, IsWhole}
use Rattle.reference_run.specs.PlainValues.{plain_of}
use Rattle.reference_run.specs.Telling.{AreArguments, Evaluation, IsPlainOf, Tells, row_values}
use Rattle.reference_run.specs.declared.evaluator.Evaluator.{Evaluator}
use Rattle.reference_run.specs.declared.stop.Stop.{Stop}
use Rattle.reference_run.specs.declared.stop.Stop.TheVariants.{Trapped, Out}
use Rattle.reference_run.specs.declared.values.Plain.{Plain}
use Rattle.reference_run.proofs.Kept.{Held, Holds, bodies_hold}

-- of a written program the run of the bodies is the ideal run
written_is_ideal : (P : tree.Program) → P.code ≡ None → (f : ℕ) (vs : Values) (k : ℕ) → call P ideal_mode k f vs k [] ≡ ideal P f vs k
written_is_ideal P written f vs k = ap (λ o. call_as P o ideal_mode k f vs k []) (sym written)

-- the evaluator's call is the ideal run
pub called_ideally : (e : Evaluator) (p : Program) (f : ℕ) (arguments : Vec Plain Global) (k left : ℕ) (result : Result Plain Stop) → e.program.now ≡ p
    → map (function_of (types_of p)) e.functions.now ≡ (meaning p).functions
    → CallEvaluates e f (Ok arguments) k left result → (meaning p).code ≡ None
    → Tells plain_of left result (ideal (meaning p) f (row_values arguments) k)
called_ideally e p f arguments k left result is whole h written =
    let sound : IsWhole e = subst (λ p. map (function_of (types_of p)) e.functions.now ≡ (meaning p).functions) (sym is) whole in
    subst (λ r. Tells plain_of left result r) (written_is_ideal (meaning p) written f (row_values arguments) k)
    (subst (λ p. Tells plain_of left result (call (meaning p) ideal_mode k f (row_values arguments) k [])) is (h sound k (Gives (row_values arguments) k []) (le_refl k) ([], refl)))

-- the outcome and the fuel left of a run that gives a value, traps, or is out
abbrev pub EndsWith : ideal.Outcome → ℕ → Evaluation Value → Type 0
EndsWith o left run = (o ≡ outcome run) × (left ≡ fuel_of run)

pub done : (v : Plain) (left : ℕ) (run : Evaluation Value) → Tells plain_of left (Ok v) run → EndsWith (ideal.Done (plain_of v)) left run
done v left run h = (sym (ap outcome h.1), sym (ap fuel_of h.1))

pub trapped : (stop : Stop) (trap : Trap) (left : ℕ) (run : Evaluation Value) → stop ≡ Trapped trap → Tells plain_of left (Err stop) run
    → EndsWith (ideal.Trapped (trap_told trap)) left run
trapped stop trap left run e h =
    let t : Tells plain_of left (Err (Trapped trap)) run = subst (λ stop. Tells plain_of left (Err stop) run) e h in
    (sym (ap outcome t.1), sym (ap fuel_of t.1))

pub out : (stop : Stop) (left : ℕ) (run : Evaluation Value) → stop ≡ Out → Tells plain_of left (Err stop) run → EndsWith ideal.Out left run
out stop left run e h =
    let t : Tells plain_of left (Err Out) run = subst (λ stop. Tells plain_of left (Err stop) run) e h in
    (sym (ap outcome t.1), sym (ap fuel_of t.1))

-- a value that is told is one of the result's type, within the limits
pub plain_held : (p : Program) (f : ℕ) (vs : Values) (k left : ℕ) (v : Plain) → Tells plain_of left (Ok v) (ideal (meaning p) f vs k) → (meaning p).code ≡ None → AreArguments (meaning p) f vs
    → IsPlainOf (meaning p) (function_at (meaning p) f).result (told.Done v)
plain_held p f vs k left v h written arguments =
    let P = meaning p in
    let t = (function_at P f).result in
    let typed : IsTypedAs P None = subst (IsTypedAs P) written (is_typed p) in
    let bodies = bodies_hold P (is_format p) typed f vs k arguments.0 arguments.1 arguments.2 in
    let held : Held P (is_format p) t (plain_of v) = subst (Holds (Held P (is_format p) t)) (written_is_ideal P written f vs k ∙ h.1) bodies in
    (held.ideal, held.within, held.deep tt)
