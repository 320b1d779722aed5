-- What each call of the evaluator tells: the ideal run of a term, or of terms, by the rules of the ideal meaning.
use Rattle.std.specs.Prelude.{◌≡◌, ℕ, ◌≤◌, List, map, Result, Vec}
use Rattle.std.specs.declared.alloc.Global.{Global}
use Rattle.core_terms.specs.Values.{Value, Values, NoV, AndV}
use Rattle.core_terms.specs.Terms as tree
use Rattle.core_terms.specs.Terms.{Expression}
use Rattle.core_terms.specs.Programs.{meaning, types_of}
use Rattle.core_terms.specs.ProgramTrees.{arms_in_a_row, expression_of, function_of, in_a_row}
use Rattle.core_terms.specs.declared.term.Term.{Term}
use Rattle.ideal_meaning.specs.Ideal.{Opened, ideal_mode}
use Rattle.ideal_meaning.specs.Run.{Gives, then_run, choose, join, bool_in, tag_in, fields_in, call}
use Rattle.ideal_meaning.specs.Table.{eval, eval_all, eval_arm}
use Rattle.reference_run.specs.PlainValues.{plain_of, plains_of}
use Rattle.reference_run.specs.Telling.{Evaluation, Tells, pair_values, row_values}
use Rattle.reference_run.specs.declared.evaluator.Evaluator.{Evaluator}
use Rattle.reference_run.specs.declared.stop.Stop.{Stop}
use Rattle.reference_run.specs.declared.values.Plain.{Plain}

-- the program of the definitions
abbrev pub program_of : Evaluator → tree.Program
program_of e = meaning e.program.now

-- the evaluator has the functions of its program
abbrev pub IsWhole : Evaluator → Type 0
IsWhole e = map (function_of (types_of e.program.now)) e.functions.now ≡ (program_of e).functions

-- the expression of a term
abbrev pub expression : Evaluator → Term → Expression
expression e term = expression_of (types_of e.program.now) term

module _ (e : Evaluator) (env : Values) (nesting : ℕ) where
  -- the run of two terms
  abbrev pub eval_both : (x y : Expression) → ℕ → List Opened → Evaluation (Value × Value)
  eval_both x y k seen = then_run (eval (program_of e) nesting x env k seen) (λ u k seen.
      then_run (eval (program_of e) nesting y env k seen) (λ v k seen. Gives (u, v) k seen))

  -- the run of a term, and of a body with its value as the next local
  abbrev pub eval_let : (bound body : Expression) → ℕ → List Opened → Evaluation Value
  eval_let bound body k seen = then_run (eval (program_of e) nesting bound env k seen) (λ v k seen.
      eval (program_of e) nesting body (join env (AndV v NoV)) k seen)

  -- the run of a test, and of one of two terms
  abbrev pub eval_choice : (test first other : Expression) → ℕ → List Opened → Evaluation Value
  eval_choice test first other k seen = then_run (eval (program_of e) nesting test env k seen) (λ v k seen.
      choose (bool_in v) (eval (program_of e) nesting first) (eval (program_of e) nesting other) env k seen)

  -- the run of a subject, and of the arm of its constructor
  abbrev pub eval_match : Expression → tree.Arms → ℕ → List Opened → Evaluation Value
  eval_match subject arms k seen = then_run (eval (program_of e) nesting subject env k seen) (λ v k seen.
      eval_arm (program_of e) nesting arms (tag_in v) (join env (fields_in v)) k seen)

-- With fuel k the result tells this run, and leaves `left`; so do the runs below. Calls nest as deep as the fuel allows, or deeper.
module _ (e : Evaluator) where
  abbrev pub Evaluates : Term → List Plain → (k left : ℕ) → Result Plain Stop → Type 0
  Evaluates term locals k left result = IsWhole e → (nesting : ℕ) (seen : List Opened) → k ≤ nesting
      → Tells plain_of left result (eval (program_of e) nesting (expression e term) (plains_of locals) k seen)

  abbrev pub BothEvaluate : (x y : Term) → List Plain → (k left : ℕ) → Result (Plain × Plain) Stop → Type 0
  BothEvaluate x y locals k left result = IsWhole e → (nesting : ℕ) (seen : List Opened) → k ≤ nesting
      → Tells pair_values left result (eval_both e (plains_of locals) nesting (expression e x) (expression e y) k seen)

  abbrev pub RowEvaluates : List Term → List Plain → (k left : ℕ) → Result (Vec Plain Global) Stop → Type 0
  RowEvaluates terms locals k left result = IsWhole e → (nesting : ℕ) (seen : List Opened) → k ≤ nesting
      → Tells row_values left result (eval_all (program_of e) nesting (in_a_row (map (expression e) terms)) (plains_of locals) k seen)

  abbrev pub LetEvaluates : (bound body : Term) → List Plain → (k left : ℕ) → Result Plain Stop → Type 0
  LetEvaluates bound body locals k left result = IsWhole e → (nesting : ℕ) (seen : List Opened) → k ≤ nesting
      → Tells plain_of left result (eval_let e (plains_of locals) nesting (expression e bound) (expression e body) k seen)

  abbrev pub ChoiceEvaluates : (test first other : Term) → List Plain → (k left : ℕ) → Result Plain Stop → Type 0
  ChoiceEvaluates test first other locals k left result = IsWhole e → (nesting : ℕ) (seen : List Opened) → k ≤ nesting
      → Tells plain_of left result (eval_choice e (plains_of locals) nesting (expression e test) (expression e first) (expression e other) k seen)

  abbrev pub ArmEvaluates : (subject : Term) → List Term → List Plain → (k left : ℕ) → Result Plain Stop → Type 0
  ArmEvaluates subject arms locals k left result = IsWhole e → (nesting : ℕ) (seen : List Opened) → k ≤ nesting
      → Tells plain_of left result (eval_match e (plains_of locals) nesting (expression e subject) (arms_in_a_row (map (expression e) arms)) k seen)

  -- Whatever run the arguments tell, the result tells that run with the call behind it.
  abbrev pub CallEvaluates : (f : ℕ) → Result (Vec Plain Global) Stop → (k left : ℕ) → Result Plain Stop → Type 0
  CallEvaluates f arguments k left result = IsWhole e → (nesting : ℕ) (run : Evaluation Values) → k ≤ nesting → Tells row_values k arguments run
      → Tells plain_of left result (then_run run (call (program_of e) ideal_mode nesting f))
