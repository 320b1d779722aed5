-- What is told of a term, from what is told of its parts and of what goes on behind them.
use Rattle.std.proofs.Common.{◌≡◌, ℕ, List, map, Result, sym, ap, subst, ◌∙◌, Vec}
use Rattle.std.specs.declared.alloc.Global.{Global}
use Rattle.core_terms.specs.Values.{Value, Values}
use Rattle.core_terms.specs.Terms.{Expression}
use Rattle.core_terms.specs.ProgramTrees.{in_a_row}
use Rattle.core_terms.specs.declared.term.Term.{Term}
use Rattle.ideal_meaning.specs.Run.{then_run}
use Rattle.ideal_meaning.specs.Ideal.{Opened}
use Rattle.ideal_meaning.specs.Table.{eval, eval_all}
use Rattle.reference_run.specs.Evaluations.{eval_both, expression, program_of}
use Rattle.reference_run.specs.PlainValues.{plain_of}
use Rattle.reference_run.specs.Telling.{Evaluation, TellsBehind, Tells, pair_values, row_values}
use Rattle.reference_run.specs.declared.evaluator.Evaluator.{Evaluator}
use Rattle.reference_run.specs.declared.stop.Stop.{Stop}
use Rattle.reference_run.specs.declared.values.Plain.{Plain}
use Rattle.reference_run.proofs.Ended.{pair_then}

module _ (e : Evaluator) (env : Values) (nesting k m : ℕ) (seen : List Opened) where
  abbrev run_of : Expression → Evaluation Value
  run_of E = eval (program_of e) nesting E env k seen

  -- what is told of an expression is told of the term that stands for it
  pub as_term : (result : Result Plain Stop) (term : Term) (E : Expression) → expression e term ≡ E → Tells plain_of m result (run_of E) → Tells plain_of m result (run_of (expression e term))
  as_term result term E is h = subst (λ E. Tells plain_of m result (run_of E)) (sym is) h

  -- a term of one part, two, or several
  pub one_part : (operand result : Result Plain Stop) (x y term : Term) (E : Expression) (go : Value → ℕ → List Opened → Evaluation Value)
      → x ≡ y → expression e term ≡ E → TellsBehind plain_of go operand result → then_run (run_of (expression e y)) go ≡ run_of E
      → Tells plain_of m operand (run_of (expression e x)) → Tells plain_of m result (run_of (expression e term))
  one_part operand result x y term E go same is on unfolds h =
      as_term result term E is (subst (λ run. Tells plain_of m result run) (ap (λ x. then_run (run_of (expression e x)) go) same ∙ unfolds) (on m (run_of (expression e x)) h))

  pub two_parts : (operands : Result (Plain × Plain) Stop) (result : Result Plain Stop) (x x' y y' term : Term) (E : Expression) (go : Value × Value → ℕ → List Opened → Evaluation Value)
      → x ≡ x' → y ≡ y' → expression e term ≡ E → TellsBehind pair_values go operands result
      → then_run (run_of (expression e x')) (λ u k seen. then_run (eval (program_of e) nesting (expression e y') env k seen) (λ v k seen. go (u, v) k seen)) ≡ run_of E
      → Tells pair_values m operands (eval_both e env nesting (expression e x) (expression e y) k seen)
      → Tells plain_of m result (run_of (expression e term))
  two_parts operands result x x' y y' term E go first second is on unfolds h =
      as_term result term E is (subst (λ run. Tells plain_of m result run)
      (pair_then (run_of (expression e x)) (λ k seen. eval (program_of e) nesting (expression e y) env k seen) go
      ∙ ap (λ x. then_run (run_of (expression e x)) (λ u k seen. then_run (eval (program_of e) nesting (expression e y) env k seen) (λ v k seen. go (u, v) k seen))) first
      ∙ ap (λ y. then_run (run_of (expression e x')) (λ u k seen. then_run (eval (program_of e) nesting (expression e y) env k seen) (λ v k seen. go (u, v) k seen))) second
      ∙ unfolds)
      (on m (eval_both e env nesting (expression e x) (expression e y) k seen) h))

  pub row_parts : (operands : Result (Vec Plain Global) Stop) (result : Result Plain Stop) (xs ys : List Term) (term : Term) (E : Expression) (go : Values → ℕ → List Opened → Evaluation Value)
      → xs ≡ ys → expression e term ≡ E → TellsBehind row_values go operands result
      → then_run (eval_all (program_of e) nesting (in_a_row (map (expression e) ys)) env k seen) go ≡ run_of E
      → Tells row_values m operands (eval_all (program_of e) nesting (in_a_row (map (expression e) xs)) env k seen)
      → Tells plain_of m result (run_of (expression e term))
  row_parts operands result xs ys term E go same is on unfolds h =
      as_term result term E is (subst (λ run. Tells plain_of m result run)
      (ap (λ xs. then_run (eval_all (program_of e) nesting (in_a_row (map (expression e) xs)) env k seen) go) same ∙ unfolds)
      (on m (eval_all (program_of e) nesting (in_a_row (map (expression e) xs)) env k seen) h))
