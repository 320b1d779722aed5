-- What is left decreases: the fuel, and with the same fuel the term. A call's body is smaller than what one unit of fuel weighs.
use denote.Param.Weighed.{most}
use Rattle.std.proofs.Common.{◌≡◌, ◌≤◌, ◌+◌, ◌*◌, ℕ, List, max, drop, map}
use Rattle.core_terms.specs.ProgramTrees.{in_a_row}
use Rattle.core_terms.specs.declared.term.Term.TheViews.{size-Term}
use Rattle.ideal_meaning.specs.Ideal.{Opened}
use Rattle.ideal_meaning.specs.Table.{eval_all}
use Rattle.reference_run.specs.PlainValues.{plains_of}
use Rattle.reference_run.specs.Evaluations.{IsWhole, expression, program_of}
use Rattle.reference_run.proofs.Rows.{ahead}
use Rattle.reference_run.proofs.Weights.{weight}
use Rattle.reference_run.proofs.evaluator.Evaluator.+terms.Given as goal

-- the run of the row is that of the terms left, with the values so far before it
abbrev pub invariant-row-loop-term : goal.invariant-row-loop-term
invariant-row-loop-term l =
    (l.fuel ≤ l.fn.fuel) × (IsWhole l.self → (nesting : ℕ) (seen : List Opened) → l.fn.fuel ≤ nesting → (after : List Opened)
    × (eval_all (program_of l.self) nesting (in_a_row (map (expression l.self) l.terms)) (plains_of l.locals) l.fn.fuel seen
    ≡ ahead (plains_of l.values.items)
    (eval_all (program_of l.self) nesting (in_a_row (map (expression l.self) (drop l.term-index l.terms))) (plains_of l.locals) l.fuel after)))

abbrev pub decreases-eval : goal.decreases-eval
decreases-eval l = l.fuel.now * weight l.self.now.functions.now + 4 * goal.size-eval l

abbrev pub decreases-both : goal.decreases-both
decreases-both l = l.fuel.now * weight l.self.now.functions.now + (4 * max (size-Term l.x.now) (size-Term l.y.now) + 1)

abbrev pub decreases-row : goal.decreases-row
decreases-row l = l.fuel.now * weight l.self.now.functions.now + (4 * most size-Term l.terms.now + 1)

abbrev pub decreases-bound_in : goal.decreases-bound_in
decreases-bound_in l = l.fuel.now * weight l.self.now.functions.now + (4 * max (size-Term l.bound.now) (size-Term l.body.now) + 1)

abbrev pub decreases-choice : goal.decreases-choice
decreases-choice l = l.fuel.now * weight l.self.now.functions.now + (4 * max (size-Term l.test.now) (max (size-Term l.first.now) (size-Term l.other.now)) + 1)

abbrev pub decreases-arm : goal.decreases-arm
decreases-arm l = l.fuel.now * weight l.self.now.functions.now + (4 * max (size-Term l.subject.now) (most size-Term l.arms.now) + 1)

abbrev pub decreases-call : goal.decreases-call
decreases-call l = l.fuel.now * weight l.self.now.functions.now + 1
