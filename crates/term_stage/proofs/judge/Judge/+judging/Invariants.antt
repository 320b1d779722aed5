-- The term decreases; a term is looked at by fits_at, then fits, then is_term, and its parts after it.
use denote.Param.Weighed.{most}
use Rattle.std.proofs.Common.{◌+◌, ◌*◌, ℕ, drop, map, max}
use Rattle.core_terms.specs.Programs.{types_in}
use Rattle.core_terms.specs.ProgramTrees.{arms_in_a_row, expression_of, in_a_row, types_at}
use Rattle.core_terms.specs.TypeTables.{type_of_form}
use Rattle.core_terms.specs.declared.term.Constructor.{Constructor}
use Rattle.core_terms.specs.declared.term.Term.TheViews.{size-Term}
use Rattle.term_stage.specs.Fitting.{ArmsFit, RowFits, judged}
use Rattle.term_stage.proofs.judge.Judge.+judging.Given as goal

abbrev pub decreases-is_term : goal.decreases-is_term
decreases-is_term l = 8 * size-Term l.term.now

abbrev pub decreases-fits : goal.decreases-fits
decreases-fits l = 8 * size-Term l.term.now + 1

abbrev pub decreases-fits_at : goal.decreases-fits_at
decreases-fits_at l = 8 * size-Term l.term.now + 2

abbrev pub decreases-both : goal.decreases-both
decreases-both l = 8 * max (size-Term l.x.0.now) (size-Term l.y.0.now) + 2

abbrev pub decreases-fits_under : goal.decreases-fits_under
decreases-fits_under l = 8 * size-Term l.term.0.now + 2

abbrev pub decreases-row_fits : goal.decreases-row_fits
decreases-row_fits l = 8 * most size-Term l.terms.now + 3

abbrev pub decreases-each_arm_fits : goal.decreases-each_arm_fits
decreases-each_arm_fits l = 8 * most size-Term l.arms.0.now + 3

abbrev pub decreases-arms_fit : goal.decreases-arms_fit
decreases-arms_fit l = 8 * most size-Term l.arms.1.now + 4

abbrev pub decreases-constructed : goal.decreases-constructed
decreases-constructed l = 8 * most size-Term l.fields.now + 4

abbrev pub decreases-called : goal.decreases-called
decreases-called l = 8 * most size-Term l.call.1.now + 4

abbrev pub decreases-operated : goal.decreases-operated
decreases-operated l = 8 * most size-Term l.operated.1.now + 4

-- what is left of the rows fits in what is left, and then the rows fit
abbrev pub invariant-row_fits-loop-place : goal.invariant-row_fits-loop-place
invariant-row_fits-loop-place l =
    let P = judged l.self.types.now l.self.named.now l.self.state l.self.functions.now in
    let T = types_in l.self.types.now in
    (after : ℕ) → RowFits P (types_at T l.env) (in_a_row (map (expression_of T) (drop l.place l.terms))) (types_at T (drop l.place l.wanted)) l.levels l.left after
    → RowFits P (types_at T l.env) (in_a_row (map (expression_of T) l.terms)) (types_at T l.wanted) l.levels l.fn.left after

abbrev pub invariant-each_arm_fits-loop-place : goal.invariant-each_arm_fits-loop-place
invariant-each_arm_fits-loop-place l =
    let P = judged l.self.types.now l.self.named.now l.self.state l.self.functions.now in
    let T = types_in l.self.types.now in
    let fields = λ (c : Constructor). types_at T c.fields.items in
    (after : ℕ) → ArmsFit P (types_at T l.env) (map fields (drop l.place l.constructors)) (arms_in_a_row (map (expression_of T) (drop l.place l.arms))) (type_of_form T l.wanted) l.levels l.left after
    → ArmsFit P (types_at T l.env) (map fields l.constructors) (arms_in_a_row (map (expression_of T) l.arms)) (type_of_form T l.wanted) l.levels l.fn.left after
