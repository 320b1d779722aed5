use Rattle.std.proofs.Common.{◌≤◌, ◌+◌, drop, map, take}
use Rattle.std.specs.Prelude.{All}
use Rattle.core_terms.specs.ProgramSizes.{expressions_in_all}
use Rattle.core_terms.specs.ProgramTrees.{function_of}
use Rattle.core_terms.specs.Programs.{types_in}
use Rattle.term_stage.specs.Fitting.{FunctionFits, judged}
use Rattle.term_stage.proofs.judge.Judge.each_function_fits.Given as goal

-- those so far fit, and with what is left there is room for those to come
abbrev pub invariant-loop-function : goal.invariant-loop-function
invariant-loop-function l =
    let T = types_in l.self.types.now in
    let functions = l.self.functions.now in record {
      fit : All (FunctionFits (judged l.self.types.now l.self.named.now l.self.state functions) T) (take l.function-index functions);
      counted : expressions_in_all (map (function_of T) functions) + l.left ≤ expressions_in_all (map (function_of T) (drop l.function-index functions)) + l.limit;
    }
