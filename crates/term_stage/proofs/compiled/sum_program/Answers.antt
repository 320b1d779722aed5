use Rattle.std.proofs.Common.{rules}
use Rattle.term_stage.proofs.CompiledSum.{sum_typed, sum_limits, sum_within}
use Rattle.term_stage.proofs.compiled.sum_program.Goals as goal

pub compiled-program-requires-clause-typed : goal.compiled-program-requires-clause-typed
compiled-program-requires-clause-typed c =
    sum_typed c.in_ok-types.types c.in_ok-types.int c.in_ok-function.function c.in_ok-sum_code.field-0 c.in_ok-name.field-0 (search rules) (search rules) (search rules) (search rules)
    c.new.result.items c.in_ok-functions.functions.items c.in_ok-code.code.items (search rules) (search rules) (search rules)

pub compiled-program-requires-clause-within : goal.compiled-program-requires-clause-within
compiled-program-requires-clause-within c = search (rules, sum_within)

pub compiled-program-requires-clause-limits : goal.compiled-program-requires-clause-limits
compiled-program-requires-clause-limits c =
    sum_limits c.in_ok-types.types c.in_ok-types.int c.in_ok-function.function c.in_ok-sum_code.field-0 c.in_ok-name.field-0 (search rules) (search rules) (search rules) (search rules) (search rules)
    c.new.result.items c.in_ok-functions.functions.items c.in_ok-code.code.items (search rules) (search rules) (search rules)
