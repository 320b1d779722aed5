-- Which functions the files serve. calls::metered_run, its clause `ideal` and then the others:
pub mod Kept
pub mod Outcomes
-- the evaluator: what is told of a run, row and call, and that it ends
pub mod Ended
pub mod Steps
pub mod Called
pub mod Rows
pub mod Weights
-- copies::value_at, and wherever `get` is called
pub mod Locals
-- measures
pub mod ValueViews
pub mod RowMeasures
pub mod Limits
-- the operations: all, then ints::arith, then arrays
pub mod Calculated
pub mod PassedInts
pub mod Elements
