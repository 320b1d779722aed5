-- compiled.rt
pub mod CompiledSum
-- the cycle of judge.rt
pub mod Fitted
-- parts.rt: a program of parts that fit
pub mod FittingParts
-- shapes.rt
pub mod Shaped
