-- `instructions` of code.rt
pub mod Bodies
-- generate.rt: `function_codes`, and rows of terms; arms
pub mod Rows
pub mod ArmRows
-- arms.rt
pub mod Layouts
-- the laws of laws.rt
pub mod CodeSizes
