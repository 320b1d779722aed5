pub mod Faults
pub mod Takings
pub mod Moving
pub mod CheckedRuns
pub mod Verdicts
pub mod CallParts
pub mod Spelled
pub mod LastReads
