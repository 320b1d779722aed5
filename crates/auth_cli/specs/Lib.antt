pub mod ServedHistories
pub mod NetRuns
pub mod NetRows
pub mod RunsInCode
