pub mod Lines
pub mod LineRows
pub mod SessionLines
pub mod OutcomeLines
