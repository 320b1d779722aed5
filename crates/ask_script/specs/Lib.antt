pub mod ScriptAnswers
pub mod ScriptLaws
pub mod ScriptRows
pub mod Scripts
