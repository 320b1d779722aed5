pub mod Answered
pub mod Prompt
pub mod AnsweredLinks
pub mod Rows
pub mod Steps
