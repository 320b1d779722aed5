pub mod Clients
pub mod Turns
pub mod Answers
pub mod Checks
pub mod Replies
pub mod Sessions
