pub mod Seen
pub mod Written
pub mod Calls
pub mod Told
pub mod Turns
