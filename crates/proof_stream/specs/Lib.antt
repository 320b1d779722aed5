pub mod Incoming
pub mod TakenFrames
pub mod Written
pub mod Readers
