pub mod PlainValues
pub mod Measured
pub mod Telling
pub mod Evaluations
