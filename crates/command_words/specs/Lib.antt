pub mod Commands
pub mod Rows
pub mod Invocations
pub mod CommandLine
pub mod Faults
pub mod Reading
