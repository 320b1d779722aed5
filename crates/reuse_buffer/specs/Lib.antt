pub mod Kept
pub mod Index
