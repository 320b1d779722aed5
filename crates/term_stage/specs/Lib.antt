pub mod Fitting
pub mod Compiled
