pub mod Workloads
pub mod Sums
pub mod WorkloadRows
