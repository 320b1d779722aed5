pub mod LinkStops
pub mod Ends
pub mod MoreLinks
pub mod Rows
pub mod EndCauses
