pub mod HostNets
