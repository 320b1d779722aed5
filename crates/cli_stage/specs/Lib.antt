pub mod WaitingNets
