-- the library's texts by name, and the numbers of its generator
pub mod Names
pub mod Texts
pub mod Recurrence
-- what the laws are said in: calls and their fuel, keys with their values, what it means to keep a map (`KeepsMap`)
pub mod MoreFuel
pub mod Calls
pub mod Entries
pub mod Maps
-- `bst`, whose program stands in `ideal_meaning`, and its laws
pub mod SearchTree
-- `merkle`, whose program stands there too
pub mod PlaceTree
-- `redblack`
pub mod RedBlackProgram
pub mod RedBlackTree
pub mod ThousandPuts
-- `skiplist`
pub mod SkipListProgram
pub mod SkipList
-- computed rows of all four
pub mod LawRows
