-- `source`
pub mod Named
-- `more_fuel`, and for the laws of all four programs: how a run is followed, what a call gives with more fuel, how a map is kept
pub mod Stepping
pub mod CodeMoreFuel
pub mod MoreFuel
pub mod Settled
pub mod Maps
pub mod EntryLists
-- `bst`
pub mod SearchTree
-- `merkle`
pub mod PlaceTree
-- `redblack`: of its trees, of its runs, and both together
pub mod RedBlackTree
pub mod RedBlackRuns
pub mod RedBlackLaws
pub mod ThousandPuts
-- `skiplist`: of its lanes, of its runs, and both together
pub mod SkipList
pub mod SkipListRuns
pub mod SkipListLaws
