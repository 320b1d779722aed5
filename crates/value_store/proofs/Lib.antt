-- Which functions the files serve. The law `nodes`, and with it each put:
pub mod NodeLists
pub mod SoundNodes
pub mod Moved
-- the law `standing`
pub mod OneValue
pub mod TypedNodes
pub mod KeptSizes
pub mod StandingNodes
pub mod DeepNodes
-- the law `kinds`
pub mod ProverNodes
-- the trait's puts: put_pair, put_constructor, put_auth
pub mod PutNodes
-- the sizes and the depths of some nodes
pub mod CodeLists
-- packed nodes: put, view, cut_to
pub mod Places
pub mod Pools
pub mod PackedPuts
pub mod Viewed
-- the puts of a store and of own nodes
pub mod AddedNodes
-- what a marker of another crate makes
pub mod MarkedNodes
-- a store that is cut, and own nodes over one
pub mod Overs
-- absorb: the nodes that are moved, the loops that move them, the store after them
pub mod Renumbered
pub mod Overwriting
pub mod Joined
pub mod AbsorbedPools
pub mod Absorbed
