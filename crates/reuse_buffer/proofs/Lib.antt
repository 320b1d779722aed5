-- `place_in` and `walked`, `push_in` and `push_unindexed`: where pieces stand, how the ring turns, and how those of a bucket are linked
pub mod Places
pub mod Turning
pub mod Linking
