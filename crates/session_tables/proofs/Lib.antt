-- a vector of entries as a table: `place_of`, `find`, `put`, `take`
pub mod Steps
-- tables whose values are related, for the crates above
pub mod Related
