-- Each file of lemmas, with the function that it serves.
pub mod ToldMoments  -- `make_named`, `open_named`, `found`, `find_last`: moments of a disk, and what both the files and the disk tell
pub mod StopCauses  -- the same, `found_command`, `replay_command`: which counts rose
pub mod JournalsMade  -- `make_named`, `found`
pub mod JournalsOpened  -- `open_named`, `find_last`
pub mod LastVersions  -- `last_output`
pub mod EndsOnDisk  -- `found_command`, `replay_command`: clause `ends`
pub mod CountsOnDisk  -- `found_command`, `replay_command`: the other clauses; `found`, `find_last`: clause `reached`
