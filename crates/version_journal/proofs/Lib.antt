-- Each file of lemmas, and the functions whose proofs cite it.
-- torn files, and what stays of them behind a closed gate; writes that are synced: `write_through`, `add_record`, and through it `make_of`, `add`, `append`; `open`
mod Tearing
mod ClosedGates
mod WritingThrough
mod Appending
mod FileFronts  -- `read_whole`
-- the laws `journals`, on which all that reads or writes one stands: journals are read back, and what survives
pub mod ReadBack
pub mod Survival
mod Recasting  -- `make_of`, `add`, `append`: by what the file keeps
mod PartsRead  -- `read_head`, `next_record` and what they read
-- `append_all`
mod Kept
mod Stepping
mod MadeAgain  -- `replay`
mod Reopening  -- `read_journal`, `first_version`
-- `open`: `BegunVersions` what a server may begin with; `ServedBack` for the law `served`
mod BegunVersions
pub mod ServedBack
mod OpenedFiles
mod KeptCommits  -- `keep` of JournalKeeper
