-- Each file of lemmas, and the functions whose proofs cite it.
pub mod Mem  -- MemFiles: `read`, `store`, `last_named`
pub mod Coming  -- `load_all`
mod Nets  -- MemNet: `open`, `accept`, `dial`
pub mod Moved  -- `fill`, `send_all`, `write_all`
pub mod Waiting  -- `fill`, and what reads from a link in the crates above
mod LinkMoments  -- MemLink: `read`, `send`
pub mod DiskCalls  -- ChosenFile: `write`, `sync`
pub mod ChosenMoments  -- MemDisk: `write_at`, `write_chosen`, `sync_chosen`
