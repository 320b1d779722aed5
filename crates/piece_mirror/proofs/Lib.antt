-- Each file of lemmas, and the functions whose proofs cite it.
pub mod Places  -- `put` and what it calls, `stands_from`, `save`
pub mod FilePieces  -- `file_len`, `load`, `save`
pub mod FileBack  -- `save`: clause `loads`
pub mod Answered  -- `fetch`
pub mod Filling  -- `fill`, `piece_at`
