-- Each file of lemmas, and the functions whose proofs cite it.
pub mod ReadWithin  -- `unspell_behind`
pub mod Fronts  -- `behind_front`, `unauth`
pub mod Pieces  -- `open_piece`, `unauth`
pub mod Fetching  -- `fetched_run`
pub mod Judged  -- `verify_from`: clause `judges`
pub mod Completing  -- `verify_from`: clause `complete`
