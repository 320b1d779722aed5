-- Each file of lemmas, and the functions whose proofs cite it.
pub mod PlainWords  -- `read`: words without a flag
pub mod Leaves  -- `read`: how clap finds a command by its name
pub mod Counts  -- `read`: clap takes as many texts as a command has arguments
pub mod Levels  -- `read`: clap's verdict on a command's name
pub mod Judging  -- `read` and the law `refused_exactly`
pub mod ClapErrors  -- `judge`
