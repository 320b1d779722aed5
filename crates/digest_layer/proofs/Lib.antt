-- The lemmas that serve read_hex.
pub mod ReadDigits
