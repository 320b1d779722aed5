-- `read_number`, `has_digits_alone`; and what a number that was read says of its text, for the crates above
pub mod Numbers
