-- `held_int`
pub mod EmptyPrograms
