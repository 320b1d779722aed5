pub mod GeneratedCalls
pub mod MovedStates
pub mod TextLaws
pub mod FileCommandRows
