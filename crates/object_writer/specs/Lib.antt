pub mod Adding
pub mod CodeNumbers
pub mod NamedNumbers
pub mod Numberings
pub mod WrittenTypes
pub mod WrittenFunctions
pub mod WrittenAs
