-- Both laws of laws.rt. The names that a text declares, from its tokens:
pub mod TextWords
pub mod DeclaredWords
-- code and types without arrays, that name no types but the program's
pub mod ClosedCode
pub mod ClosedBodies
pub mod ClosedTypes
-- what an object asks of the functions, of the named types and of the roles
pub mod CheckedFunctions
pub mod NewNames
pub mod NewRoles
-- the laws from these
pub mod TextPrograms
-- the definitions, computed on a text: no function cites this row
mod TextRows
