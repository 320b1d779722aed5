-- Which functions the files serve. The law `spelling`:
pub mod Numbers
pub mod Fields
pub mod Spelled
pub mod ReadOnly
-- the law `projection`
pub mod Projection
pub mod ReadBack
pub mod Plain
-- the law `typing`: kinds of code, types, then shapes of roles
pub mod SameTypes
pub mod KindsSound
pub mod TypingSound
pub mod TypingComplete
pub mod Reach
pub mod Shapes
-- the four laws, from these
pub mod LawProofs
-- what other crates know of every program
pub mod CodePrograms
pub mod TypesAlone
-- the table of types
pub mod TypeTables
pub mod TypePushing
pub mod Arrayless
-- the printed declarations of types
pub mod TypeTexts
-- the fingerprints of types
pub mod Fingerprints
-- the marks of types
pub mod AuthLevels
-- roles_of, and Program's role
pub mod Places
pub mod FoundRoles
-- Program's new, compiled and roles, then the constructor of Types
pub mod TypeParts
pub mod Limited
pub mod RoleShapes
pub mod Constructors
-- the definitions of limits, computed on cases
mod LimitRows
-- for the crates above: what terms stand for, by their forms
pub mod TermViews
-- for the crates above: lists of bytes, and of items that belong together
pub mod ByteLists
pub mod DecidedTypes
