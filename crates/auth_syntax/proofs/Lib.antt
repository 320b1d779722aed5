-- the laws parsing_is_exact and one_is_written: what is read is what the grammar writes, from the tokens of a tree upwards
pub mod Beginnings
pub mod Readers
pub mod Lists
pub mod Heads
pub mod Lengths
pub mod SoMany
pub mod Types
pub mod Expressions
pub mod Declarations
pub mod ToldFormats
pub mod Exact
-- parser::types and parser::expressions, the cycles
pub mod LevelSteps
pub mod Faults
pub mod PartsRead
-- the loops of the parser: lists, arms, constructors and declarations one by one
pub mod MadeOfTokens
pub mod ArmsOneByOne
pub mod Loops
pub mod ListTurns
pub mod ManyTurns
-- the law first_fault_is_first: how the tokens before a fault can be gone on with, from rows of tokens upwards
pub mod Fronts
pub mod FrontRows
pub mod Productions
pub mod Levels
pub mod FrontLengths
pub mod FrontTypes
pub mod FrontLists
pub mod FrontCommas
pub mod FrontArms
pub mod FrontSoMany
pub mod FrontExpressions
pub mod FrontDeclarations
pub mod FrontFormats
pub mod FrontPrograms
-- the law first_fault_is_told
pub mod Told
-- parser::parse: the tree of a text is within the limits
pub mod LimitsOfTokens
pub mod LimitsOfTrees
pub mod WithinLimits
-- the definitions, computed on texts
mod GrammarRows
mod LimitRows
