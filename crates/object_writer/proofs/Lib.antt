-- Which functions the files serve. Each loop, and functions that add one thing behind another:
pub mod Loops
pub mod LoopForms
-- Numbering's `list`, `list_once` and `new`
pub mod ListedParts
pub mod NumberedTypes
-- the walk
pub mod WalkForms
pub mod ProgramWalk
-- `put_named_types`, `put_named` and `put_named_at`
pub mod NamedBytes
-- `list_functions` and `put_functions`
pub mod OwnCode
pub mod FunctionBytes
-- `put_object` and `write_object`: what the code of a program has room for, and the parts of an object
pub mod SmallCode
pub mod WholeObjects
