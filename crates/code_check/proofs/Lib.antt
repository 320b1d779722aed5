-- Which functions the files serve. All that add to a table of lists, and `without_first`:
pub mod ListsOfTypes
-- all of `spans`, and `count`, `at` and `without_first`
pub mod SpansOfTypes
-- `copied` and `plain`
pub mod CopiedTables
-- `taken_off`
pub mod TakenOperands
-- `met`
pub mod KnownOnce
-- `function_of`
pub mod CalledFunctions
-- `step`, and what it calls
pub mod SteppedFrames
-- `reach`, `lead_on`, and what that calls
pub mod GoneWays
-- `function_fault` and `kind_fault`
pub mod FirstFaults
-- all lists that are made item by item of those of an object
pub mod Zips
-- `type_numbers` and `type_ids`
pub mod TypeNumbers
-- `named_list`
pub mod NamedTypes
-- `all_passed`
pub mod Jumps
-- `listed_parts`: what it owes to those that it calls, then what they give
pub mod PartsThere
pub mod PartsMade
-- `is_state` and `first_misshaped`
pub mod RoleTests
-- `accept` and its parts
pub mod ReadObjects
