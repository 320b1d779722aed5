-- Which functions the files serve. `joins`, `upper_name` and `lower_name`:
pub mod NamesTaken
-- the loops `numbers_below`, `numbers_between`, `constructor_list`, `types_behind`, `functions_behind` and `instructions`; faults that are handed on
pub mod Rows
-- `text`
pub mod TextsTaken
-- Before's `joins`, and `named_type`
pub mod ShapesBefore
-- `listed_type` and `instruction`
pub mod Tags
-- `entered` and `function`
pub mod RolesTaken
-- `behind_role` and `function`
pub mod FunctionsTaken
