-- the fourth pass, what its functions share: the forms of trees and of terms, where an elaborator stands, what is found of a part
pub mod TreeViews
pub mod ElaboratorSteps
pub mod FindingSteps
-- `form`, `local`, `plain` and `text` of elaborator.rt, and leaves.rt; operations.rt; calls.rt, the names and then the terms; `bind_each` of binders.rt
pub mod ArrayForms
pub mod LocalSteps
pub mod OperationSteps
pub mod CallSteps
pub mod ApplicationSteps
pub mod BoundNames
-- joins.rt, parts.rt, and `two` of bodies.rt
pub mod JoinSteps
-- the cycle of bodies.rt: conditions; rows; operations on arrays, with arrays.rt; matches and their arms; parts that are refused
pub mod ExpressionSteps
pub mod RowSteps
pub mod ArraySteps
pub mod MatchSteps
pub mod ArmSteps
pub mod RefusedParts
pub mod LiteralSteps
-- `enter`, `function` and `fourth_pass` of functions.rt
pub mod FunctionSteps
-- `all_passes` of check.rt
pub mod PassesOfTrees
pub mod ProgramOfPasses
-- the laws of laws.rt: one file for each thing that a program which passes is held to, and the laws from these
pub mod SoundBodies
pub mod SoundFunctions
pub mod SoundTypes
pub mod SoundLiterals
pub mod SoundSizes
pub mod LimitsOfPrograms
pub mod SoundPrograms
-- the laws of expressions and of programs: what passes by the rules, and what breaks them first
pub mod Judging
pub mod TakenArrays
pub mod NamedParts
pub mod JudgedNames
pub mod JudgedBodies
pub mod RuledBodies
pub mod RulesOfBodies
pub mod Ruled
pub mod RuledSpaces
pub mod RuledDeclarations
pub mod RuledTypeNames
pub mod RuledRoles
pub mod RuledPrograms
pub mod RuledTypes
-- the definitions, computed: no function cites these rows
pub mod Rows
pub mod RowsOfLimits
pub mod ArrayRows
pub mod SoundRows
