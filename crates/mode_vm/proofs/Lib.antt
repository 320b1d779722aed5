-- Which functions the files serve. The stacks, and begin_call:
pub mod Topmost
pub mod Stacking
-- A frame that goes on behind an instruction, by its values:
pub mod Scalars
pub mod Frames
pub mod Placing
pub mod Operands
pub mod Made
pub mod Enough
-- the literals and ints: an int that is passed
pub mod PassedInts
-- arith and compare; compare_texts, concat and length; pair, first and second
pub mod IntOperations
pub mod TextOperations
pub mod Parts
pub mod PairOperations
pub mod ArrayOperations
pub mod Elements
-- load
pub mod LoadedLocals
-- call, begin, parameter_count and give_back
pub mod Calls
pub mod LastCalls
pub mod ParameterCounts
pub mod Returns
-- jump and switch; not and branch; bind and unbind; make
pub mod Jumps
pub mod Switching
pub mod Branching
pub mod Binding
pub mod Constructing
-- act and act_rarely of a frame; State's act, fetch and next, enter
pub mod OwnInstructions
pub mod Lifting
pub mod Entering
-- the machine: start, auth, unauth, step, run_slice
pub mod Starting
pub mod TypesAlone
pub mod Authenticating
pub mod Opens
pub mod Stepping
pub mod Answering
pub mod Slicing
pub mod SparedNodes
-- the ideal mode, over ideal nodes and the prover's, and runs in it
pub mod IdealOpenings
pub mod IdealOutcomes
-- the law `growing`, and what a paused machine takes, for the modes
pub mod Growing
pub mod Fuel
-- calls on a state and an argument, for the modes
pub mod StateCalls
pub mod StateRoles
