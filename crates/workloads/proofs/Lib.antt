-- spelled: what stands at a type, by the types that the code lends
pub mod SpelledParts
-- checked_call, verified: a file that is accepted is not refused, and the verifier tells what the ideal run comes to
pub mod VerifiedFiles
-- checked_call, put, get: what is called stands for a state and an argument
pub mod CalledRoles
-- put, get: a mark behind which a node still stands
pub mod CutNodes
-- checked_call: the sums
pub mod CountedCalls
-- put, new_state: the state behind it
pub mod PutStates
-- run_round, run_workload: one round, and one more of many
pub mod RoundSums
