-- Each file of lemmas, and the laws of laws.rt whose proofs cite it.
pub mod FramesBack  -- `proof_file_read_back`, and each law of verdicts
pub mod FramesBound  -- `frame_bound`
pub mod Ring  -- `ring`
-- `bound`, over expressions and over code
pub mod Nesting
pub mod CodeNesting
pub mod Bounds
pub mod Splitting  -- `one_split`
pub mod Rules  -- `ideal_table`
pub mod Operations  -- `operations`
pub mod ArrayRules  -- `arrays`
-- the ideal and the checked run of an expression, side by side: for the laws of verdicts
pub mod Grows
pub mod InHand
pub mod Relation
pub mod Opening
pub mod Simulation
pub mod Calls
-- `never_stuck`; `Parts` and `ModeLaws` for the crates above too
pub mod Parts
pub mod CodeArrays
pub mod ModeLaws
pub mod Never
-- two runs of code, whatever relates their steps; and the ideal and the checked one, side by side: for the laws of verdicts
pub mod RelatedCode
pub mod Stepping
pub mod CodeStepping
pub mod OnlyAdds
pub mod Tied
pub mod Simulated
-- from runs of expressions and of code to verdicts: `Agreed` is `code_agreement`, `Headline` also `agreement`, `WholePieces` for `fetched_pieces`
pub mod Coded
pub mod AgreeFrom
pub mod Judged
pub mod Projections
pub mod Agreed
pub mod WholePieces
pub mod RoleCalls
pub mod Headline
-- `companion` and `following_proofs`
pub mod NewPieces
pub mod Companion
pub mod Fetching  -- `fetched_pieces`
