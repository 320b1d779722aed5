-- Each file of lemmas, and the functions whose proofs cite it.
pub mod ServedVersions  -- the law `served_versions`
pub mod AskTruths  -- `run`: clause `told_truth`
pub mod DrawTruths  -- `run`: clause `drawn_truth`
pub mod Called  -- `ended`, `run`
pub mod AnsweredCalls  -- `run`: what the steps of an answer went on with
pub mod AcceptedCalls  -- `run`: clauses `companion`, `audited`
pub mod VerifiedCalls  -- `run`: clause `companion`
pub mod TrueAudits  -- `run`: clause `audited`
pub mod AuditedRuns  -- `run`: clauses `audited`, `split`
pub mod AnsweredRuns  -- `run`: clauses `companion`, `proves`, `audited`, `split`
pub mod Answered  -- `run`: by the number of its status
pub mod RunCounts  -- `run`: clauses `fault`, `rose`, `write_fault`
pub mod NetRuns  -- `carry_out`, `ended`, `run`: words that may call a command on the net or on a disk
pub mod MemoryRuns  -- `ended`: words for which memory was wanting
pub mod TrueLine  -- `run`: clause `headline`
pub mod TrueFetch  -- `run`: clause `fetched`
