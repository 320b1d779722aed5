-- Which functions the files serve. The law `splits`:
pub mod FirstSplits
-- the law `verdicts`
pub mod OnProof
-- the law `headline`, and audit
pub mod AuditHeadline
-- the law `front`
pub mod WholeFrames
pub mod FrontOffers
pub mod FrontAudits
pub mod Refusals
-- the law `by_pieces`
pub mod Reaching
pub mod ByPieces
-- take
pub mod Taking
-- compare, compare_to_end, compare_file
pub mod Parting
-- audit, audit_run
pub mod Audits
