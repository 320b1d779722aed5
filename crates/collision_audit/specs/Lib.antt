pub mod Splits
pub mod Audits
pub mod AuditLaws
pub mod AuditRows
pub mod PieceAudits
pub mod PieceLaws
pub mod Comparing
pub mod AuditsInCode
