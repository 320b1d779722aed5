-- rows of core_terms
pub mod TypeRows
pub mod FormatRows
pub mod ValueRows
pub mod SpellingRows
pub mod TreeRows
pub mod MarkRows
pub mod RoleRows
pub mod TermRows
pub mod RuleRows
pub mod FaultRows
pub mod ArrayRows
pub mod FrontRows
-- rows of ideal_meaning
pub mod EndRows
pub mod HeadlineRows
pub mod RingRows
pub mod VerdictRows
pub mod PieceRows
pub mod CauseRows
pub mod FetchedRows
pub mod IntRows
pub mod PartRows
-- the second format, in both
pub mod SecondFormatRows
pub mod ArrayVerdictRows
