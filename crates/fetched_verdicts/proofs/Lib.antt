-- `SameRuns`: runs in two modes that open the same. `GivenAnswers`, `ReplayedAnswers`: the verdict over a store and the one over answers, for
-- `laws::over_answers`. `TrueOverStores`: `laws::headline` and `laws::complete`.
pub mod SameRuns
pub mod GivenAnswers
pub mod ReplayedAnswers
pub mod TrueOverStores
