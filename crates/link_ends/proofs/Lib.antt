-- a link that is served
pub mod StandingLink
pub mod Taken
-- links one after another
pub mod OneMore
pub mod FaultsTold
