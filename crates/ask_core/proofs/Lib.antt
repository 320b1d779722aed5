-- what is read of bytes: `check_state`, `spelled_call`
pub mod Reading
-- what is refused before anything is sent: `hello`, `call`, `bye`
pub mod Refusing
-- what is sent: the same
pub mod Asking
-- what is seen: `waiting`, `state`
pub mod Seeing
-- what is seen of all sessions: `any_waits`, `any_calls`, `called`
pub mod SeenSessions
-- the role of a call: `role_called`, `proof_replied`, `state_behind`
pub mod Called
-- what follows of a reply to a session that waits: `greeting_replied`, `leaving_replied`, `calling_replied`
pub mod Following
-- and of a proof, by its verdict: `proof_replied`
pub mod Judged
-- the state behind an accepted outcome: `state_behind`
pub mod StatesBehind
-- what is taken of a reply: `take_reply`
pub mod Taking
