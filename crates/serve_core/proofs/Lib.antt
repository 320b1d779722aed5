-- all steps: rows, and what a core serves behind a change of its sessions or its count
pub mod Steps
-- admit, start: the tests of a call, and a session in which it begins to run
pub mod Calls
-- start, hello, bye, go, answer: what each comes to
pub mod Answering
-- for the crates above: a server whose sessions are ended behind a message was stopped at it
pub mod StoppedBehind
