-- plays one behind another: `take_one`, `take_replies`, `play_step`, `play`
pub mod Worlds
-- and on the bytes that came, where the link or the sink broke one off: the clauses `takes` and `prompt` of the same functions, and `halts` in `played`
mod LeastTaken
mod Awaited
pub mod Halted
pub mod HaltedLines
mod HaltRows
-- what a reply that is heard changes: `hear`
pub mod Heard
-- what is told of an answer: `hear`, `telling_of`, `made_state`, the lines
pub mod Told
-- what one reply or one line of a script does: `take_one`, `take_replies`, `ask`, `ask_and_wait`, `let_run`
pub mod Steps
-- what is told of a reply, and of none: `hear`, `next_telling`
pub mod HeardReplies
-- what a line that asks does: `ask`
pub mod Asked
-- a play as a run of the client: the law `plays_tell_truth`
pub mod Runs
-- a line behind others, and bytes that moved: `ask_and_wait`, `let_run`, `play_step`, `play`
pub mod Played
