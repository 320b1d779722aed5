-- send_replies
mod SentReplies
-- a core that goes on: answer, serve_message, end_at_fault
mod Serving
-- commits that are kept: answer, serve_message, serve_link
mod Growing
mod KeptCommits
mod Keepable
mod KeptBehind
-- a message of a connection: next_heard, serve_message
mod Broken
mod Stopping
mod Answering
mod Prompting
-- a connection: serve_link
mod SoFar
-- links one after another: serve_next, serve_links
pub mod Linking
-- the laws: links
mod LinkHistories
