-- a message of a connection: next_asked, answer, answer_message
mod Asking
mod Answering
-- a connection: answer_link
mod SoFar
-- links one after another: answer_next, answer_links
mod Links
