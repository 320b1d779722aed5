-- reading: the fields of a body, the bytes that come, and that what is read is a message
mod Bodies
pub mod Coming
mod Waits
pub mod Moving
mod OnlyMessages
-- writing
mod Sending
