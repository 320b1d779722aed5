-- next, next_new, next_back: what bytes offer by their next frame, and the frame from the parts that came
pub mod Offering
pub mod Taking
-- header
pub mod Heads
-- put_header, put_new
pub mod Putting
