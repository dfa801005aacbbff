pub mod Flow
pub mod Answer
pub mod Places
pub mod Moves
pub mod Sends
pub mod Counts
pub mod Valid
pub mod Slot
