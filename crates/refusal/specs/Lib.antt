pub mod Verdict
pub mod Number
pub mod Chain
pub mod Outcome
