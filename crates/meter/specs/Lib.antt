pub mod Cover
pub mod Answer
pub mod Search
pub mod Record
pub mod Bound
