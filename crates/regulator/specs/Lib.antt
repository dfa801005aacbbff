pub mod Outcome
pub mod Sums
pub mod Scale
pub mod Boost
pub mod Period
