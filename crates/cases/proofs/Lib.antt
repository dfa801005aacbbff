pub mod Theorem
pub mod OwnRuns
pub mod RunOfL4
pub mod RunOfL5
pub mod SharesReached
