pub mod HeadLaws
pub mod TurnLaws
pub mod Theorem
pub mod Undisturbed
