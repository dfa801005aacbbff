pub mod Look
pub mod Table
pub mod Reached
