pub mod Choices
pub mod Columns
pub mod Counts
pub mod Valid
