pub mod Version
pub mod Written
