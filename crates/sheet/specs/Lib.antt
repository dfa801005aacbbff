pub mod Argument
pub mod Sheet
