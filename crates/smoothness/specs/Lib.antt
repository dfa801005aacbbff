pub mod Printout
pub mod Head
pub mod Input
