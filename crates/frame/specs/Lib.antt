pub mod Printout
pub mod Input
