pub mod Text
pub mod Refused
pub mod Input
pub mod TextBelow
pub mod Program
