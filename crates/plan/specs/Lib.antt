pub mod Below
pub mod Flag
pub mod Lines
pub mod Columns
pub mod Range
pub mod Accept
pub mod Desk
pub mod NoPlan
