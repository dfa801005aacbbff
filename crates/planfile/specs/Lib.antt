pub mod Layout
pub mod Read
pub mod Write
