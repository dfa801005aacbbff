pub mod Bytes
pub mod Grammar
pub mod Values
pub mod Read
