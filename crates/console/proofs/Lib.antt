pub mod BufferLaws
pub mod DigitLaws
pub mod CeilLaws
pub mod InputLaws
pub mod ProgramLaws
pub mod TextLaws
pub mod TextBelowLaws
