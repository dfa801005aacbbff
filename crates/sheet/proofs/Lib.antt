pub mod ArgumentLaws
pub mod SheetLaws
pub mod Examples
