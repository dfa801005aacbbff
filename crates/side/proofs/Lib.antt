pub mod ListLaws
pub mod TouchLaws
pub mod PlaceLaws
pub mod CountLaws
pub mod NameLaws
pub mod ChoiceLaws
pub mod ColumnLaws
pub mod ValidLaws
