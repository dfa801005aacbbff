pub mod BelowLaws
pub mod ListLaws
pub mod TestLaws
pub mod RangeLaws
pub mod LineLaws
pub mod ColumnLaws
pub mod DeskLaws
pub mod AcceptLaws
