pub mod LayoutLaws
pub mod ReadLaws
pub mod CutLaws
pub mod WriteLaws
pub mod Examples
