pub mod HeadRecord
