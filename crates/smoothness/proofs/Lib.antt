pub mod RecordLaws
pub mod StretchLaws
pub mod PrintoutLaws
pub mod RoomLaws
pub mod Examples
