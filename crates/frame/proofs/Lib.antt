pub mod PrintoutLaws
pub mod RoomLaws
pub mod Examples
