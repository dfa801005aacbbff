pub mod RoomLaws
pub mod TableLaws
