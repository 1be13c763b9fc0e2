pub mod Noted
pub mod Heard
pub mod RoomList
