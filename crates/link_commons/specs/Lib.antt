pub mod Asked
pub mod Rooms
