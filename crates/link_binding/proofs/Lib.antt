pub mod Libraries
pub mod Choice
pub mod Spoken
pub mod Wanting
