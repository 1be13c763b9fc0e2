pub mod Once
mod Names
mod Files
mod Slots
pub mod Worked
mod LinksSeeFacts
mod InOrder
mod LaidOut
mod Least
pub mod WorkedImage
