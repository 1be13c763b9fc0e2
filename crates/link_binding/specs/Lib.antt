pub mod Libraries
pub mod Bind
pub mod WantedNames
pub mod Row
