pub mod Deciding
pub mod Ends
pub mod Reading
pub mod Sentences
pub mod Unchanged
