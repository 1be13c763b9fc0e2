pub mod Counted
pub mod Ends
pub mod EntryCount
pub mod Multiples
pub mod NameSizes
pub mod Shown
pub mod SlotSizes
pub mod TablesThere
