-- The document that an interface is printed as has that interface.
pub mod Nodes
pub mod Entries
pub mod Values
pub mod Symbols
pub mod Targets
pub mod Roots
pub mod Whole
