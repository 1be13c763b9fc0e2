pub mod Grouped
pub mod Pieces
