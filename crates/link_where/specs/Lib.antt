pub mod Pieces
pub mod Commons
pub mod Ends
pub mod Tables
pub mod Named
