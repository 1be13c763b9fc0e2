pub mod Comes
pub mod Uses
pub mod Passes
pub mod Laws
