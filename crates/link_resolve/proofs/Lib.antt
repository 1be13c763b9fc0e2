pub mod First
pub mod Named
pub mod Wanted
pub mod Flagged
pub mod Listed
pub mod Joined
