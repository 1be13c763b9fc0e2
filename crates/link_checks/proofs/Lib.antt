pub mod Firsts
pub mod Searched
pub mod Listed
