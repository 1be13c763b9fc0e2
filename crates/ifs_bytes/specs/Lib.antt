pub mod Carried
pub mod Field
pub mod Name
pub mod Numeral
pub mod Outcome
pub mod Places
