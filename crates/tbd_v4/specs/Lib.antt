pub mod Places
pub mod Listed
pub mod Lines
pub mod Printed
