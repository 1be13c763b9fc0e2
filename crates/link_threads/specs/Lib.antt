pub mod Pointer
