pub mod A64
pub mod Laws
pub mod Machines
pub mod Patch
pub mod Rules
pub mod Table
pub mod Values
pub mod X86
