pub mod Printed
pub mod Yaml
pub mod ReadBack
pub mod Laws
