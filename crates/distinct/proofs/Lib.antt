pub mod Differing
pub mod Chaining
