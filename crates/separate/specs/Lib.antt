pub mod Separate
pub mod Inside
