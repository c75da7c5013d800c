pub mod Refine
pub mod Inside
