pub mod Numbered
pub mod Inside
