pub mod Codes
pub mod Inside
