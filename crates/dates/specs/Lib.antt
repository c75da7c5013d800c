pub mod Dates
pub mod Inside
