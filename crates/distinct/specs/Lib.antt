pub mod Distinct
pub mod Inside
