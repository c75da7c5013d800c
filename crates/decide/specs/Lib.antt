pub mod Decision
pub mod Inside
