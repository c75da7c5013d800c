pub mod Work
pub mod Summary
pub mod Inside
