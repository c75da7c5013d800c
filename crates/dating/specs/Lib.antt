pub mod Readings
pub mod Says
pub mod Inside
