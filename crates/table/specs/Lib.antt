pub mod Columns
pub mod Check
pub mod Sound
pub mod Places
pub mod InUse
pub mod Inside
