pub mod Ids
pub mod Judging
pub mod Inside
