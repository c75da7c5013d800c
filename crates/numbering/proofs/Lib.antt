pub mod NumberingLaws
pub mod Columns
pub mod Plane
