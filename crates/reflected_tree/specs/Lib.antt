pub mod Reflected
pub mod Written
pub mod Table2
pub mod Reading
pub mod Ancestry
