pub mod Values
pub mod Filled
pub mod Column
pub mod Bytes
