pub mod Groups
pub mod Laws
mod Reading
mod Writing
pub mod Runs
