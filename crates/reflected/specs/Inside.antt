pub mod Nodes
pub mod Reading
pub mod Writing
