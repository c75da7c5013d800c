pub mod Walking
pub mod Parts
pub mod Received
