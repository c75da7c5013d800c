pub mod Limits
pub mod Capacities
pub mod Answers
pub mod Refusals
pub mod Buffers
pub mod Pick
pub mod Says
