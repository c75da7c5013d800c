pub mod Certificate
pub mod Pairs
pub mod Sorting
