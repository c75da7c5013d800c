pub mod Disjoint
pub mod Pigeonhole
pub mod Certificate
