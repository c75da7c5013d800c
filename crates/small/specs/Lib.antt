pub mod Shapes
pub mod Small
pub mod Promise
