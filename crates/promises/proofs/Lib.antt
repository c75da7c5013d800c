pub mod Rows
pub mod Without
pub mod Soundness
pub mod After
pub mod Cutting
pub mod Refinement
