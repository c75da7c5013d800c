pub mod Bools
pub mod Cases
pub mod Ranges
pub mod Answers
pub mod Buffers
pub mod Pieces
