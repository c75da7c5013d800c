pub mod Lines
pub mod Cases
pub mod Table
