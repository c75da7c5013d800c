pub mod Placing
pub mod Verdicts
