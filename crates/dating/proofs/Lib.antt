pub mod FewReadings
mod Idle
mod Kept
pub mod OneReading
pub mod Readings
mod Runs
mod Tallies
