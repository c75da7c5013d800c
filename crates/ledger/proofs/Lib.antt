pub mod Replaced
pub mod Agree
pub mod Orders
pub mod Step
pub mod Answering
pub mod OneCall
pub mod Starting
mod Deciding
pub mod Whole
