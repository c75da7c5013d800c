pub mod Running
pub mod Carrying
pub mod Growing
pub mod Room
