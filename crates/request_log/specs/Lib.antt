pub mod Log
pub mod Room
