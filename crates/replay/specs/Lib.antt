pub mod Run
pub mod Replay
pub mod Inside
