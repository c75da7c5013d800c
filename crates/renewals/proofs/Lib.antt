pub mod Counting
pub mod Days
pub mod Later
pub mod Renewals
pub mod Running
