pub mod Dating
pub mod Renewals
