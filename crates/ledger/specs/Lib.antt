pub mod Ledger
pub mod Calls
pub mod Decisions
pub mod Demand
