mod Deciding
pub mod Outcome
pub mod RoundTrip
