pub mod Stored
pub mod RoundTrips
