pub mod Listing
pub mod Folding
pub mod RoundTrip
pub mod Items
