pub mod PlacingLaws
pub mod Placement
pub mod Accepting
pub mod Written
pub mod Carrying
pub mod Lookup
pub mod Fitting
