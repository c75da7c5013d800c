pub mod Ids
pub mod CollectingLaws
pub mod Differing
pub mod Accepting
