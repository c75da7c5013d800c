pub mod Finding
pub mod PartialOrder
